-- `depth::aggregate_depth` meets its contract: refused, or the rules' best depth of the chains' expected values. Assumes nothing.
use mathlib.Core.Path.{◌≡◌, sym, ◌∙◌}
use native.Mathlib.Omega.{arith}
use lib.ListN.{length-take}
use Rattle.std.specs.Prelude.{Ok}
use Rattle.goodput_judges.specs.Refusals.{aggregate_judged}
use Rattle.goodput_judges.proofs.Passed.{aggregate_passed}
use Rattle.goodput.proofs.Answers.{batch_fits, batch_found}
use Rattle.goodput.proofs.depth.aggregate_depth.Goals as goal

pub slice_bounds-gate_depth-end : goal.slice_bounds-gate_depth-end
slice_bounds-gate_depth-end c =
    let a = c.args in
    let judged : aggregate_judged a.chains.now a.lengths.now a.curve.now a.gamma a.drafter a.rates a.loaded.now ≡ Ok tt = sym c.judge_aggregate.ensures ∙ c.in_ok-judge_aggregate.was in
    let w = aggregate_passed a.chains.now a.lengths.now a.curve.now a.gamma a.drafter a.rates a.loaded.now judged in
    simp length-take (omega (arith, w.prices))

pub gate_depth-requires-clause-fits : goal.gate_depth-requires-clause-fits
gate_depth-requires-clause-fits c =
    let a = c.args in
    let judged : aggregate_judged a.chains.now a.lengths.now a.curve.now a.gamma a.drafter a.rates a.loaded.now ≡ Ok tt = sym c.judge_aggregate.ensures ∙ c.in_ok-judge_aggregate.was in
    batch_fits a.chains.now a.lengths.now a.curve.now a.gamma a.drafter a.rates a.loaded.now judged

pub gate_depth-requires-clause-curve_nonzero : goal.gate_depth-requires-clause-curve_nonzero
gate_depth-requires-clause-curve_nonzero c =
    let a = c.args in
    let judged : aggregate_judged a.chains.now a.lengths.now a.curve.now a.gamma a.drafter a.rates a.loaded.now ≡ Ok tt = sym c.judge_aggregate.ensures ∙ c.in_ok-judge_aggregate.was in
    let w = aggregate_passed a.chains.now a.lengths.now a.curve.now a.gamma a.drafter a.rates a.loaded.now judged in
    simp length-take (omega (arith, w.prices), omega (arith, w.prices, w.sized.shallow))

pub returns : goal.returns
returns c =
    let a = c.args in
    let judged : aggregate_judged a.chains.now a.lengths.now a.curve.now a.gamma a.drafter a.rates a.loaded.now ≡ Ok tt = sym c.judge_aggregate.ensures ∙ c.in_ok-judge_aggregate.was in
    batch_found a.chains.now a.lengths.now a.curve.now a.gamma a.drafter a.rates a.loaded.now judged _ _ c.loaded_at-experts.ensures c.gate_depth.ensures.value
