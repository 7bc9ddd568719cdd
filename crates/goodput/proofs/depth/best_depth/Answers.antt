-- `depth::best_depth` meets its contract: refused, or the rules' best depth, which is what the loop ends with. Assumes nothing.
use mathlib.Core.Path.{◌≡◌, sym, ◌∙◌}
use native.Mathlib.Omega.{arith}
use lib.ListN.{length-take}
use Rattle.std.specs.Prelude.{Ok}
use Rattle.goodput_judges.specs.Refusals.{depth_judged}
use Rattle.goodput_judges.proofs.Passed.{depth_passed}
use Rattle.goodput.proofs.Answers.{depth_found}
use Rattle.goodput.proofs.depth.best_depth.Goals as goal

pub slice_bounds-depth_over-end : goal.slice_bounds-depth_over-end
slice_bounds-depth_over-end c =
    let a = c.args in
    let judged : depth_judged a.expected.now a.curve.now a.gamma a.n a.drafter a.rates a.loaded.now ≡ Ok tt = sym c.judge_depth.ensures ∙ c.in_ok-judge_depth.was in
    let w = depth_passed a.expected.now a.curve.now a.gamma a.n a.drafter a.rates a.loaded.now judged in
    simp length-take (omega (arith, w.values))

pub slice_bounds-depth_over-end-2 : goal.slice_bounds-depth_over-end-2
slice_bounds-depth_over-end-2 c =
    let a = c.args in
    let judged : depth_judged a.expected.now a.curve.now a.gamma a.n a.drafter a.rates a.loaded.now ≡ Ok tt = sym c.judge_depth.ensures ∙ c.in_ok-judge_depth.was in
    let w = depth_passed a.expected.now a.curve.now a.gamma a.n a.drafter a.rates a.loaded.now judged in
    simp length-take (omega (arith, w.prices))

pub depth_over-requires-clause-expected_len : goal.depth_over-requires-clause-expected_len
depth_over-requires-clause-expected_len c =
    let a = c.args in
    let judged : depth_judged a.expected.now a.curve.now a.gamma a.n a.drafter a.rates a.loaded.now ≡ Ok tt = sym c.judge_depth.ensures ∙ c.in_ok-judge_depth.was in
    let w = depth_passed a.expected.now a.curve.now a.gamma a.n a.drafter a.rates a.loaded.now judged in
    simp length-take (omega (arith, w.values, w.prices))

pub depth_over-requires-clause-curve_len_bound : goal.depth_over-requires-clause-curve_len_bound
depth_over-requires-clause-curve_len_bound c =
    let a = c.args in
    let judged : depth_judged a.expected.now a.curve.now a.gamma a.n a.drafter a.rates a.loaded.now ≡ Ok tt = sym c.judge_depth.ensures ∙ c.in_ok-judge_depth.was in
    let w = depth_passed a.expected.now a.curve.now a.gamma a.n a.drafter a.rates a.loaded.now judged in
    simp length-take (omega (arith, w.prices, w.sized.shallow))

pub returns : goal.returns
returns c =
    let a = c.args in
    let judged : depth_judged a.expected.now a.curve.now a.gamma a.n a.drafter a.rates a.loaded.now ≡ Ok tt = sym c.judge_depth.ensures ∙ c.in_ok-judge_depth.was in
    depth_found a.expected.now a.curve.now a.gamma a.n a.drafter a.rates a.loaded.now _ _ judged c.loaded_at-experts.ensures c.depth_over.ensures
