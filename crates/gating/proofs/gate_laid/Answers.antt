-- `gate_laid` meets its contract, by those of the functions that it calls. Assumes nothing.
use native.Mathlib.Omega.{arith}
use Rattle.gating.proofs.Batches.{many, chained, fitting, own_drafts, no_drafts}
use Rattle.gating.proofs.gate_laid.Goals as goal

pub gate_depth-depth-requires-clause-fits : goal.gate_depth-depth-requires-clause-fits
gate_depth-depth-requires-clause-fits c = let a = c.args in chained a.lengths.now a.ask.sequences a.gamma c.requires.lengths_value.0 a.chains.now c.requires.lengths_value.1 c.requires.gamma_bound.1 c.requires.gamma_bound.0

pub gate_depth-depth-requires-clause-curve_nonzero : goal.gate_depth-depth-requires-clause-curve_nonzero
gate_depth-depth-requires-clause-curve_nonzero c = let a = c.args in (omega (arith, c.requires.gamma_bound.2), omega (arith, c.requires.gamma_bound.0, c.requires.gamma_bound.2))

pub gate-weighed-requires-clause-fits : goal.gate-weighed-requires-clause-fits
gate-weighed-requires-clause-fits c = let a = c.args in
    let d = c.gate_depth-depth.ensures.upper_bound in
    let m = many a.lengths.now a.ask.sequences a.gamma c.requires.lengths_value.0 in fitting a.lengths.now a.ask.sequences a.gamma c.requires.lengths_value.0 a.chains.now c.requires.lengths_value.1 c.requires.gamma_bound.1 c.requires.gamma_bound.0

pub gate-weighed-requires-clause-depth_in_bounds : goal.gate-weighed-requires-clause-depth_in_bounds
gate-weighed-requires-clause-depth_in_bounds c = let a = c.args in
    let d = c.gate_depth-depth.ensures.upper_bound in
    let m = many a.lengths.now a.ask.sequences a.gamma c.requires.lengths_value.0 in (omega (arith, d, c.requires.gamma_bound.2), omega (arith, c.requires.gamma_bound.0, c.requires.gamma_bound.2))

pub gate-weighed-requires-clause-drafts_len : goal.gate-weighed-requires-clause-drafts_len
gate-weighed-requires-clause-drafts_len c = let a = c.args in
    let d = c.gate_depth-depth.ensures.upper_bound in
    let m = many a.lengths.now a.ask.sequences a.gamma c.requires.lengths_value.0 in omega (arith, c.requires.gamma_bound.3, m)

pub returns-then-own : goal.returns-then-own
returns-then-own c =
    let a = c.args in
    own_drafts a.lengths.now a.ask.sequences a.gamma c.requires.lengths_value.0 a.settings.prices a.settings.drafter a.ask.rates a.loaded.now a.curve.now a.chains.now c.requires.gamma_bound.2 _ _ c.loaded_at-experts.ensures c.gate_depth-depth.ensures.value a.own _ _ a.drafts.now c.if-own.true c.gate-weighed.ensures

pub returns : goal.returns
returns c =
    let a = c.args in
    no_drafts a.lengths.now a.ask.sequences a.gamma c.requires.lengths_value.0 a.settings.prices a.settings.drafter a.ask.rates a.loaded.now a.curve.now a.chains.now c.requires.gamma_bound.2 _ _ c.loaded_at-experts.ensures c.gate_depth-depth.ensures.value a.own a.drafts.now c.if-own.false
