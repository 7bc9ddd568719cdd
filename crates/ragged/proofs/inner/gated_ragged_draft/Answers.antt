-- `inner::gated_ragged_draft` meets its contract, by those of the functions that it calls. Assumes nothing.
use native.Mathlib.Omega.{arith}
use Rattle.verify_prices.specs.Rule.{rule_of}
use Rattle.ragged.proofs.Whole.{ragged_none, ragged_some, ragged_fits}
use Rattle.ragged.proofs.inner.gated_ragged_draft.Goals as goal

pub returns-then-depth-eq0 : goal.returns-then-depth-eq0
returns-then-depth-eq0 c =
    let a = c.args in
    ragged_none (rule_of a.mode a.curve.now) a.chains.now a.lengths.now a.depth a.kind a.rates a.loaded.now _ c.start_widths.ensures c.if-depth-eq0.true

pub trim_by-requires-clause-fits : goal.trim_by-requires-clause-fits
trim_by-requires-clause-fits c = let fits = ragged_fits _ c.requires.fits c.start_widths.ensures in fits.0

pub trim_by-requires-clause-at_most : goal.trim_by-requires-clause-at_most
trim_by-requires-clause-at_most c = let fits = ragged_fits _ c.requires.fits c.start_widths.ensures in (fits.1, omega (arith, c.requires.depth_in_bounds))

pub trim_by-requires-clause-in_bounds : goal.trim_by-requires-clause-in_bounds
trim_by-requires-clause-in_bounds c = let fits = ragged_fits _ c.requires.fits c.start_widths.ensures in (omega (arith, c.if-depth-eq0.false, c.requires.depth_in_bounds), c.requires.depth_in_bounds.1)

pub returns : goal.returns
returns c =
    let a = c.args in
    ragged_some (rule_of a.mode a.curve.now) a.chains.now a.lengths.now a.depth a.kind a.rates a.loaded.now _ c.start_widths.ensures c.if-depth-eq0.false _ c.trim_by.ensures
