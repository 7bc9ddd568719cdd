-- `inner::place_from` meets its contract. Assumes nothing.
use mathlib.Core.Path.{sym, ◌∙◌}
use Prim.Native.Nat.{◌-◌, ◌+◌}
use native.Mathlib.Omega.{arith}
use Rattle.nearest_row.proofs.Placed.{place_most, goes_on, stops}
use Rattle.nearest_row.proofs.inner.place_from.Goals as goal

pub loop-low-init : goal.loop-low-init
loop-low-init c = let most = place_most c.args.rows c.args.depths.now c.args.batches.now c.args.seconds.now c.requires.rows_in_bounds.0 c.requires.rows_in_bounds.1 c.requires.rows_in_bounds.2 c.requires.seconds_value c.args.depth c.args.batch in (c.requires.rows_in_bounds.0, c.requires.rows_in_bounds.1, c.requires.rows_in_bounds.2, c.requires.seconds_value, c.requires.from_bound, omega (arith, most, c.requires.from_bound))

pub loop-low-preserved : goal.loop-low-preserved
loop-low-preserved c =
    let v = c.loop-low.invariant in
    let on = goes_on c.args.rows c.args.depths.now c.args.batches.now c.args.seconds.now c.loop-low.invariant.0 c.loop-low.invariant.1 c.loop-low.invariant.2 c.loop-low.invariant.3 c.args.depth c.args.batch (c.loop-low.low + 63) (omega arith) (sym c.goes_before.ensures ∙ c.if-goes_before.true) in
    (v.0, v.1, v.2, v.3, omega (arith, on), omega arith)

pub halves-requires-clause-from_bound : goal.halves-requires-clause-from_bound
halves-requires-clause-from_bound c = let v = c.loop-low.invariant in
    let end = stops c.args.rows c.args.depths.now c.args.batches.now c.args.seconds.now c.loop-low.invariant.0 c.loop-low.invariant.1 c.loop-low.invariant.2 c.loop-low.invariant.3 c.args.depth c.args.batch (c.loop-low.low + 63) (omega arith) (sym c.goes_before.ensures ∙ c.if-goes_before.false) in (v.4, end, omega arith)

pub halves-requires-2-clause-from_bound : goal.halves-requires-2-clause-from_bound
halves-requires-2-clause-from_bound c =
    let v = c.loop-low.invariant in
    let most = place_most c.args.rows c.args.depths.now c.args.batches.now c.args.seconds.now c.loop-low.invariant.0 c.loop-low.invariant.1 c.loop-low.invariant.2 c.loop-low.invariant.3 c.args.depth c.args.batch in
    (v.4, omega (arith, most), omega arith)
