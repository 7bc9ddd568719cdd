-- `inner::beside` meets its contract: the nearest row stands beside the place of the batch. Assumes nothing.
use mathlib.Core.Path.{sym, ◌∙◌}
use Prim.Native.Nat.{◌<◌, ◌-◌}
use native.Mathlib.Omega.{arith}
use Rattle.nearest_row.proofs.Placed.{place_most}
use Rattle.nearest_row.proofs.Beside.{front_is_nearest, at_is_nearest, front_within, first_within}
use Rattle.nearest_row.proofs.inner.beside.Goals as goal

pub is_in_front-requires : goal.is_in_front-requires
is_in_front-requires c = (c.requires.rows_in_bounds.0, c.requires.rows_in_bounds.1, omega (arith, c.requires.at_value, place_most c.args.rows c.args.depths.now c.args.batches.now c.args.seconds.now c.requires.rows_in_bounds.0 c.requires.rows_in_bounds.1 c.requires.rows_in_bounds.2 c.requires.seconds_value c.args.depth c.args.batch))

pub overflow_sub-at : goal.overflow_sub-at
overflow_sub-at c = omega (arith, front_within c.args.rows c.args.depths.now c.args.batches.now c.args.seconds.now c.requires.rows_in_bounds.0 c.requires.rows_in_bounds.1 c.requires.rows_in_bounds.2 c.requires.seconds_value c.args.batch c.args.depth c.args.at c.requires.at_value (sym c.is_in_front.ensures ∙ c.if-is_in_front.true))

pub first_of-first-requires-clause-at_lt_rows : goal.first_of-first-requires-clause-at_lt_rows
first_of-first-requires-clause-at_lt_rows c = (front_within c.args.rows c.args.depths.now c.args.batches.now c.args.seconds.now c.requires.rows_in_bounds.0 c.requires.rows_in_bounds.1 c.requires.rows_in_bounds.2 c.requires.seconds_value c.args.batch c.args.depth c.args.at c.requires.at_value (sym c.is_in_front.ensures ∙ c.if-is_in_front.true)).1

pub offset_bounds-batches-first : goal.offset_bounds-batches-first
offset_bounds-batches-first c = let bound : c.first_of-first.result < c.args.rows = omega (arith, c.first_of-first.ensures, first_within c.args.rows c.args.depths.now c.args.batches.now c.args.seconds.now c.requires.rows_in_bounds.0 c.requires.rows_in_bounds.1 c.requires.rows_in_bounds.2 c.requires.seconds_value (c.args.at - 1) (front_within c.args.rows c.args.depths.now c.args.batches.now c.args.seconds.now c.requires.rows_in_bounds.0 c.requires.rows_in_bounds.1 c.requires.rows_in_bounds.2 c.requires.seconds_value c.args.batch c.args.depth c.args.at c.requires.at_value (sym c.is_in_front.ensures ∙ c.if-is_in_front.true)).1) in omega (arith, bound)

pub bounds-batches-first : goal.bounds-batches-first
bounds-batches-first c = let bound : c.first_of-first.result < c.args.rows = omega (arith, c.first_of-first.ensures, first_within c.args.rows c.args.depths.now c.args.batches.now c.args.seconds.now c.requires.rows_in_bounds.0 c.requires.rows_in_bounds.1 c.requires.rows_in_bounds.2 c.requires.seconds_value (c.args.at - 1) (front_within c.args.rows c.args.depths.now c.args.batches.now c.args.seconds.now c.requires.rows_in_bounds.0 c.requires.rows_in_bounds.1 c.requires.rows_in_bounds.2 c.requires.seconds_value c.args.batch c.args.depth c.args.at c.requires.at_value (sym c.is_in_front.ensures ∙ c.if-is_in_front.true)).1) in omega (arith, bound)

pub offset_bounds-seconds-first : goal.offset_bounds-seconds-first
offset_bounds-seconds-first c = let bound : c.first_of-first.result < c.args.rows = omega (arith, c.first_of-first.ensures, first_within c.args.rows c.args.depths.now c.args.batches.now c.args.seconds.now c.requires.rows_in_bounds.0 c.requires.rows_in_bounds.1 c.requires.rows_in_bounds.2 c.requires.seconds_value (c.args.at - 1) (front_within c.args.rows c.args.depths.now c.args.batches.now c.args.seconds.now c.requires.rows_in_bounds.0 c.requires.rows_in_bounds.1 c.requires.rows_in_bounds.2 c.requires.seconds_value c.args.batch c.args.depth c.args.at c.requires.at_value (sym c.is_in_front.ensures ∙ c.if-is_in_front.true)).1) in omega (arith, bound)

pub bounds-seconds-first : goal.bounds-seconds-first
bounds-seconds-first c = let bound : c.first_of-first.result < c.args.rows = omega (arith, c.first_of-first.ensures, first_within c.args.rows c.args.depths.now c.args.batches.now c.args.seconds.now c.requires.rows_in_bounds.0 c.requires.rows_in_bounds.1 c.requires.rows_in_bounds.2 c.requires.seconds_value (c.args.at - 1) (front_within c.args.rows c.args.depths.now c.args.batches.now c.args.seconds.now c.requires.rows_in_bounds.0 c.requires.rows_in_bounds.1 c.requires.rows_in_bounds.2 c.requires.seconds_value c.args.batch c.args.depth c.args.at c.requires.at_value (sym c.is_in_front.ensures ∙ c.if-is_in_front.true)).1) in omega (arith, bound)

pub returns-then-is_in_front : goal.returns-then-is_in_front
returns-then-is_in_front c = front_is_nearest c.args.rows c.args.depths.now c.args.batches.now c.args.seconds.now c.requires.rows_in_bounds.0 c.requires.rows_in_bounds.1 c.requires.rows_in_bounds.2 c.requires.seconds_value c.args.batch c.args.depth c.args.at c.requires.at_value c.first_of-first.result (sym c.is_in_front.ensures ∙ c.if-is_in_front.true) c.first_of-first.ensures

pub returns-else-is_in_front : goal.returns-else-is_in_front
returns-else-is_in_front c = c.row_of.ensures ∙ at_is_nearest c.args.rows c.args.depths.now c.args.batches.now c.args.seconds.now c.requires.rows_in_bounds.0 c.requires.rows_in_bounds.1 c.requires.rows_in_bounds.2 c.requires.seconds_value c.args.batch c.args.depth c.args.at c.requires.at_value (sym c.is_in_front.ensures ∙ c.if-is_in_front.false)
