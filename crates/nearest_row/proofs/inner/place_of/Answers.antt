-- `inner::place_of` meets its contract. Assumes nothing.
use native.Mathlib.Omega.{arith}
use Rattle.nearest_row.proofs.Placed.{place_most}
use Rattle.nearest_row.proofs.inner.place_of.Goals as goal

pub halves-requires-clause-from_bound : goal.halves-requires-clause-from_bound
halves-requires-clause-from_bound c = let most = place_most c.args.rows c.args.depths.now c.args.batches.now c.args.seconds.now c.requires.rows_in_bounds.0 c.requires.rows_in_bounds.1 c.requires.rows_in_bounds.2 c.requires.seconds_value c.args.depth c.args.batch in (omega arith, omega (arith, most), omega arith)
