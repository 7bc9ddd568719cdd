-- `inner::batch_range` meets its contract. Assumes nothing.
use mathlib.Core.Path.{◌≡◌}
use lib.ListN.{drop}
use Rattle.cost_rows.specs.Table.{zip, of_depth}
use Rattle.batch_ranges.specs.Range.{range_from, range_of}
use Rattle.batch_ranges.proofs.inner.batch_range.Given as goal

abbrev pub invariant-loop-i : goal.invariant-loop-i
invariant-loop-i l = range_from l.range (of_depth l.depth (drop l.i (zip l.rows l.depths l.batches l.seconds))) ≡ range_of l.depth (zip l.rows l.depths l.batches l.seconds)
