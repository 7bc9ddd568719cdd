-- `day_walks::inner::fill_list` meets its contract: at each field what is to be stored is that of the fields from there on. Assumes nothing.
use Prim.Native.Nat.{◌≤◌}
use lib.ListN.{length}
use Rattle.text.specs.Fields.{fields}
use Rattle.bank_curve.proofs.Stores.{Storing}
use Rattle.day_walks.specs.Walks.{each}
use Rattle.day_walks.proofs.inner.fill_list.Given as goal

abbrev pub invariant-loop-rest : goal.invariant-loop-rest
invariant-loop-rest g l =
    (length l.rest ≤ length l.list) × Storing (each g.T.ListNumber.read_of (fields l.list)) l.initial.out 0 l.out l.at (each g.T.ListNumber.read_of (fields l.rest))

abbrev pub decreases-loop-rest : goal.decreases-loop-rest
decreases-loop-rest g l = length l.rest
