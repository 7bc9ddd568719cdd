-- `day_walks::inner::judge_list` meets its contract: at each field the answer is that of the fields from there on. Assumes nothing.
use mathlib.Core.Path.{◌≡◌}
use Prim.Native.Nat.{◌+◌, ◌≤◌}
use lib.ListN.{length}
use Rattle.text.specs.Fields.{fields}
use Rattle.day_walks.specs.Walks.{fields_judged}
use Rattle.day_walks.proofs.inner.judge_list.Given as goal

abbrev pub invariant-loop-place : goal.invariant-loop-place
invariant-loop-place g l =
    (l.place + length l.rest ≤ l.from + length l.list)
    × (fields_judged g.T.ListNumber.judged l.from (fields l.list) ≡ fields_judged g.T.ListNumber.judged l.place (fields l.rest))

abbrev pub decreases-loop-place : goal.decreases-loop-place
decreases-loop-place g l = length l.rest
