-- `day_walks::inner::rest_from` meets its contract: at each comma the fields that are sought are those from there on. Assumes nothing.
use mathlib.Core.Path.{◌≡◌}
use Prim.Native.Nat.{◌+◌, ◌-◌, ◌≤◌, ◌<◌}
use lib.ListN.{length, drop}
use Rattle.text.specs.Fields.{fields}
use Rattle.day_walks.proofs.inner.rest_from.Given as goal

abbrev pub invariant-loop-passed : goal.invariant-loop-passed
invariant-loop-passed l =
    (l.passed + length l.rest ≤ length l.line) × ((l.from - l.passed < length (fields l.rest)) × (drop l.from (fields l.line) ≡ drop (l.from - l.passed) (fields l.rest)))
