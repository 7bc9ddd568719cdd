-- `text::field` meets its contract: at each comma the field that is sought is that of the fields from there on. Assumes nothing.
use mathlib.Core.Path.{◌≡◌}
use mathlib.Core.List.{[]}
use Prim.Native.Nat.{◌≤◌}
use lib.ListN.{length, get_or}
use Rattle.text.specs.Fields.{fields}
use Rattle.text.proofs.field.Given as goal

abbrev pub invariant-loop-left : goal.invariant-loop-left
invariant-loop-left l = (length l.rest ≤ length l.s) × (get_or (fields l.s) l.place [] ≡ get_or (fields l.rest) l.left [])

abbrev pub decreases-loop-left : goal.decreases-loop-left
decreases-loop-left l = length l.rest
