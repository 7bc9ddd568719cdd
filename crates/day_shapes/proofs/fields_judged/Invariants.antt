-- `day_shapes::fields_judged` meets its contract: at each field the answer is that of the fields from there on. Assumes nothing.
use mathlib.Core.Path.{◌≡◌}
use Prim.Native.Nat.{◌+◌, ◌≤◌}
use lib.ListN.{length}
use Rattle.text.specs.Fields.{fields}
use Rattle.day_shapes.specs.Shapes.{shape_judged}
use Rattle.day_shapes.proofs.fields_judged.Given as goal

abbrev pub invariant-loop-expected : goal.invariant-loop-expected
invariant-loop-expected l =
    ((l.place + length l.rest ≤ length l.line) × (length l.left ≤ length l.shape)) × (shape_judged 0 l.shape (fields l.line) ≡ shape_judged l.place l.left (fields l.rest))

abbrev pub decreases-loop-expected : goal.decreases-loop-expected
decreases-loop-expected l = length l.rest
