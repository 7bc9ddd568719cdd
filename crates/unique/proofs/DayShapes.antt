-- The contracts of `day_shapes` leave one outcome each. Assumes nothing.
use mathlib.Core.List.{List}
use mathlib.Core.Path.{◌≡◌}
use Prim.Native.Nat.{ℕ}
use Rattle.std.specs.Prelude.{⊤, Result}
use Rattle.text.specs.Fields.{fields}
use Rattle.day_line.specs.DayLine.{uncommented}
use Rattle.day_shapes.specs.Shapes.{expected_number, shape_judged}
use Rattle.day_shapes.specs.declared.Expected.{Expected}
use Rattle.day_shapes.specs.declared.WrongField.{WrongField}
use Rattle.unique.specs.Only.{OnlyOne}
use Rattle.unique.proofs.Law.{once}

pub shape_judged_once : (line shape : List ℕ) → OnlyOne (λ (r : Result ⊤ WrongField). r ≡ shape_judged 0 shape (fields (uncommented line)))
shape_judged_once line shape x y p q = once p q

pub expected_number_once : (self : Expected) → OnlyOne (λ (r : ℕ). r ≡ expected_number self)
expected_number_once self x y p q = once p q
