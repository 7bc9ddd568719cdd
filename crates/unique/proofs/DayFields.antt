-- The contracts of `day_fields` leave one outcome each. Assumes nothing.
use mathlib.Core.List.{List}
use mathlib.Core.Path.{◌≡◌}
use Prim.Native.Nat.{ℕ}
use Rattle.std.specs.Prelude.{⊤, Result}
use Rattle.decimals.specs.Decimals.{Decimal, decimal_of}
use Rattle.numeral.specs.Spelling.{Whole, whole_of}
use Rattle.day_line.specs.DayLine.{field_of}
use Rattle.day_shapes.specs.declared.WrongField.{WrongField}
use Rattle.day_fields.specs.Commands.{line_judged}
use Rattle.unique.specs.Only.{OnlyOne}
use Rattle.unique.proofs.Law.{once}

pub line_judged_once : (line : List ℕ) → OnlyOne (λ (r : Result ⊤ WrongField). r ≡ line_judged line)
line_judged_once line x y p q = once p q

pub whole_in_once : (line : List ℕ) (place : ℕ) → OnlyOne (λ (r : Whole). r ≡ whole_of (field_of line place))
whole_in_once line place x y p q = once p q

pub decimal_in_once : (line : List ℕ) (place : ℕ) → OnlyOne (λ (r : Decimal). r ≡ decimal_of (field_of line place))
decimal_in_once line place x y p q = once p q
