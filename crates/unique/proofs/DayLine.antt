-- The contracts of `day_line` leave one outcome each. Assumes nothing.
use mathlib.Core.List.{List}
use mathlib.Core.Path.{◌≡◌}
use Prim.Native.Nat.{ℕ}
use lib.ListN.{length}
use Rattle.text.specs.Fields.{fields}
use Rattle.day_line.specs.DayLine.{field_of, uncommented}
use Rattle.unique.specs.Only.{OnlyOne}
use Rattle.unique.proofs.Law.{once}

pub uncommented_once : (line : List ℕ) → OnlyOne (λ (r : List ℕ). r ≡ uncommented line)
uncommented_once line x y p q = once p q

pub field_once : (line : List ℕ) (place : ℕ) → OnlyOne (λ (r : List ℕ). r ≡ field_of line place)
field_once line place x y p q = once p q

pub field_count_once : (line : List ℕ) → OnlyOne (λ (r : ℕ). r ≡ length (fields (uncommented line)))
field_count_once line x y p q = once p q
