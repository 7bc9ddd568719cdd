-- The contracts of `case_files` leave one outcome each. Assumes nothing.
use mathlib.Core.List.{List}
use mathlib.Core.Path.{◌≡◌}
use Prim.Native.Nat.{◌-◌, ℕ}
use lib.ListN.{length}
use Rattle.text.specs.Lines.{after_line}
use Rattle.unique.specs.Only.{OnlyOne}
use Rattle.unique.proofs.Law.{once}

pub print_line_once : (bytes : List ℕ) → OnlyOne (λ (r : ℕ). r ≡ length bytes - length (after_line bytes))
print_line_once bytes x y p q = once p q
