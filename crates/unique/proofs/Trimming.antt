-- The contracts of `trimming` leave one outcome each. Assumes nothing.
use mathlib.Core.List.{List}
use mathlib.Core.Path.{◌≡◌}
use Prim.Native.Nat.{ℕ}
use Rattle.trimming.specs.Trim.{trimmed}
use Rattle.unique.specs.Only.{OnlyOne}
use Rattle.unique.proofs.Law.{once}

pub trim_once : (s : List ℕ) → OnlyOne (λ (r : List ℕ). r ≡ trimmed s)
trim_once s x y p q = once p q
