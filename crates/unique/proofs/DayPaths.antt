-- The contract of `day_paths` leaves one outcome. Assumes nothing.
use mathlib.Core.List.{List}
use mathlib.Core.Path.{◌≡◌}
use Prim.Native.Nat.{ℕ}
use Rattle.day_paths.specs.Paths.{placed_beside}
use Rattle.unique.specs.Only.{OnlyTwo}
use Rattle.unique.proofs.Law.{pair_once}

pub beside_once : (day name out : List ℕ) → OnlyTwo (λ (r : ℕ) (out' : List ℕ). (r, out') ≡ placed_beside day name out)
beside_once day name out x b y c p q = pair_once p q
