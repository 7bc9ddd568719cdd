-- The contracts of `day_lists` leave one outcome each. Assumes nothing.
use mathlib.Core.List.{List}
use mathlib.Core.Path.{◌≡◌}
use Prim.Native.Nat.{ℕ}
use lib.Ieee.{Float}
use Rattle.std.specs.Prelude.{Result}
use Rattle.day_lists.specs.Lists.{decimals_listed, wholes_listed}
use Rattle.day_lists.specs.declared.NoList.{NoList}
use Rattle.unique.specs.Only.{OnlyTwo}
use Rattle.unique.proofs.Law.{pair_once}

pub read_decimals_once : (line : List ℕ) (from : ℕ) (out : List Float) → OnlyTwo (λ (r : Result ℕ NoList) (out' : List Float). (r, out') ≡ decimals_listed line from out)
read_decimals_once line from out x b y c p q = pair_once p q

pub read_wholes_once : (line : List ℕ) (from : ℕ) (out : List ℕ) → OnlyTwo (λ (r : Result ℕ NoList) (out' : List ℕ). (r, out') ≡ wholes_listed line from out)
read_wholes_once line from out x b y c p q = pair_once p q
