-- The contracts of `blocks` leave one outcome each. Assumes nothing.
use mathlib.Core.Bool.{Bool}
use mathlib.Core.List.{List}
use mathlib.Core.Path.{◌≡◌}
use Prim.Native.Nat.{ℕ}
use Rattle.blocks.specs.Blocks.{all_ascii, find, is_byte, tally}
use Rattle.unique.specs.Only.{OnlyOne}
use Rattle.unique.proofs.Law.{once}

pub near_find_once : (s : List ℕ) (byte : ℕ) → OnlyOne (λ (r : ℕ). r ≡ find byte s)
near_find_once s byte x y p q = once p q

pub count_once : (s : List ℕ) (byte : ℕ) → OnlyOne (λ (r : ℕ). r ≡ tally (is_byte byte) s)
count_once s byte x y p q = once p q

pub find_once : (s : List ℕ) (byte : ℕ) → OnlyOne (λ (r : ℕ). r ≡ find byte s)
find_once s byte x y p q = once p q

pub is_ascii_once : (s : List ℕ) → OnlyOne (λ (r : Bool). r ≡ all_ascii s)
is_ascii_once s x y p q = once p q
