-- The contracts of `day_clock` leave one outcome each. Assumes nothing.
use mathlib.Core.List.{List}
use mathlib.Core.Path.{◌≡◌}
use Prim.Native.Nat.{ℕ}
use Rattle.day_clock.specs.Clock.{passed_of, changed_of, taken_back_of}
use Rattle.unique.specs.Only.{OnlyOne, OnlyTwo}
use Rattle.unique.proofs.Law.{once, pair_once}

pub passed_once : (clock : List ℕ) (second : ℕ) → OnlyTwo (λ (r : ℕ) (clock' : List ℕ). (r, clock') ≡ passed_of clock second)
passed_once clock second x b y c p q = pair_once p q

pub changed_once : (clock : List ℕ) → OnlyOne (λ (clock' : List ℕ). clock' ≡ changed_of clock)
changed_once clock x y p q = once p q

pub taken_back_once : (clock : List ℕ) → OnlyOne (λ (clock' : List ℕ). clock' ≡ taken_back_of clock)
taken_back_once clock x y p q = once p q
