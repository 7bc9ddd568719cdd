-- Tests that lent floats have to pass. Assumes nothing.
use Rattle.std.specs.Prelude.{Bool, true, ◌&&◌, List, [], ◌∷◌, Float}
use Rattle.std.specs.Float.{binary64}
use Rattle.std.specs.Float.Ieee.{of_bits}
use Rattle.float.specs.Floats.{f0, f1}
use Rattle.float.specs.Range.{in_range, in_range_or_infinite, in_signed_range}
use Rattle.speculative.specs.Drafter.{billion}

-- all of them pass
module _ {A : Type 0} (test : A → Bool) where
  unfoldable pub all_of : List A → Bool
  all_of [] = true
  all_of (x ∷ xs) = test x && all_of xs

-- 65,536
abbrev pub most_expected : Float
most_expected = of_bits binary64 0x40f0_0000_0000_0000

-- 64
abbrev pub most_accepted : Float
most_accepted = of_bits binary64 0x4050_0000_0000_0000

-- a survival of a lent chain: 0 to 1, minus zero allowed
abbrev pub is_survival : Float → Bool
is_survival x = in_signed_range f0 f1 x

-- an entry of a price curve: 0 to 10^9, or +infinity
abbrev pub is_price : Float → Bool
is_price x = in_range_or_infinite f0 billion x

-- an expected value: 0 to 65,536
abbrev pub is_expected : Float → Bool
is_expected x = in_range f0 most_expected x

-- an entry of a trace bank's curve: 0 to 64
abbrev pub is_accepted : Float → Bool
is_accepted x = in_range f0 most_accepted x
