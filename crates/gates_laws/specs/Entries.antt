-- Which prices a curve may have: from 0 to 2^57, and +infinity where there is a hole. A plan's prices are such: one by a table is at most 10^17 + 10^9, which
-- is below 2^57, and a roofline's at most 10^9. Assumes nothing.
use Rattle.std.specs.Prelude.{ℕ, ◌<◌, ◌≤◌, ◌≡◌, Bool, true, ◌||◌, List, length, get_or, Float}
use Rattle.std.specs.Float.{nan, binary64}
use Rattle.std.specs.Float.Ieee.{of_bits, eq}
use Rattle.float.specs.Floats.{f0, infinity}
use Rattle.float.specs.Range.{in_signed_range}

-- 2^57
abbrev pub most_price : Float
most_price = of_bits binary64 0x4380_0000_0000_0000

-- a price, or a hole
abbrev pub is_entry : Float → Bool
is_entry x = in_signed_range f0 most_price x || eq x infinity

-- a curve of the depths 0 to gamma, where gamma is 1 to 64, each of them priced or a hole
pub record Curve (curve : List Float) : Type 0 where
  pub many : 1 < length curve
  pub few : length curve ≤ 65
  pub each : (g : ℕ) → g < length curve → is_entry (get_or curve g nan) ≡ true
