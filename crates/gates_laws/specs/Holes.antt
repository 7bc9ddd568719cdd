-- Where the verify price of t tokens over n sequences lies on a curve, and what it can be: finite, infinite, or no number. Assumes nothing.
use Rattle.std.specs.Prelude.{ℕ, ◌+◌, ◌-◌, Bool, true, false, not, ◌&&◌, List, length, get_or, Float}
use Rattle.std.specs.Float.{nan, inf, fin}
use Rattle.std.specs.Float.Ieee.{lt}
use Rattle.float.specs.Floats.{less, whole, f0, is_finite}
use Rattle.verify_prices.specs.Price.{mean_width, segment}
use Rattle.verify_prices.specs.Bridge.{is_measured, lower, upper, foot_of, ceiling_of}

pub data Class : Type 0 where
  finite infinite no_number : Class

abbrev pub class_of : Float → Class
class_of nan = no_number
class_of (inf s) = infinite
class_of (fin s m e) = finite

-- no price stands there
abbrev pub is_hole : Float → Bool
is_hole c = not (is_finite c)

module _ (curve : List Float) (n : ℕ) (t : Float) where
  -- the depth at or below the mean width, and never the last one
  abbrev pub depth_below : ℕ
  depth_below = segment (length curve - 1) (mean_width (length curve - 1) n t)

  -- the mean width lies behind that depth, and not at it
  abbrev pub is_behind : Bool
  is_behind = lt f0 (less (mean_width (length curve - 1) n t) (whole depth_below))

  -- the entries around the mean width
  abbrev pub entry_below : Float
  entry_below = get_or curve depth_below nan

  abbrev pub entry_above : Float
  entry_above = get_or curve (depth_below + 1) nan

-- behind, below, above: at a depth the price is its entry; on the way from a price to a hole it is infinite; on the way from a hole it is no number
abbrev pub class_at : Bool → Bool → Bool → Class
class_at false false above = finite
class_at false true above = infinite
class_at true false false = finite
class_at true false true = infinite
class_at true true above = no_number

-- the mean width lies inside the measured depths: one of them is at or below it, and one at or above it
abbrev pub is_inside : List Float → ℕ → Float → Bool
is_inside curve n t =
    let gamma = length curve - 1 in
    let w = mean_width gamma n t in
    let s = foot_of gamma w in
    is_measured curve (lower curve s) && is_measured curve (upper curve (ceiling_of gamma w s))
