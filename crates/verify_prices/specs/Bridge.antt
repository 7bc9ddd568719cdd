-- The verify price in the bridged mode. A depth is measured where its price is finite. Between two measured depths the price lies straight between the
-- nearest ones, with the fractional lookup's order of operations; at a measured depth it is that entry; outside the measured depths it is +infinity.
-- Assumes nothing.
use Rattle.std.specs.Prelude.{ℕ, zero, suc, ◌+◌, ◌-◌, min, Bool, ◌&&◌, cond, List, eqb, length, get_or, Float}
use Rattle.std.specs.Float.{nan}
use Rattle.std.specs.Float.Ieee.{lt, to_unsigned}
use Rattle.float.specs.Floats.{plus, less, times, over, whole, f0, infinity, is_finite}
use Rattle.verify_prices.specs.Price.{mean_width}

abbrev pub is_measured : List Float → ℕ → Bool
is_measured curve g = is_finite (get_or curve g nan)

-- the deepest measured depth at or below g; 0, which is then not measured, where there is none
unfoldable pub lower : List Float → ℕ → ℕ
lower curve zero = 0
lower curve (suc g) = cond (is_measured curve (suc g)) (suc g) (lower curve g)

-- the shallowest measured depth of g and the k behind it; the last of them, which is then not measured, where there is none
unfoldable pub upper_of : List Float → ℕ → ℕ → ℕ
upper_of curve zero g = g
upper_of curve (suc k) g = cond (is_measured curve g) g (upper_of curve k (suc g))

-- the shallowest measured depth at or above g
abbrev pub upper : List Float → ℕ → ℕ
upper curve g = upper_of curve (length curve - 1 - g) g

-- straight between the depths low and high, priced x and y; where they are one, x; +infinity where one of them is not measured
unfoldable pub straight : Float → ℕ → ℕ → Float → Float → Float
straight w low high x y =
    cond (is_finite x && is_finite y)
    (cond (eqb high low) x (plus x (times (over (less w (whole low)) (whole (high - low))) (less y x))))
    infinity

-- the whole part of w, at most gamma; and the depth at or above w
abbrev pub foot_of : ℕ → Float → ℕ
foot_of gamma w = min (to_unsigned 64 w) gamma

abbrev pub ceiling_of : ℕ → Float → ℕ → ℕ
ceiling_of gamma w s = cond (lt f0 (less w (whole s))) (min (s + 1) gamma) s

abbrev pub bridged : List Float → Float → ℕ → ℕ → Float
bridged curve w low high = straight w low high (get_or curve low nan) (get_or curve high nan)

-- the price of t verify tokens over n sequences
unfoldable pub bridged_cost : List Float → ℕ → Float → Float
bridged_cost curve n t =
    let gamma = length curve - 1 in
    let w = mean_width gamma n t in
    let s = foot_of gamma w in
    bridged curve w (lower curve s) (upper curve (ceiling_of gamma w s))
