-- The verify price between depths, in the Rust's order of operations. A curve has a price for each depth from 0 to gamma. Assumes nothing.
use Rattle.std.specs.Prelude.{ℕ, ◌+◌, ◌-◌, min, cond, List, length, get_or, Float}
use Rattle.std.specs.Float.{nan}
use Rattle.std.specs.Float.Ieee.{lt, to_unsigned}
use Rattle.float.specs.Floats.{plus, less, times, over, whole, f0, f1, clamp_to}

-- the mean draft width that t verify tokens over n sequences imply: t / n - 1, within 0..gamma
abbrev pub mean_width : ℕ → ℕ → Float → Float
mean_width gamma n t = clamp_to (less (over t (whole n)) f1) f0 (whole gamma)

-- the whole part of w, at most gamma - 1
abbrev pub segment : ℕ → Float → ℕ
segment gamma w = min (to_unsigned 64 w) (gamma - 1)

-- the price at depth s, or a part of the way from it to the next
abbrev pub between : List Float → ℕ → Float → Float
between curve s frac =
    let c = get_or curve s nan in
    cond (lt f0 frac) (plus c (times frac (less (get_or curve (s + 1) nan) c))) c

-- the price of t verify tokens over n sequences
unfoldable pub verify_cost : List Float → ℕ → Float → Float
verify_cost curve n t =
    let gamma = length curve - 1 in
    let w = mean_width gamma n t in
    let s = segment gamma w in
    between curve s (less w (whole s))
