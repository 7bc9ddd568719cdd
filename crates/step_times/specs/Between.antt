-- The seconds at a depth between the measured ones: straight between the nearest of them, with the Rust's order of operations. Assumes nothing.
use Rattle.std.specs.Prelude.{ℕ, ◌-◌, min, max, Bool, not, ◌&&◌, cond, List, [], ◌∷◌, map, eqb, Float, Option, Some, None}
use Rattle.std.specs.Float.Ieee.{lt, le}
use Rattle.float.specs.Floats.{plus, less, times, over, f0, whole, is_finite}
use Rattle.nearest_row.specs.declared.Nearest.{Nearest}
use Rattle.cost_rows.specs.Table.{Row}
use Rattle.nearest_row.specs.Lookup.{nearest}

-- the deepest so far of those at or below g, with one depth more
unfoldable pub deeper : Float → Option ℕ → ℕ → Option ℕ
deeper g None k = cond (le (whole k) g) (Some k) None
deeper g (Some m) k = cond (le (whole k) g) (Some (max m k)) (Some m)

unfoldable pub deepest : Float → Option ℕ → List ℕ → Option ℕ
unfolding deeper
deepest g best [] = best
deepest g best (k ∷ ks) = deepest g (deeper g best k) ks

-- the shallowest so far of those at or above g, with one depth more
unfoldable pub shallower : Float → Option ℕ → ℕ → Option ℕ
shallower g None k = cond (le g (whole k)) (Some k) None
shallower g (Some m) k = cond (le g (whole k)) (Some (min m k)) (Some m)

unfoldable pub shallowest : Float → Option ℕ → List ℕ → Option ℕ
unfolding shallower
shallowest g best [] = best
shallowest g best (k ∷ ks) = shallowest g (shallower g best k) ks

abbrev pub depths_of : List Row → List ℕ
depths_of t = map (λ r. r.depth) t

-- straight between the depths low and high, measured at x and y; where they are one, its own time
unfoldable pub straight : Float → ℕ → ℕ → Option Nearest → Option Nearest → Option Float
straight g low high None y = None
straight g low high (Some x) None = None
straight g low high (Some x) (Some y) = Some (cond (eqb high low) x.seconds (plus x.seconds (times (over (less g (whole low)) (whole (high - low))) (less y.seconds x.seconds))))

unfoldable pub between : ℕ → Float → List Row → Option ℕ → Option ℕ → Option Float
unfolding straight nearest
between batch g t None high = None
between batch g t (Some low) None = None
between batch g t (Some low) (Some high) = straight g low high (nearest batch low t) (nearest batch high t)

-- finite and not below zero: minus zero is zero
unfoldable pub asked : Float → Bool
unfolding is_finite
asked g = is_finite g && not (lt g f0)

unfoldable pub step_time_frac : ℕ → Float → List Row → Option Float
unfolding asked between deepest shallowest
step_time_frac batch g t = cond (asked g) (between batch g t (deepest g None (depths_of t)) (shallowest g None (depths_of t))) None
