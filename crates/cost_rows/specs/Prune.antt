-- Within each depth a row above 1.3 times the next one is dropped, as the rows stood before any dropping.
use Rattle.std.specs.Prelude.{ℕ, Bool, false, ◌&&◌, cond, List, [], ◌∷◌, eqb, Float}
use Rattle.std.proofs.Math.Option.{Option, none, some}
use Rattle.std.specs.Float.{binary64}
use Rattle.std.specs.Float.Ieee.{of_bits, mul, lt}
use Rattle.cost_rows.specs.Table.{Row, of_depth}

-- 1.3
abbrev pub limit : Float
limit = of_bits binary64 0x3ff4_cccc_cccc_cccd

-- whether the seconds x at depth g are above 1.3 times the next row's, y at the same depth
unfoldable pub above : ℕ → Float → ℕ → Float → Bool
above g x h y = eqb g h && lt (mul binary64 limit y) x

-- whether a row is dropped, by the rows after it: the last never is
unfoldable pub dropped : Row → List Row → Bool
unfolding above
dropped r [] = false
dropped r (s ∷ t) = above r.depth r.seconds s.depth s.seconds

unfoldable pub kept : List Row → List Row
unfolding dropped
kept [] = []
kept (r ∷ t) = cond (dropped r t) (kept t) (r ∷ kept t)

-- the last of the rows, and `before` where there is none
unfoldable pub last_from : Option Row → List Row → Option Row
last_from before [] = before
last_from before (r ∷ t) = last_from (some r) t

-- the last row of a depth
unfoldable pub last_of : ℕ → List Row → Option Row
unfolding last_from of_depth
last_of g t = last_from none (of_depth g t)
