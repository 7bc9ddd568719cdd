-- Exact depth, nearest batch, ties to the smaller batch, then the earlier row. Assumes nothing.
use Rattle.std.specs.Prelude.{ℕ, ◌+◌, ◌-◌, Bool, ◌&&◌, ◌||◌, cond, List, [], ◌∷◌, ltb, eqb, Float, Option, Some, None}
use Rattle.nearest_row.specs.declared.Nearest.{Nearest}
use Rattle.cost_rows.specs.Table.{Row, of_depth}

-- how far two batches are apart
abbrev pub apart : ℕ → ℕ → ℕ
apart a b = (a - b) + (b - a)

-- whether batch a is to be taken before b: it is nearer, or as near and smaller
unfoldable pub nearer : ℕ → ℕ → ℕ → Bool
nearer batch a b = ltb (apart a batch) (apart b batch) || (eqb (apart a batch) (apart b batch) && ltb a b)

-- a row that is held
abbrev pub measured : ℕ → Float → Option Nearest
measured b s = Some (record { batch = b; seconds = s })

-- the better of what is held and one row more: the held one where neither is to be taken before the other
unfoldable pub closer : ℕ → Option Nearest → ℕ → Float → Option Nearest
unfolding nearer
closer batch None a x = measured a x
closer batch (Some near) a x = cond (nearer batch a near.batch) (measured a x) (Some near)

-- the first of the rows that none is to be taken before
unfoldable pub closest : ℕ → Option Nearest → List Row → Option Nearest
unfolding closer
closest batch best [] = best
closest batch best (r ∷ t) = closest batch (closer batch best r.batch r.seconds) t

unfoldable pub nearest : ℕ → ℕ → List Row → Option Nearest
unfolding closest of_depth
nearest batch g t = closest batch None (of_depth g t)
