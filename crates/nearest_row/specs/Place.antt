-- Where a depth and a batch stand among rows in order, and which row beside that place is the nearest. No entry point's contract cites these. Assumes nothing.
use Rattle.std.specs.Prelude.{ℕ, suc, ◌-◌, Bool, ◌&&◌, not, cond, List, [], ◌∷◌, ltb, eqb, get_or, Float, Option, None}
use Rattle.std.specs.Float.{nan}
use Rattle.nearest_row.specs.declared.Nearest.{Nearest}
use Rattle.cost_rows.specs.Table.{Row}
use Rattle.cost_rows.specs.Order.{before}
use Rattle.nearest_row.specs.Lookup.{nearer, measured}

-- how many rows at the front go before depth g and batch a
unfoldable pub rows_before : ℕ → ℕ → List Row → ℕ
rows_before g a [] = 0
rows_before g a (r ∷ t) = cond (before r.depth r.batch g a) (suc (rows_before g a t)) 0

-- whether row i of n is one of depth g
abbrev pub is_of : ℕ → ℕ → List ℕ → ℕ → Bool
is_of g n d i = ltb i n && eqb (get_or d i 0) g

-- whether row i of n is one of depth g and to be taken before one of batch a
unfoldable pub behind_taken : ℕ → ℕ → ℕ → List ℕ → List ℕ → ℕ → ℕ → Bool
behind_taken batch g n d b i a = is_of g n d i && nearer batch (get_or b i 0) a

-- whether the row in front of row i of n is one of depth g, and row i is not to be taken before it
unfoldable pub front_taken : ℕ → ℕ → ℕ → List ℕ → List ℕ → ℕ → Bool
front_taken batch g n d b i = ltb 0 i && (eqb (get_or d (i - 1) 0) g && not (behind_taken batch g n d b i (get_or b (i - 1) 0)))

-- row i of n, where it is one of depth g
unfoldable pub row_of : ℕ → ℕ → List ℕ → List ℕ → List Float → ℕ → Option Nearest
row_of g n d b s i = cond (is_of g n d i) (measured (get_or b i 0) (get_or s i nan)) None
