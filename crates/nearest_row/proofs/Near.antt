-- Laws of the lookup. Assumes nothing.
use mathlib.Core.Path.{◌≡◌, refl, ap, ◌∙◌}
use mathlib.Core.Bool.{true, false}
use mathlib.Core.List.{List, [], ◌∷◌}
use Prim.Native.Nat.{ℕ, suc, ◌+◌, ◌≤◌, ◌<◌}
use native.Mathlib.Omega.{arith}
use borrow.Author.Tests.{lt-ltb, le-ltb, eq-eqb, ne_eqb}
use lib.Dec.{ltb}
use lib.Ieee.{Float}
use Rattle.std.specs.Prelude.{Option}
use Rattle.nearest_row.specs.declared.Nearest.{Nearest}
use lib.ListN.{length, get_or, drop, drop_of_length-le}
use native.Mathlib.Numerals.{add-one}
use Rattle.cost_rows.specs.Table.{Row, zip, of_depth}
use Rattle.cost_rows.proofs.Rows.{row_at, zip_next}
use Rattle.nearest_row.specs.Lookup.{apart, nearer, closer, closest}

pub nearer_less : (batch a b : ℕ) → apart a batch < apart b batch → true ≡ nearer batch a b
unfolding nearer
nearer_less batch a b h = rw (lt-ltb (apart a batch) (apart b batch) h)

pub nearer_level : (batch a b : ℕ) → apart a batch ≡ apart b batch → ltb a b ≡ nearer batch a b
unfolding nearer
nearer_level batch a b h = rw (le-ltb (apart a batch) (apart b batch) (omega arith), eq-eqb (apart a batch) (apart b batch) h)

pub nearer_more : (batch a b : ℕ) → apart b batch ≤ apart a batch → (apart a batch ≡ apart b batch → ⊥) → false ≡ nearer batch a b
unfolding nearer
nearer_more batch a b h k = rw (le-ltb (apart a batch) (apart b batch) h, ne_eqb (apart a batch) (apart b batch) k)

-- one row of the depth more
pub depth_here : (batch g : ℕ) (best : Option Nearest) (r : Row) (t : List Row) → r.depth ≡ g → closest batch best (of_depth g (r ∷ t)) ≡ closest batch (closer batch best r.batch r.seconds) (of_depth g t)
unfolding of_depth closest
depth_here batch g best r t h = rw (eq-eqb r.depth g h)

-- a row of another depth is passed over
pub depth_other : (batch g : ℕ) (best : Option Nearest) (r : Row) (t : List Row) → (r.depth ≡ g → ⊥) → closest batch best (of_depth g (r ∷ t)) ≡ closest batch best (of_depth g t)
unfolding of_depth closest
depth_other batch g best r t h = rw (ne_eqb r.depth g h)

pub over_none : (batch g : ℕ) (best : Option Nearest) → closest batch best (of_depth g []) ≡ best
unfolding of_depth closest
over_none batch g best = refl

module _ (n : ℕ) (d b : List ℕ) (s : List Float) (z : Float) (p : n ≤ length d) (q : n ≤ length b) (r : n ≤ length s) (batch g i : ℕ) (best : Option Nearest) (h : i < n) where
  -- a turn of a loop over the rows, at a row of the depth
  pub turn_here : get_or d i 0 ≡ g → closest batch best (of_depth g (drop i (zip n d b s))) ≡ closest batch (closer batch best (get_or b i 0) (get_or s i z)) (of_depth g (drop (i + 1) (zip n d b s)))
  turn_here e = rw (add-one, zip_next n d b s z i p q r h) (depth_here batch g best (row_at d b s z i) (drop (suc i) (zip n d b s)) e)

  -- and at a row of another depth
  pub turn_other : (get_or d i 0 ≡ g → ⊥) → closest batch best (of_depth g (drop i (zip n d b s))) ≡ closest batch best (of_depth g (drop (i + 1) (zip n d b s)))
  turn_other e = rw (add-one, zip_next n d b s z i p q r h) (depth_other batch g best (row_at d b s z i) (drop (suc i) (zip n d b s)) e)

-- after the last row
pub at_end : (batch g : ℕ) (best : Option Nearest) (t : List Row) (i : ℕ) → length t ≤ i → closest batch best (of_depth g (drop i t)) ≡ best
at_end batch g best t i h = ap (λ l. closest batch best (of_depth g l)) (drop_of_length-le t h) ∙ over_none batch g best
