-- The place of a depth and a batch among rows in order, and the search for it by halves. Assumes nothing.
use mathlib.Core.Path.{◌≡◌, refl, sym, subst, ap, ◌∙◌}
use mathlib.Core.Bool.{Bool, true, false, cond}
use mathlib.Core.List.{List, [], ◌∷◌}
use Prim.Native.Nat.{ℕ, zero, suc, ◌+◌, ◌-◌, ◌/◌, ◌≤◌, ◌<◌}
use native.Mathlib.Omega.{arith}
use borrow.Author.Tests.{ltb-true, ltb-false}
use lib.Dec.{T, ltb}
use lib.ListN.{length, get_or, drop}
use lib.Ieee.{Float, nan}
use Rattle.cost_rows.specs.Table.{Row, zip}
use Rattle.cost_rows.specs.Order.{before, ordered}
use Rattle.nearest_row.specs.Place.{rows_before}
use Rattle.cost_rows.proofs.Rows.{row_at, zip_next, zip_length}
use Rattle.nearest_row.proofs.Ascending.{Upto, upto_trans, not_before, is_before, to_before, ascending}

clash : {A : Type 0} (v : Bool) → v ≡ true → v ≡ false → A
clash true e f = absurd (subst T f tt)
clash false e f = absurd (subst T (sym e) tt)

-- ---- in any list of rows
rows_go : (g a : ℕ) (r : Row) (t : List Row) → before r.depth r.batch g a ≡ true → rows_before g a (r ∷ t) ≡ suc (rows_before g a t)
unfolding rows_before
rows_go g a r t e = rw e

rows_stop : (g a : ℕ) (r : Row) (t : List Row) → before r.depth r.batch g a ≡ false → rows_before g a (r ∷ t) ≡ 0
unfolding rows_before
rows_stop g a r t e = rw e

rows_none : (g a : ℕ) → rows_before g a [] ≡ 0
unfolding rows_before
rows_none g a = refl

rows_most : (g a : ℕ) (t : List Row) → rows_before g a t ≤ length t
rows_most g a [] = omega (arith, rows_none g a)
rows_most g a (r ∷ t) = go (before r.depth r.batch g a) refl (rows_most g a t)
  where
    go : (v : Bool) → before r.depth r.batch g a ≡ v → rows_before g a t ≤ length t → rows_before g a (r ∷ t) ≤ suc (length t)
    go true e h = omega (arith, rows_go g a r t e)
    go false e h = omega (arith, rows_stop g a r t e)

-- a row in front of the place goes before
row_below : (g a : ℕ) (t : List Row) (i : ℕ) (x : Row) (u : List Row) → drop i t ≡ x ∷ u → i < rows_before g a t → before x.depth x.batch g a ≡ true
row_below g a [] i x u e h = absurd (omega (arith, rows_none g a))
row_below g a (r ∷ t) i x u e h = go (before r.depth r.batch g a) refl i e h (row_below g a t)
  where
    go : (v : Bool) → before r.depth r.batch g a ≡ v → (i : ℕ) → drop i (r ∷ t) ≡ x ∷ u → i < rows_before g a (r ∷ t) → ((i : ℕ) (x : Row) (u : List Row) → drop i t ≡ x ∷ u → i < rows_before g a t → before x.depth x.batch g a ≡ true) → before x.depth x.batch g a ≡ true
    go true f zero e h ih = let same : r ≡ x = cc in rw (← same) f
    go true f (suc i) e h ih = ih i x u e (omega (arith, h, rows_go g a r t f))
    go false f i e h ih = absurd (omega (arith, rows_stop g a r t f))

-- the row at the place does not
row_at_lem : (g a : ℕ) (t : List Row) (i : ℕ) (x : Row) (u : List Row) → drop i t ≡ x ∷ u → i ≡ rows_before g a t → before x.depth x.batch g a ≡ false
row_at_lem g a [] i x u e h = absurd (nothing i e)
  where
    nothing : (i : ℕ) → drop i [] ≡ x ∷ u → ⊥
    nothing zero e = let k : ◌≡◌ {A = ℕ} 0 (suc (length u)) = ap length e in omega arith
    nothing (suc i) e = let k : ◌≡◌ {A = ℕ} 0 (suc (length u)) = ap length e in omega arith
row_at_lem g a (r ∷ t) i x u e h = go (before r.depth r.batch g a) refl i e h (row_at_lem g a t)
  where
    go : (v : Bool) → before r.depth r.batch g a ≡ v → (i : ℕ) → drop i (r ∷ t) ≡ x ∷ u → i ≡ rows_before g a (r ∷ t) → ((i : ℕ) (x : Row) (u : List Row) → drop i t ≡ x ∷ u → i ≡ rows_before g a t → before x.depth x.batch g a ≡ false) → before x.depth x.batch g a ≡ false
    go true f zero e h ih = absurd (omega (arith, h, rows_go g a r t f))
    go true f (suc i) e h ih = ih i x u e (omega (arith, h, rows_go g a r t f))
    go false f zero e h ih = let same : r ≡ x = cc in rw (← same) f
    go false f (suc i) e h ih = absurd (omega (arith, h, rows_stop g a r t f))

module _ (n : ℕ) (d b : List ℕ) (s : List Float) (p : n ≤ length d) (q : n ≤ length b) (r : n ≤ length s) (o : ordered (zip n d b s) ≡ true) (g a : ℕ) where
  abbrev place : ℕ
  place = rows_before g a (zip n d b s)

  pub place_most : place ≤ n
  place_most = omega (arith, rows_most g a (zip n d b s), zip_length n d b s p q r)

  -- a row in front of the place
  pub below : (i : ℕ) → i < place → (get_or d i 0 ≤ g) × (get_or d i 0 ≡ g → get_or b i 0 < a)
  below i h = is_before _ _ _ _ (row_below g a (zip n d b s) i (row_at d b s nan i) _ (zip_next n d b s nan i p q r (omega (arith, place_most))) h)

  -- a row from the place on
  pub above : (i : ℕ) → place ≤ i → i < n → Upto g a (get_or d i 0) (get_or b i 0)
  above i h k = upto_trans _ _ _ _ _ _ (not_before _ _ _ _ (row_at_lem g a (zip n d b s) place (row_at d b s nan place) _ (zip_next n d b s nan place p q r (omega arith)) refl)) (ascending n d b s p q r o place i h k)

  -- what a test of one row says of the place
  pub goes_on : (i : ℕ) → i < n → before (get_or d i 0) (get_or b i 0) g a ≡ true → i < place
  goes_on i h e = go (ltb i place) refl
    where
      go : (v : Bool) → ltb i place ≡ v → i < place
      go true f = ltb-true i place f
      go false f =
          let x = is_before _ _ _ _ e in
          let y = above i (ltb-false i place f) h in
          let same : get_or d i 0 ≡ g = omega (arith, x.0, y.0) in
          absurd (omega (arith, x.1 same, y.1 (sym same)))

  pub stops : (i : ℕ) → i < n → before (get_or d i 0) (get_or b i 0) g a ≡ false → place ≤ i
  stops i h e = go (ltb i place) refl
    where
      go : (v : Bool) → ltb i place ≡ v → place ≤ i
      go true f = clash _ (row_below g a (zip n d b s) i (row_at d b s nan i) _ (zip_next n d b s nan i p q r h) (ltb-true i place f)) e
      go false f = ltb-false i place f

  -- a turn: half of the rows that are left are passed, or not
  pub half_turn : (v : Bool) (low size : ℕ) → 1 < size → low ≤ place → place ≤ low + size → low + size ≤ n → v ≡ before (get_or d (low + size / 2 - 1) 0) (get_or b (low + size / 2 - 1) 0) g a → (cond v (low + size / 2) low ≤ place) × (place ≤ cond v (low + size / 2) low + (size - size / 2)) × (cond v (low + size / 2) low + (size - size / 2) ≤ n)
  half_turn true low size h x y z e = let k = goes_on (low + size / 2 - 1) (omega arith) (sym e) in (omega (arith, k), omega arith, omega arith)
  half_turn false low size h x y z e = let k = stops (low + size / 2 - 1) (omega arith) (sym e) in (omega arith, omega (arith, k), omega arith)

  -- the last row that is left
  pub last_turn : (v : Bool) (low : ℕ) → low ≤ place → place ≤ low + 1 → low < n → v ≡ before (get_or d low 0) (get_or b low 0) g a → cond v (low + 1) low ≡ place
  last_turn true low x y z e = let k = goes_on low z (sym e) in omega (arith, k)
  last_turn false low x y z e = let k = stops low z (sym e) in omega (arith, k)

  -- the same of what the code has
  pub turned : (v : Bool) (low size next : ℕ) → 1 < size → low ≤ place → place ≤ low + size → low + size ≤ n → v ≡ before (get_or d (low + size / 2 - 1) 0) (get_or b (low + size / 2 - 1) 0) g a → next ≡ cond v (low + size / 2) low → (next ≤ place) × (place ≤ next + (size - size / 2)) × (next + (size - size / 2) ≤ n)
  turned v low size next h x y z e k = rw k (half_turn v low size h x y z e)

  pub ended : (v : Bool) (low size r : ℕ) → size ≤ 1 → 1 ≤ size → low ≤ place → place ≤ low + size → low + size ≤ n → v ≡ before (get_or d low 0) (get_or b low 0) g a → r ≡ cond v (low + 1) low → r ≡ place
  ended v low size r h l x y z e k = k ∙ last_turn v low x (omega arith) (omega arith) e

-- the place of a depth is not behind that of the next one
pub place_next : (n : ℕ) (d b : List ℕ) (s : List Float) (p : n ≤ length d) (q : n ≤ length b) (r : n ≤ length s) (o : ordered (zip n d b s) ≡ true) (g a : ℕ) → rows_before g a (zip n d b s) ≤ rows_before (g + 1) a (zip n d b s)
place_next n d b s p q r o g a = go (rows_before g a (zip n d b s)) refl
  where
    go : (k : ℕ) → rows_before g a (zip n d b s) ≡ k → k ≤ rows_before (g + 1) a (zip n d b s)
    go zero e = omega arith
    go (suc k) e =
        let low = below n d b s p q r o g a k (omega arith) in
        goes_on n d b s p q r o (g + 1) a k (omega (arith, place_most n d b s p q r o g a)) (to_before _ _ _ _ (omega (arith, low.0)) (λ t. absurd (omega (arith, low.0))))
