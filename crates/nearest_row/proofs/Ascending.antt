-- Rows in order: of any two, the later one does not go before the earlier one. Assumes nothing.
use mathlib.Core.Path.{◌≡◌, refl, sym, subst}
use mathlib.Core.Bool.{Bool, true, false, not, ◌&&◌, ◌||◌}
use mathlib.Core.List.{List, [], ◌∷◌}
use Prim.Native.Nat.{ℕ, zero, suc, ◌+◌, ◌-◌, ◌≤◌, ◌<◌}
use native.Mathlib.Omega.{arith}
use borrow.Author.Tests.{eqb-true, eqb-false, ltb-true, ltb-false, not-true}
use lib.Dec.{T, ltb, eqb}
use lib.ListN.{length, get_or, drop}
use lib.Ieee.{Float, nan}
use Rattle.laws.proofs.Both.{both}
use Rattle.cost_rows.specs.Table.{Row, zip}
use Rattle.cost_rows.specs.Order.{before, earlier, falls, ordered}
use Rattle.cost_rows.proofs.Rows.{row_at, zip_next}

-- depth g and batch a do not come after depth h and batch b
abbrev pub Upto : ℕ → ℕ → ℕ → ℕ → Type 0
Upto g a h b = (g ≤ h) × (g ≡ h → a ≤ b)

pub upto_trans : (g a h b k c : ℕ) → Upto g a h b → Upto h b k c → Upto g a k c
upto_trans g a h b k c x y = (omega (arith, x.0, y.0), λ e. omega (arith, x.1 (omega (arith, x.0, y.0)), y.1 (omega (arith, x.0, y.0))))

pub not_before : (g a h b : ℕ) → before g a h b ≡ false → Upto h b g a
unfolding before
not_before g a h b e = go (ltb g h) (eqb g h) (ltb a b) refl refl refl e
  where
    go : (u v w : Bool) → ltb g h ≡ u → eqb g h ≡ v → ltb a b ≡ w → u || (v && w) ≡ false → Upto h b g a
    go true v w p q r f = absurd (subst T f tt)
    go false true true p q r f = absurd (subst T f tt)
    go false true false p q r f = (ltb-false g h p, λ k. ltb-false a b r)
    go false false w p q r f = (ltb-false g h p, λ k. absurd (eqb-false g h q (sym k)))

pub is_before : (g a h b : ℕ) → before g a h b ≡ true → (g ≤ h) × (g ≡ h → a < b)
unfolding before
is_before g a h b e = go (ltb g h) (eqb g h) (ltb a b) refl refl refl e
  where
    go : (u v w : Bool) → ltb g h ≡ u → eqb g h ≡ v → ltb a b ≡ w → u || (v && w) ≡ true → (g ≤ h) × (g ≡ h → a < b)
    go true v w p q r f = let k = ltb-true g h p in (omega (arith, k), λ l. absurd (omega (arith, k, l)))
    go false true true p q r f = (omega (arith, eqb-true g h q), λ l. ltb-true a b r)
    go false true false p q r f = absurd (subst T (sym f) tt)
    go false false w p q r f = absurd (subst T (sym f) tt)

-- ---- the converse
pub to_not_before : (g a h b : ℕ) → Upto h b g a → before g a h b ≡ false
to_not_before g a h b y = go (before g a h b) refl
  where
    go : (v : Bool) → before g a h b ≡ v → v ≡ false
    go true e = let x = is_before g a h b e in let same : g ≡ h = omega (arith, x.0, y.0) in absurd (omega (arith, x.1 same, y.1 (sym same)))
    go false e = refl

pub to_before : (g a h b : ℕ) → g ≤ h → (g ≡ h → a < b) → before g a h b ≡ true
to_before g a h b l m = go (before g a h b) refl
  where
    go : (v : Bool) → before g a h b ≡ v → v ≡ true
    go true e = refl
    go false e = let x = not_before g a h b e in let same : g ≡ h = omega (arith, x.0, l) in absurd (omega (arith, x.1 (sym same), m same))

first_two : (x y : Row) (t : List Row) → ordered (x ∷ y ∷ t) ≡ true → before y.depth y.batch x.depth x.batch ≡ false
unfolding ordered falls earlier
first_two x y t e = not-true _ (both (not (falls x (y ∷ t))) (ordered (y ∷ t)) e).0

ordered_rest : (x : Row) (t : List Row) → ordered (x ∷ t) ≡ true → ordered t ≡ true
unfolding ordered
ordered_rest x t e = (both (not (falls x t)) (ordered t) e).1

ordered_drop : (t : List Row) (i : ℕ) → ordered t ≡ true → ordered (drop i t) ≡ true
ordered_drop t zero e = e
ordered_drop [] (suc i) e = e
ordered_drop (x ∷ t) (suc i) e = ordered_drop t i (ordered_rest x t e)

module _ (n : ℕ) (d b : List ℕ) (s : List Float) (p : n ≤ length d) (q : n ≤ length b) (r : n ≤ length s) (o : ordered (zip n d b s) ≡ true) where
  next_upto : (i : ℕ) → suc i < n → Upto (get_or d i 0) (get_or b i 0) (get_or d (suc i) 0) (get_or b (suc i) 0)
  next_upto i h =
      let one : drop i (zip n d b s) ≡ row_at d b s nan i ∷ drop (suc i) (zip n d b s) = zip_next n d b s nan i p q r (omega arith) in
      let two : drop (suc i) (zip n d b s) ≡ row_at d b s nan (suc i) ∷ drop (suc (suc i)) (zip n d b s) = zip_next n d b s nan (suc i) p q r h in
      let e : ordered (row_at d b s nan i ∷ row_at d b s nan (suc i) ∷ drop (suc (suc i)) (zip n d b s)) ≡ true = rw (← two, ← one) (ordered_drop (zip n d b s) i o) in
      not_before _ _ _ _ (first_two _ _ _ e)

  by_gap : (k i : ℕ) → i + k < n → Upto (get_or d i 0) (get_or b i 0) (get_or d (i + k) 0) (get_or b (i + k) 0)
  by_gap zero i h = rw add_none (omega arith, λ e. omega arith)
    where
      add_none : i + 0 ≡ i
      add_none = omega arith
  by_gap (suc k) i h =
      let e : i + suc k ≡ suc (i + k) = omega arith in
      rw e (upto_trans _ _ _ _ _ _ (by_gap k i (omega arith)) (next_upto (i + k) (omega arith)))

  pub ascending : (i j : ℕ) → i ≤ j → j < n → Upto (get_or d i 0) (get_or b i 0) (get_or d j 0) (get_or b j 0)
  ascending i j h k = let e : i + (j - i) ≡ j = omega arith in rw e at (by_gap (j - i) i (omega arith))
