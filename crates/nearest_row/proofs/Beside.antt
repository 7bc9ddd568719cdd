-- Among rows in order the nearest one stands beside the place of the batch: at it, or the first of the rows with the batch in front of it. Assumes nothing.
use mathlib.Core.Path.{◌≡◌, refl, sym, subst, ◌∙◌}
use mathlib.Core.Bool.{Bool, true, false, not, ◌&&◌, cond}
use mathlib.Core.List.{List}
use Prim.Native.Nat.{ℕ, ◌-◌, ◌≤◌, ◌<◌}
use native.Mathlib.Omega.{arith}
use borrow.Author.Tests.{lt-ltb, eq-eqb, ltb-true, ltb-false, eqb-true, eqb-false, not-false}
use lib.Dec.{T, ltb, eqb}
use lib.ListN.{length, get_or}
use lib.Ieee.{Float, nan}
use Rattle.std.specs.Prelude.{None}
use Rattle.laws.proofs.Both.{both}
use Rattle.cost_rows.specs.Table.{zip}
use Rattle.cost_rows.specs.Order.{before, ordered}
use Rattle.nearest_row.specs.Lookup.{apart, nearer, measured, nearest}
use Rattle.nearest_row.specs.Place.{rows_before, behind_taken, front_taken, row_of}
use Rattle.nearest_row.proofs.Ascending.{Upto, not_before, is_before, to_not_before, to_before, ascending}
use Rattle.nearest_row.proofs.Placed.{place_most, below, above, goes_on, stops}
use Rattle.nearest_row.proofs.Chosen.{chosen, none_chosen}

-- ---- nearer, as numbers
nearer_says : (batch a b : ℕ) → nearer batch a b ≡ true → (apart a batch ≤ apart b batch) × (apart a batch ≡ apart b batch → a < b)
unfolding nearer before
nearer_says batch a b e = is_before (apart a batch) a (apart b batch) b e

not_nearer_says : (batch a b : ℕ) → nearer batch a b ≡ false → Upto (apart b batch) b (apart a batch) a
unfolding nearer before
not_nearer_says batch a b e = not_before (apart a batch) a (apart b batch) b e

is_nearer : (batch a b : ℕ) → apart a batch ≤ apart b batch → (apart a batch ≡ apart b batch → a < b) → nearer batch a b ≡ true
unfolding nearer before
is_nearer batch a b h k = to_before (apart a batch) a (apart b batch) b h k

not_nearer : (batch a b : ℕ) → Upto (apart b batch) b (apart a batch) a → nearer batch a b ≡ false
unfolding nearer before
not_nearer batch a b h = to_not_before (apart a batch) a (apart b batch) b h

-- all that the batches can be: c at or behind the batch, y in front of it, and x no nearer than y
farther : (batch c y x : ℕ) → batch ≤ c → y < batch → x ≤ y → nearer batch c y ≡ true → nearer batch c x ≡ true
farther batch c y x h k l e =
    let says = nearer_says batch c y e in
    is_nearer batch c x (omega (arith, says.0)) (λ m. let same : apart c batch ≡ apart y batch = omega (arith, says.0) in omega (arith, says.1 same))

behind : (batch c x : ℕ) → batch ≤ c → c ≤ x → nearer batch x c ≡ false
behind batch c x h k = not_nearer batch x c (omega arith, λ e. k)

beyond : (batch y c x : ℕ) → y < batch → batch ≤ c → c ≤ x → nearer batch c y ≡ false → nearer batch x y ≡ false
beyond batch y c x h k l e =
    let says = not_nearer_says batch c y e in
    not_nearer batch x y (omega (arith, says.0), λ m. omega arith)

in_front : (batch y x : ℕ) → y < batch → x < y → nearer batch y x ≡ true
in_front batch y x h k = is_nearer batch y x (omega arith) (λ m. absurd (omega arith))

alike : (batch y x : ℕ) → x ≡ y → nearer batch x y ≡ false
alike batch y x e = not_nearer batch x y (omega arith, λ m. omega arith)

module _ (n : ℕ) (d b : List ℕ) (s : List Float) (p : n ≤ length d) (q : n ≤ length b) (r : n ≤ length s) (o : ordered (zip n d b s) ≡ true) (batch g at : ℕ) (e : at ≡ rows_before g batch (zip n d b s)) where
  at_most : at ≤ n
  at_most = omega (arith, place_most n d b s p q r o g batch)

  -- a row of the depth in front of the place has one of the depth right in front of it
  lead : (j : ℕ) → j < at → get_or d j 0 ≡ g → (get_or d (at - 1) 0 ≡ g) × (get_or b j 0 ≤ get_or b (at - 1) 0) × (get_or b (at - 1) 0 < batch)
  lead j h k =
      let up = ascending n d b s p q r o j (at - 1) (omega arith) (omega (arith, at_most)) in
      let low = below n d b s p q r o g batch (at - 1) (omega arith) in
      let same : get_or d (at - 1) 0 ≡ g = omega (arith, up.0, low.0) in
      (same, up.1 (k ∙ sym same), low.1 same)

  -- and one behind it has one of the depth at it
  follow : (j : ℕ) → at ≤ j → j < n → get_or d j 0 ≡ g → (get_or d at 0 ≡ g) × (batch ≤ get_or b at 0) × (get_or b at 0 ≤ get_or b j 0)
  follow j h l k =
      let up = ascending n d b s p q r o at j h l in
      let high = above n d b s p q r o g batch at (omega arith) (omega arith) in
      let same : get_or d at 0 ≡ g = omega (arith, up.0, high.0) in
      (same, high.1 (sym same), up.1 (same ∙ sym k))

  behind_row : at < n → get_or d at 0 ≡ g → (0 < at → get_or d (at - 1) 0 ≡ g → nearer batch (get_or b at 0) (get_or b (at - 1) 0) ≡ true) → measured (get_or b at 0) (get_or s at nan) ≡ nearest batch g (zip n d b s)
  behind_row h k f =
      chosen n d b s p q r batch g at h k
      (λ j l m. let x = lead j l m in farther batch (get_or b at 0) (get_or b (at - 1) 0) (get_or b j 0) (follow at (omega arith) h k).1 x.2 x.1 (f (omega arith) x.0))
      (λ j l m t. let y = follow j (omega arith) m t in behind batch (get_or b at 0) (get_or b j 0) y.1 y.2)

  none_row : (0 < at → get_or d (at - 1) 0 ≡ g → ⊥) → (at < n → get_or d at 0 ≡ g → ⊥) → None ≡ nearest batch g (zip n d b s)
  none_row f k = none_chosen n d b s p q r batch g (λ j l m. go (ltb j at) refl j refl l m)
    where
      go : (v : Bool) {i : ℕ} → ltb i at ≡ v → (j : ℕ) → i ≡ j → j < n → get_or d j 0 ≡ g → ⊥
      go true t j same l m = f (omega (arith, ltb-true _ at t)) (lead j (omega (arith, ltb-true _ at t)) m).0
      go false t j same l m = k (omega (arith, ltb-false _ at t)) (follow j (omega (arith, ltb-false _ at t)) l m).0

  module _ (first : ℕ) (u : first ≡ rows_before g (get_or b (at - 1) 0) (zip n d b s)) (h : 0 < at) (k : get_or d (at - 1) 0 ≡ g) where
    abbrev a : ℕ
    a = get_or b (at - 1) 0

    first_most : first ≤ at - 1
    first_most = omega (arith, stops n d b s p q r o g a (at - 1) (omega (arith, at_most)) (to_not_before _ _ _ _ (omega (arith, k), λ t. omega arith)))

    -- the first row of that batch
    first_is : (get_or d first 0 ≡ g) × (get_or b first 0 ≡ a)
    first_is =
        let up = ascending n d b s p q r o first (at - 1) first_most (omega (arith, at_most)) in
        let high = above n d b s p q r o g a first (omega arith) (omega (arith, at_most, first_most)) in
        let same : get_or d first 0 ≡ g = omega (arith, up.0, high.0) in
        (same, omega (arith, up.1 (same ∙ sym k), high.1 (sym same)))

    earlier_way : (j : ℕ) → j < first → get_or d j 0 ≡ g → nearer batch (get_or b first 0) (get_or b j 0) ≡ true
    earlier_way j l m =
        let low = below n d b s p q r o g a j (omega arith) in
        let x = lead (at - 1) (omega arith) k in
        rw first_is.1 (in_front batch a (get_or b j 0) x.2 (low.1 m))

    later_way : (at < n → get_or d at 0 ≡ g → nearer batch (get_or b at 0) a ≡ false) → (v : Bool) (j : ℕ) → ltb j at ≡ v → first < j → j < n → get_or d j 0 ≡ g → nearer batch (get_or b j 0) (get_or b first 0) ≡ false
    later_way f true j t l m w =
        let up = ascending n d b s p q r o first j (omega arith) m in
        let x = lead j (ltb-true j at t) w in
        rw first_is.1 (alike batch a (get_or b j 0) (omega (arith, up.1 (first_is.0 ∙ sym w), first_is.1, x.1)))
    later_way f false j t l m w =
        let y = follow j (ltb-false j at t) m w in
        let x = lead (at - 1) (omega arith) k in
        rw first_is.1 (beyond batch a (get_or b at 0) (get_or b j 0) x.2 y.1 y.2 (f (omega (arith, ltb-false j at t)) y.0))

    front_row : (at < n → get_or d at 0 ≡ g → nearer batch (get_or b at 0) a ≡ false) → measured (get_or b first 0) (get_or s first nan) ≡ nearest batch g (zip n d b s)
    front_row f = chosen n d b s p q r batch g first (omega (arith, at_most, first_most)) first_is.0 earlier_way (λ j l m w. later_way f (ltb j at) j refl l m w)

  -- ---- by the tests of the code
  front_tests : (u v w : Bool) → u && (v && not w) ≡ true → (u ≡ true) × (v ≡ true) × (w ≡ false)
  front_tests true true true t = absurd (subst T (sym t) tt)
  front_tests true true false t = (refl, refl, refl)
  front_tests true false w t = absurd (subst T (sym t) tt)
  front_tests false v w t = absurd (subst T (sym t) tt)

  behind_not : (a : ℕ) → behind_taken batch g n d b at a ≡ false → at < n → get_or d at 0 ≡ g → nearer batch (get_or b at 0) a ≡ false
  unfolding behind_taken
  behind_not a t h k = simp (lt-ltb at n h, eq-eqb (get_or d at 0) g k) at t

  behind_nearer : (a : ℕ) → behind_taken batch g n d b at a ≡ true → nearer batch (get_or b at 0) a ≡ true
  unfolding behind_taken
  behind_nearer a t = (both (ltb at n && eqb (get_or d at 0) g) _ t).1

  behind_is : (a : ℕ) → behind_taken batch g n d b at a ≡ true → (at < n) × (get_or d at 0 ≡ g)
  unfolding behind_taken
  behind_is a t = go (ltb at n) (eqb (get_or d at 0) g) _ refl refl t
    where
      go : (u v w : Bool) → ltb at n ≡ u → eqb (get_or d at 0) g ≡ v → u && v && w ≡ true → (at < n) × (get_or d at 0 ≡ g)
      go true true w x y z = (ltb-true at n x, eqb-true _ _ y)
      go true false w x y z = absurd (subst T (sym z) tt)
      go false v w x y z = absurd (subst T (sym z) tt)

  pub front_is_nearest : (first : ℕ) → front_taken batch g n d b at ≡ true → first ≡ rows_before (get_or d (at - 1) 0) (get_or b (at - 1) 0) (zip n d b s) → measured (get_or b first 0) (get_or s first nan) ≡ nearest batch g (zip n d b s)
  unfolding front_taken
  front_is_nearest first t u =
      let x = front_tests (ltb 0 at) (eqb (get_or d (at - 1) 0) g) (behind_taken batch g n d b at (get_or b (at - 1) 0)) t in
      let k : get_or d (at - 1) 0 ≡ g = eqb-true _ _ x.1 in
      front_row first (rw k at u) (ltb-true 0 at x.0) k (behind_not (get_or b (at - 1) 0) x.2)

  pub front_within : front_taken batch g n d b at ≡ true → (0 < at) × (at - 1 < n)
  unfolding front_taken
  front_within t =
      let x = front_tests (ltb 0 at) (eqb (get_or d (at - 1) 0) g) (behind_taken batch g n d b at (get_or b (at - 1) 0)) t in
      let h = ltb-true 0 at x.0 in
      (h, omega (arith, h, at_most))

  -- where the row in front is of the depth, the one at the place is to be taken before it
  not_front : front_taken batch g n d b at ≡ false → 0 < at → get_or d (at - 1) 0 ≡ g → behind_taken batch g n d b at (get_or b (at - 1) 0) ≡ true
  unfolding front_taken
  not_front t h k = let f : not (behind_taken batch g n d b at (get_or b (at - 1) 0)) ≡ false = simp (lt-ltb 0 at h, eq-eqb (get_or d (at - 1) 0) g k) at t in not-false _ f

  pub at_is_nearest : front_taken batch g n d b at ≡ false → row_of g n d b s at ≡ nearest batch g (zip n d b s)
  unfolding row_of
  at_is_nearest t = go (ltb at n) (eqb (get_or d at 0) g) refl refl
    where
      go : (u v : Bool) → ltb at n ≡ u → eqb (get_or d at 0) g ≡ v → cond (u && v) (measured (get_or b at 0) (get_or s at nan)) None ≡ nearest batch g (zip n d b s)
      go true true x y = behind_row (ltb-true at n x) (eqb-true _ _ y) (λ h k. behind_nearer (get_or b (at - 1) 0) (not_front t h k))
      go true false x y = none_row (λ h k. eqb-false _ _ y (behind_is (get_or b (at - 1) 0) (not_front t h k)).1) (λ h k. eqb-false _ _ y k)
      go false v x y = none_row (λ h k. omega (arith, ltb-false at n x, (behind_is (get_or b (at - 1) 0) (not_front t h k)).0)) (λ h k. omega (arith, ltb-false at n x))

-- the first row of the depth and the batch of row i: row i itself, where the one in front goes before it
module _ (n : ℕ) (d b : List ℕ) (s : List Float) (p : n ≤ length d) (q : n ≤ length b) (r : n ≤ length s) (o : ordered (zip n d b s) ≡ true) (i : ℕ) (h : i < n) where
  own_most : rows_before (get_or d i 0) (get_or b i 0) (zip n d b s) ≤ i
  own_most = stops n d b s p q r o (get_or d i 0) (get_or b i 0) i h (to_not_before _ _ _ _ (omega arith, λ t. omega arith))

  pub first_of_all : i < 1 → 0 ≡ rows_before (get_or d i 0) (get_or b i 0) (zip n d b s)
  first_of_all k = omega (arith, own_most)

  pub first_itself : 1 ≤ i → before (get_or d (i - 1) 0) (get_or b (i - 1) 0) (get_or d i 0) (get_or b i 0) ≡ true → i ≡ rows_before (get_or d i 0) (get_or b i 0) (zip n d b s)
  first_itself k e = omega (arith, own_most, goes_on n d b s p q r o (get_or d i 0) (get_or b i 0) (i - 1) (omega arith) e)

  pub first_within : rows_before (get_or d i 0) (get_or b i 0) (zip n d b s) < n
  first_within = omega (arith, own_most)
