-- Rows that ascend by their keys: each is held at its own key, and two lists of them that hold the same at every key are the same. Assumes nothing.
use mathlib.Core.Path.{◌≡◌, refl, sym, ap, ◌∙◌}
use mathlib.Core.Bool.{Bool, true, false}
use mathlib.Core.List.{List, [], ◌∷◌}
use mathlib.Core.Option.{none, some}
use Prim.Native.Nat.{ℕ, zero, suc, ◌<◌}
use native.Mathlib.Omega.{arith}
use lib.ListN.{length, get_or}
use Rattle.ledger_rows.proofs.Maps.{none_some}
use Rattle.ledger_rows.specs.Map.{Order, at, Above, Ascending}
use Rattle.ledger_rows.proofs.Tests.{by_test, not_both}

module _ {K U : Type 0} (less same : K → K → Bool) (ord : Order less same) where
  -- the first row is held
  first_held : (r : K × U) (rs : List (K × U)) → at less same r.0 (r ∷ rs) ≡ some r.1
  unfolding at
  first_held r rs = rw (ord.not_itself r.0, ord.itself r.0)

  -- a key that is not above one row is none of the rows above that one
  not_above : (k b : K) (rs : List (K × U)) → Above less same b rs → less b k ≡ false → at less same k rs ≡ none
  unfolding at Above
  not_above k b [] a h = refl
  not_above k b (r ∷ rs) a h = by_test (less r.0 k)
      (λ l. absurd (not_both (less b k) (ord.through b r.0 k a.0 l) h))
      (λ l. by_test (same r.0 k)
      (λ q. let e : r.0 ≡ k = ord.equal r.0 k q in absurd (not_both (less b k) (rw e at a.0) h))
      (λ q. rw (l, q)))

  -- a key before the first row is not held
  before_all : (k : K) (r : K × U) (rs : List (K × U)) → less k r.0 ≡ true → at less same k (r ∷ rs) ≡ none
  unfolding at
  before_all k r rs h = by_test (less r.0 k)
      (λ l. absurd (not_both (less k k) (ord.through k r.0 k h l) (ord.not_itself k)))
      (λ l. by_test (same r.0 k)
      (λ q. let e : r.0 ≡ k = ord.equal r.0 k q in absurd (not_both (less k k) (rw e at h) (ord.not_itself k)))
      (λ q. rw (l, q)))

  -- nothing is held by no rows; a key above the first row is held by the rest
  none_held : (k : K) → at {U = U} less same k [] ≡ none
  unfolding at
  none_held k = refl

  past_first : (r : K × U) (rs : List (K × U)) (k : K) → less r.0 k ≡ true → at less same k (r ∷ rs) ≡ at less same k rs
  unfolding at
  past_first r rs k l = rw l

  -- a row that stands above one has a larger key; each row of rows that ascend is held at its key
  above_row : (b : K) (rs : List (K × U)) → Above less same b rs → (d : K × U) (i : ℕ) → i < length rs → less b (get_or rs i d).0 ≡ true
  unfolding Above
  above_row b [] a d i h = absurd (omega arith)
  above_row b (r ∷ rs) a d zero h = a.0
  above_row b (r ∷ rs) a d (suc i) h = above_row b rs a.1 d i (omega arith)

  pub row_held : (rs : List (K × U)) → Ascending less same rs → (d : K × U) (i : ℕ) → i < length rs → at less same (get_or rs i d).0 rs ≡ some (get_or rs i d).1
  unfolding Ascending
  row_held [] a d i h = absurd (omega arith)
  row_held (r ∷ rs) a d zero h = first_held r rs
  row_held (r ∷ rs) a d (suc i) h = past_first r rs (get_or rs i d).0 (above_row r.0 rs a.0 d i (omega arith)) ∙ row_held rs a.1 d i (omega arith)

  -- what holds at every key of two lists with the same first row holds of the rest
  rest_same : (r : K × U) (xs ys : List (K × U)) → Above less same r.0 xs → Above less same r.0 ys → ((k : K) → at less same k (r ∷ xs) ≡ at less same k (r ∷ ys)) → (k : K) → at less same k xs ≡ at less same k ys
  rest_same r xs ys a b h k = by_test (less r.0 k)
      (λ l. sym (past_first r xs k l) ∙ h k ∙ past_first r ys k l)
      (λ l. not_above k r.0 xs a l ∙ sym (not_above k r.0 ys b l))

  pub same_rows : (xs ys : List (K × U)) → Ascending less same xs → Ascending less same ys → ((k : K) → at less same k xs ≡ at less same k ys) → xs ≡ ys
  unfolding Ascending
  same_rows [] [] a b h = refl
  same_rows [] (y ∷ ys) a b h = absurd (none_some y.1 (sym (none_held y.0) ∙ h y.0 ∙ first_held y ys))
  same_rows (x ∷ xs) [] a b h = absurd (none_some x.1 (sym (none_held x.0) ∙ sym (h x.0) ∙ first_held x xs))
  same_rows (x ∷ xs) (y ∷ ys) a b h = by_test (less x.0 y.0)
      (λ l. absurd (none_some x.1 (sym (before_all x.0 y ys l) ∙ sym (h x.0) ∙ first_held x xs)))
      (λ l. by_test (same x.0 y.0)
      (λ q. let e : x.0 ≡ y.0 = ord.equal x.0 y.0 q in
      let v : some x.1 ≡ some y.1 = sym (first_held x xs) ∙ h x.0 ∙ ap (λ (k : K). at less same k (y ∷ ys)) e ∙ first_held y ys in
      let u : x.1 ≡ y.1 = cc in
      let f : x ≡ y = ap (λ (k : K). (k, x.1)) e ∙ ap (λ (w : U). (y.0, w)) u in
      let t : xs ≡ ys = same_rows xs ys a.1 b.1 (rest_same x xs ys a.0 (rw (← e) at b.0) (rw (← f) at h)) in
      ap (λ (r : K × U). r ∷ xs) f ∙ ap (λ (rs : List (K × U)). y ∷ rs) t)
      (λ q. absurd (none_some y.1 (sym (before_all y.0 x xs (ord.either x.0 y.0 l q)) ∙ h y.0 ∙ first_held y ys))))
