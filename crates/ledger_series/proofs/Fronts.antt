-- The first values of a rule: how many, one more, and a buffer with them at its front. Assumes nothing.
use Rattle.std.proofs.Common.{◌≡◌, ℕ, zero, suc, ◌+◌, ◌<◌, ◌≤◌, List, [], ◌∷◌, length, get_or, take, drop, set, sym, refl, ◌∙◌, le_trans, add-one, arith, length-append, drop-cons, take-suc}
use native.Mathlib.Nat.{le-suc}
use lib.Seq.{set_at, append_snoc, take-length}
use Rattle.ledger_series.specs.Series.{up_to, front}

module _ {A : Type 0} (f : ℕ → A) where
  pub length_up : (n : ℕ) → length (up_to f n) ≡ n
  unfolding up_to
  length_up zero = refl
  length_up (suc n) = length-append (up_to f n) (f n ∷ []) ∙ rw (length_up n) (add-one n)

  -- the values are those of a list
  up_take : (xs : List A) (d : A) → ((i : ℕ) → i < length xs → f i ≡ get_or xs i d) → (n : ℕ) → n ≤ length xs → up_to f n ≡ take n xs
  unfolding up_to
  up_take xs d h zero le = refl
  up_take xs d h (suc n) le = rw (up_take xs d h n (le_trans (le-suc n) le), h n le) (sym (take-suc xs n d le))

  pub up_is : (xs : List A) (d : A) → ((i : ℕ) → i < length xs → f i ≡ get_or xs i d) → up_to f (length xs) ≡ xs
  up_is xs d h = up_take xs d h (length xs) (omega arith) ∙ take-length xs

  -- nothing yet, and one more value stored
  pub front_none : (old : List A) → old ≡ front f 0 old
  unfolding front up_to
  front_none old = refl

  pub front_more : (old now last : List A) (n : ℕ) (x : A) → n < length old → now ≡ front f n old → last ≡ set now n x → x ≡ f n → last ≡ front f (n + 1) old
  unfolding front up_to
  front_more old now last n x h e l v =
      rw (l, e, v, add-one, drop-cons old n x h, set_at (up_to f n) (get_or old n x) (drop (suc n) old) (f n) n (length_up n))
      (sym (append_snoc (up_to f n) (f n) (drop (suc n) old)))
