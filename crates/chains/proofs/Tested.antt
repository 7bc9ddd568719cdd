-- A test of every entry, from a place on: one entry, and nothing left. Assumes nothing.
use mathlib.Core.Path.{◌≡◌, ap, ◌∙◌}
use mathlib.Core.Bool.{Bool, true, ◌&&◌}
use mathlib.Core.List.{List, [], ◌∷◌}
use Prim.Native.Nat.{ℕ, zero, suc, ◌+◌, ◌≤◌, ◌<◌}
use native.Mathlib.Nat.{not-suc-le-zero, le_of_suc-le-suc}
use lib.ListN.{length, get_or, drop, drop_of_length-le}
use Rattle.laws.proofs.Lists.{next}
use Rattle.laws.proofs.Both.{both}
use Rattle.chains.specs.Tests.{all_of}

module _ {A : Type 0} (test : A → Bool) (none : A) where
  -- entry d passes or not
  pub all_next : (z : Bool) (xs : List A) (d : ℕ) → d < length xs → test (get_or xs d none) ≡ z → all_of test (drop d xs) ≡ (z && all_of test (drop (d + 1) xs))
  unfolding all_of
  all_next z xs d h e = ap (all_of test) (next xs d none h) ∙ ap (λ (b : Bool). b && all_of test (drop (d + 1) xs)) e

  pub all_end : (xs : List A) (d : ℕ) → length xs ≤ d → all_of test (drop d xs) ≡ true
  unfolding all_of
  all_end xs d h = ap (all_of test) (drop_of_length-le xs h)

  -- where all pass, each does
  pub all_says : (xs : List A) → all_of test xs ≡ true → (d : ℕ) → d < length xs → test (get_or xs d none) ≡ true
  unfolding all_of
  all_says [] h d l = absurd (not-suc-le-zero l)
  all_says (x ∷ xs) h zero l = (both (test x) (all_of test xs) h).0
  all_says (x ∷ xs) h (suc d) l = all_says xs (both (test x) (all_of test xs) h).1 d (le_of_suc-le-suc l)
