-- Means, and their sum in order. Assumes nothing.
use Rattle.std.proofs.Common.{◌≡◌, ℕ, ◌+◌, List, [], ◌∷◌, ◌++◌, refl, add-one, eq-eqb, ne_eqb}
use lib.Ieee.{Float}
use Rattle.float.specs.Floats.{f0, plus, over, whole}
use Rattle.ledger_series.specs.Series.{up_to, added, figure_of}
use Rattle.ledger_series.proofs.Fronts.{length_up}

-- one more
added_last : (sum : Float) (xs : List Float) (x : Float) → added sum (xs ++ (x ∷ [])) ≡ plus (added sum xs) x
unfolding added
added_last sum [] x = refl
added_last sum (y ∷ xs) x = added_last (plus sum y) xs x

module _ (f : ℕ → Float) where
  pub added_none : f0 ≡ added f0 (up_to f 0)
  unfolding added up_to
  added_none = refl

  pub added_more : (n : ℕ) (sum x : Float) → sum ≡ added f0 (up_to f n) → x ≡ f n → plus sum x ≡ added f0 (up_to f (n + 1))
  unfolding up_to
  added_more n sum x e v = rw (add-one, added_last f0 (up_to f n) (f n), e, v)

  pub figure_none : (n : ℕ) → n ≡ 0 → f0 ≡ figure_of (up_to f n)
  unfolding figure_of
  figure_none n e = rw (length_up f n, eq-eqb n 0 e)

  pub figure_some : (n : ℕ) (sum by : Float) → (n ≡ 0 → ⊥) → sum ≡ added f0 (up_to f n) → by ≡ whole n → over sum by ≡ figure_of (up_to f n)
  unfolding figure_of
  figure_some n sum by z e d = rw (length_up f n, ne_eqb n 0 z, e, d)
