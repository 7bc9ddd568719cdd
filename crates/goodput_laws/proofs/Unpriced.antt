-- A depth without a finite cost changes nothing: whatever its expected value, the best depth is the same. Assumes nothing.
use mathlib.Core.Path.{◌≡◌, refl, sym, ap, ◌∙◌}
use mathlib.Core.Bool.{Bool, true, false, not, cond, ◌&&◌, ◌||◌}
use mathlib.Core.List.{List}
use Prim.Native.Nat.{ℕ, zero, suc}
use lib.ListN.{length, get_or, set}
use lib.Seq.{get_or-set_other}
use lib.Ieee.{Float, nan, lt}
use Rattle.float.specs.Floats.{is_finite}
use Rattle.float.proofs.Classes.{clash}
use Rattle.depths.specs.Goodput.{goodput_of, goodput_at, is_priced, exceeded, is_best, first_best, best_of}

-- two lists of expected values that agree wherever the cost is finite
module _ (n : ℕ) (es fs cs : List Float) (same : (g : ℕ) → is_finite (get_or cs g nan) ≡ true → get_or es g nan ≡ get_or fs g nan) where
  goodput_same : (g : ℕ) → is_finite (get_or cs g nan) ≡ true → goodput_at n es cs g ≡ goodput_at n fs cs g
  goodput_same g h = ap (λ (e : Float). goodput_of n e (get_or cs g nan)) (same g h)

  and_same : (p a b : Bool) → (p ≡ true → a ≡ b) → (p && a) ≡ (p && b)
  and_same true a b h = h refl
  and_same false a b h = refl

  exceeded_same : (x : Float) (k : ℕ) → exceeded n es cs x k ≡ exceeded n fs cs x k
  unfolding exceeded
  exceeded_same x zero = refl
  exceeded_same x (suc k) =
      let here : (is_priced n es cs k && lt x (goodput_at n es cs k)) ≡ (is_priced n fs cs k && lt x (goodput_at n fs cs k)) =
      and_same (is_finite (get_or cs k nan)) (lt x (goodput_at n es cs k)) (lt x (goodput_at n fs cs k)) (λ h. ap (lt x) (goodput_same k h)) in
      ap (λ (b : Bool). b || (is_priced n es cs k && lt x (goodput_at n es cs k))) (exceeded_same x k) ∙ ap (λ (b : Bool). exceeded n fs cs x k || b) here

  best_same : (g : ℕ) → is_best n es cs g ≡ is_best n fs cs g
  best_same g =
      and_same (is_finite (get_or cs g nan)) (not (exceeded n es cs (goodput_at n es cs g) (length cs))) (not (exceeded n fs cs (goodput_at n fs cs g) (length cs)))
      (λ h. ap not (exceeded_same (goodput_at n es cs g) (length cs) ∙ ap (λ (x : Float). exceeded n fs cs x (length cs)) (goodput_same g h)))

  first_same : (k g : ℕ) → first_best n es cs k g ≡ first_best n fs cs k g
  unfolding first_best
  first_same zero g = refl
  first_same (suc k) g = ap (λ (b : Bool). cond b g (first_best n es cs k (suc g))) (best_same g) ∙ ap (λ (i : ℕ). cond (is_best n fs cs g) g i) (first_same k (suc g))

  pub unpriced_alike : best_of n es cs ≡ best_of n fs cs
  unfolding best_of
  unpriced_alike = first_same (length cs) 0

-- one expected value replaced, at a depth whose cost is not finite
pub unpriced_ignored : (n : ℕ) (es cs : List Float) (g : ℕ) (x : Float) → is_finite (get_or cs g nan) ≡ false → best_of n (set es g x) cs ≡ best_of n es cs
unpriced_ignored n es cs g x h = unpriced_alike n (set es g x) es cs (λ i k. get_or-set_other es g i x nan (λ (e : i ≡ g). clash (sym h ∙ ap (λ (j : ℕ). is_finite (get_or cs j nan)) (sym e) ∙ k)))
