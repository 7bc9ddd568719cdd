-- A chosen depth above 0 is measured, whatever the expected values, the prices and the drafter are. Assumes nothing.
use mathlib.Core.Path.{◌≡◌, refl}
use mathlib.Core.Logic.{◌⊎◌, inl, inr}
use mathlib.Core.Bool.{Bool, true, false, not, ◌&&◌, cond}
use mathlib.Core.List.{List, [], ◌∷◌}
use Prim.Native.Nat.{ℕ, zero, suc, ◌<◌}
use native.Mathlib.Omega.{arith}
use lib.ListN.{length, get_or}
use lib.Ieee.{Float, nan}
use Rattle.float.specs.Floats.{plus, is_finite}
use Rattle.float.proofs.Classes.{clash}
use Rattle.speculative.specs.Drafter.{drafter_seconds, loaded_at}
use Rattle.speculative.specs.declared.drafter.Rates.{Rates}
use Rattle.speculative.specs.declared.drafter.DrafterCost.{DrafterCost}
use Rattle.chains.specs.Scan.{scan}
use Rattle.depths.specs.Goodput.{is_priced, exceeded, goodput_at, is_best, first_best, best_of}
use Rattle.depths.specs.Pricing.{total_cost, costs_from}
use Rattle.goodput.specs.Depth.{best_priced}
use Rattle.verify_prices.specs.Bridge.{is_measured}

-- ---- the smallest best depth of those looked at has a finite cost, or it is 0
module _ (n : ℕ) (es cs : List Float) where
  best_priced_lem : (g : ℕ) → is_best n es cs g ≡ true → is_priced n es cs g ≡ true
  best_priced_lem g h = go (is_priced n es cs g) h
    where
      go : (b : Bool) → (b && not (exceeded n es cs (goodput_at n es cs g) (length cs))) ≡ true → b ≡ true
      go true k = refl
      go false k = k

  first_priced : (k g : ℕ) → (first_best n es cs k g ≡ 0) ⊎ (is_priced n es cs (first_best n es cs k g) ≡ true)
  unfolding first_best
  first_priced zero g = inl refl
  first_priced (suc k) g = go (is_best n es cs g) refl (first_priced k (suc g))
    where
      go : (b : Bool) → is_best n es cs g ≡ b → ((first_best n es cs k (suc g) ≡ 0) ⊎ (is_priced n es cs (first_best n es cs k (suc g)) ≡ true))
          → (cond b g (first_best n es cs k (suc g)) ≡ 0) ⊎ (is_priced n es cs (cond b g (first_best n es cs k (suc g))) ≡ true)
      go true e later = inr (best_priced_lem g e)
      go false e later = later

-- ---- a finite cost has a finite price
module _ (kind : DrafterCost) (n : ℕ) (rates : Rates) (loaded : Float) where
  cost_price : (g : ℕ) (verify : Float) → is_finite (total_cost kind n rates loaded g verify) ≡ true → is_finite verify ≡ true
  unfolding total_cost
  cost_price g verify h = go (is_finite verify) refl h
    where
      go : (b : Bool) → is_finite verify ≡ b → is_finite (cond b (plus verify (drafter_seconds kind g n rates verify loaded)) verify) ≡ true → is_finite verify ≡ true
      go true e k = e
      go false e k = k

  costs_prices : (curve : List Float) (s g : ℕ) → is_finite (get_or (costs_from kind n rates loaded s curve) g nan) ≡ true → is_finite (get_or curve g nan) ≡ true
  unfolding scan
  costs_prices [] s g h = h
  costs_prices (c ∷ curve) s zero h = cost_price s c h
  costs_prices (c ∷ curve) s (suc g) h = costs_prices curve (suc s) g h

pub chosen_measured : (kind : DrafterCost) (n : ℕ) (rates : Rates) (loaded es curve : List Float)
    → 0 < best_priced kind n rates loaded es curve → is_measured curve (best_priced kind n rates loaded es curve) ≡ true
unfolding best_of
chosen_measured kind n rates loaded es curve some = go (first_priced n es cs (length cs) 0)
  where
    cs : List Float
    cs = costs_from kind n rates (loaded_at kind loaded n) 0 curve

    go : (first_best n es cs (length cs) 0 ≡ 0) ⊎ (is_priced n es cs (first_best n es cs (length cs) 0) ≡ true) → is_measured curve (first_best n es cs (length cs) 0) ≡ true
    go (inl e) = absurd (omega (arith, e, some))
    go (inr h) = costs_prices kind n rates (loaded_at kind loaded n) curve 0 (first_best n es cs (length cs) 0) h

-- a measured depth is one of the curve's
pub measured_on : (curve : List Float) (g : ℕ) → is_measured curve g ≡ true → g < length curve
unfolding is_finite
measured_on [] g h = clash h
measured_on (c ∷ curve) zero h = omega arith
measured_on (c ∷ curve) (suc g) h = omega (arith, measured_on curve g h)
