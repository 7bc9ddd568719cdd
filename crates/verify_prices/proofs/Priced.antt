-- What a curve needs before a price is asked for: nothing in the default mode, its spans in the bridged. Assumes nothing.
use Prim.Native.Nat.{ℕ, ◌≤◌, ◌<◌}
use mathlib.Core.Path.{◌≡◌, sym, ap, ◌∙◌}
use mathlib.Core.List.{List}
use native.Mathlib.Omega.{arith}
use lib.ListN.{length}
use lib.Ieee.{Float}
use Rattle.verify_prices.specs.Price.{verify_cost}
use Rattle.verify_prices.specs.Bridge.{bridged_cost}
use Rattle.verify_prices.specs.Rule.{Spanned, Priced, price_by}
use Rattle.verify_prices.specs.declared.PriceMode.{PriceMode}
use Rattle.verify_prices.specs.declared.PriceMode.TheVariants.{Default, Bridged}

kind_of : PriceMode → ℕ
kind_of Default = 0
kind_of Bridged = 1

pub priced_default : (curve : List Float) (spans : List ℕ) → (1 < length curve) × (length curve ≤ 65) → Priced Default curve spans
unfolding kind_of
priced_default curve spans h =
    record { many = h.0; few = h.1; spanned = λ q. absurd (let z : ◌≡◌ {A = ℕ} 0 1 = ap kind_of q in omega arith) }

pub priced_bridged : (curve : List Float) (spans : List ℕ) → (1 < length curve) × (length curve ≤ 65) → Spanned curve spans → Priced Bridged curve spans
priced_bridged curve spans h s = record { many = h.0; few = h.1; spanned = λ q. s }

-- a price that is worked out by the rule of the mode at hand
module _ (mode : PriceMode) (curve : List Float) (n : ℕ) (t x : Float) where
  pub by_default : mode ≡ Default → x ≡ verify_cost curve n t → x ≡ price_by mode curve n t
  by_default h e = e ∙ ap (λ (m : PriceMode). price_by m curve n t) (sym h)

  pub by_bridged : mode ≡ Bridged → x ≡ bridged_cost curve n t → x ≡ price_by mode curve n t
  by_bridged h e = e ∙ ap (λ (m : PriceMode). price_by m curve n t) (sym h)
