-- The bridged price by the depths that were looked for before: they are in order and on the curve. Assumes nothing.
use Prim.Native.Nat.{ℕ, ◌+◌, ◌-◌, ◌≤◌, ◌<◌, min}
use mathlib.Core.Path.{◌≡◌, ap, ◌∙◌}
use mathlib.Core.Bool.{Bool, true, false, cond}
use mathlib.Core.List.{List}
use native.Mathlib.Omega.{arith}
use borrow.Author.Tests.{eq-eqb}
use lib.ListN.{length, get_or}
use lib.Ieee.{Float, nan, lt}
use Rattle.float.specs.Floats.{less, whole, f0, is_finite}
use Rattle.verify_prices.specs.Price.{mean_width}
use Rattle.verify_prices.specs.Bridge.{lower, upper, straight, foot_of, ceiling_of, bridged, bridged_cost}
use Rattle.verify_prices.specs.Rule.{Spanned}
use Rattle.verify_prices.proofs.Spans.{lower_le, upper_ge, upper_le}

-- ---- the depth at or above the width
module _ (gamma : ℕ) (w : Float) (s : ℕ) (h : s ≤ gamma) where
  pub ceiling_between : (s ≤ ceiling_of gamma w s) × (ceiling_of gamma w s ≤ gamma)
  ceiling_between = go (lt f0 (less w (whole s)))
    where
      go : (b : Bool) → (s ≤ cond b (min (s + 1) gamma) s) × (cond b (min (s + 1) gamma) s ≤ gamma)
      go true = (omega arith, omega arith)
      go false = (omega arith, h)

-- ---- straight between two depths that are one
module _ (w : Float) (low high : ℕ) (x y : Float) (p : is_finite x ≡ true) (q : is_finite y ≡ true) where
  pub one_depth : high ≡ low → x ≡ straight w low high x y
  unfolding straight
  one_depth e = rw (p, q, eq-eqb high low e)

-- ---- what the spans have at a width
pub record Spot (curve : List Float) (spans : List ℕ) (s r : ℕ) : Type 0 where
  pub foot : s < length curve
  pub top : r ≤ 64
  pub low_is : get_or spans s 0 ≡ lower curve s
  pub high_is : get_or spans (65 + r) 0 ≡ upper curve r
  pub ordered : get_or spans s 0 ≤ get_or spans (65 + r) 0
  pub on_curve : get_or spans (65 + r) 0 < length curve

module _ (curve : List Float) (spans : List ℕ) (many : 1 < length curve) (few : length curve ≤ 65) (at : Spanned curve spans) (n : ℕ) (t w : Float) (s r : ℕ)
    (sᵉ : s ≡ foot_of (length curve - 1) w) (rᵉ : r ≡ ceiling_of (length curve - 1) w s) where
  pub spot : Spot curve spans s r
  spot =
      let most : s ≤ length curve - 1 = omega arith in
      let c = ceiling_between (length curve - 1) w s most in
      let low = at.below s (omega arith) in
      let high = at.above r (omega (arith, c, rᵉ)) in
      record {
        foot = omega arith;
        top = omega (arith, c, rᵉ);
        low_is = low;
        high_is = high;
        ordered = omega (arith, low, high, lower_le curve s, upper_ge curve r, c, rᵉ);
        on_curve = omega (arith, high, upper_le curve r (omega (arith, c, rᵉ)));
      }

  pub bridged_is : w ≡ mean_width (length curve - 1) n t → (low high : ℕ) (price : Float) → low ≡ get_or spans s 0 → high ≡ get_or spans (65 + r) 0
      → price ≡ straight w low high (get_or curve low nan) (get_or curve high nan) → price ≡ bridged_cost curve n t
  unfolding bridged_cost
  bridged_is wᵉ low high price l h e =
      let g = length curve - 1 in
      e ∙ ap (λ (x : ℕ). bridged curve w x high) (l ∙ spot.low_is)
      ∙ ap (λ (y : ℕ). bridged curve w (lower curve s) y) (h ∙ spot.high_is ∙ ap (upper curve) rᵉ)
      ∙ ap (λ (x : ℕ). bridged curve w (lower curve x) (upper curve (ceiling_of g w x))) sᵉ
      ∙ ap (λ (v : Float). bridged curve v (lower curve (foot_of g v)) (upper curve (ceiling_of g v (foot_of g v)))) wᵉ
