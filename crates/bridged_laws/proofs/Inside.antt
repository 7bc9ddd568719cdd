-- The mean width lies inside the measured depths exactly where a measured depth is at or below it and a measured depth at or above it; at a measured depth
-- the bridged price is that entry. Assumes nothing.
use mathlib.Core.Path.{◌≡◌, refl, sym, ap, ◌∙◌}
use mathlib.Core.Bool.{Bool, true, false, cond}
use mathlib.Core.List.{List}
use Prim.Native.Nat.{ℕ, zero, suc, ◌+◌, ◌-◌, ◌≤◌}
use native.Mathlib.Decide.{ℕ_discrete}
use native.Mathlib.Omega.{arith}
use borrow.Author.Tests.{leb-true, le-leb}
use lib.ListN.{length, get_or}
use lib.Ieee.{Float, nan, le, is_nan}
use Rattle.laws.proofs.Both.{both}
use Rattle.float.specs.Floats.{whole}
use Rattle.float.proofs.Classes.{clash}
use Rattle.verify_prices.specs.Price.{mean_width}
use Rattle.verify_prices.specs.Bridge.{is_measured, lower, upper_of, upper, foot_of, ceiling_of, bridged, bridged_cost}
use Rattle.verify_prices.proofs.Spans.{lower_le, upper_ge, lower_here, upper_here}
use Rattle.verify_prices.proofs.Between.{one_depth}
use Rattle.gates_laws.specs.Holes.{is_inside}
use Rattle.bridged_laws.proofs.Around.{Around}
use Rattle.bridged_laws.proofs.Means.{mean_around}

module _ (curve : List Float) where
  lower_measured : (s g : ℕ) → g ≤ s → is_measured curve g ≡ true → is_measured curve (lower curve s) ≡ true
  unfolding lower
  lower_measured zero g l h = ap (is_measured curve) (let e : 0 ≡ g = omega arith in e) ∙ h
  lower_measured (suc s) g l h = go (is_measured curve (suc s)) refl (ℕ_discrete g (suc s)) (λ i. lower_measured s g i h)
    where
      go : (b : Bool) → is_measured curve (suc s) ≡ b → Dec (g ≡ suc s) → (g ≤ s → is_measured curve (lower curve s) ≡ true) → is_measured curve (cond b (suc s) (lower curve s)) ≡ true
      go true e d later = e
      go false e (yes q) later = clash (sym e ∙ ap (is_measured curve) (sym q) ∙ h)
      go false e (no q) later = later (omega arith)

  upper_measured : (k g m : ℕ) → g ≤ m → m ≤ g + k → is_measured curve m ≡ true → is_measured curve (upper_of curve k g) ≡ true
  unfolding upper_of
  upper_measured zero g m l u h = ap (is_measured curve) (let e : g ≡ m = omega arith in e) ∙ h
  upper_measured (suc k) g m l u h = go (is_measured curve g) refl (ℕ_discrete g m) (λ i. upper_measured k (suc g) m i (omega arith) h)
    where
      go : (b : Bool) → is_measured curve g ≡ b → Dec (g ≡ m) → (suc g ≤ m → is_measured curve (upper_of curve k (suc g)) ≡ true) → is_measured curve (cond b g (upper_of curve k (suc g))) ≡ true
      go true e d later = e
      go false e (yes q) later = clash (sym e ∙ ap (is_measured curve) q ∙ h)
      go false e (no q) later = later (omega arith)

  module _ (few : length curve ≤ 65) (n : ℕ) (t : Float) (number : is_nan (mean_width (length curve - 1) n t) ≡ false) where
    abbrev gamma : ℕ
    gamma = length curve - 1

    abbrev width : Float
    width = mean_width gamma n t

    abbrev foot : ℕ
    foot = foot_of gamma width

    abbrev top : ℕ
    top = ceiling_of gamma width foot

    at : Around gamma width foot top
    at = mean_around gamma n t (omega arith) number

    -- a measured depth at or below it, and one at or above it
    pub inside_by : (low high : ℕ) → is_measured curve low ≡ true → is_measured curve high ≡ true → high ≤ gamma → le (whole low) width ≡ true → le width (whole high) ≡ true
        → is_inside curve n t ≡ true
    inside_by low high p q on_curve l h =
        let under : low ≤ foot = leb-true low foot (sym (at.at_or_below low) ∙ l) in
        let over : top ≤ high = leb-true top high (sym (at.at_or_above high) ∙ h) in
        rw (lower_measured foot low under p, upper_measured (gamma - top) top high over (omega (arith, on_curve, over)) q)

    -- and so the two that the bridged price is taken from
    pub inside_says : is_inside curve n t ≡ true
        → (is_measured curve (lower curve foot) ≡ true) × (le (whole (lower curve foot)) width ≡ true) × (is_measured curve (upper curve top) ≡ true) × (le width (whole (upper curve top)) ≡ true)
    inside_says h =
        let i = both (is_measured curve (lower curve foot)) (is_measured curve (upper curve top)) h in
        (i.0, at.at_or_below (lower curve foot) ∙ le-leb (lower curve foot) foot (lower_le curve foot), i.1, at.at_or_above (upper curve top) ∙ le-leb top (upper curve top) (upper_ge curve top))

    -- at a measured depth the bridged price is that entry itself
    pub at_a_depth : (g : ℕ) → is_measured curve g ≡ true → le (whole g) width ≡ true → le width (whole g) ≡ true → bridged_cost curve n t ≡ get_or curve g nan
    unfolding bridged_cost
    at_a_depth g m l h =
        let under : g ≤ foot = leb-true g foot (sym (at.at_or_below g) ∙ l) in
        let over : top ≤ g = leb-true top g (sym (at.at_or_above g) ∙ h) in
        let foot_is : foot ≡ g = omega (arith, at.near, under, over) in
        let top_is : top ≡ g = omega (arith, at.near, under, over) in
        let x = get_or curve g nan in
        ap (λ (i : ℕ). bridged curve width i (upper curve top)) (ap (lower curve) foot_is ∙ lower_here curve g m)
        ∙ ap (λ (j : ℕ). bridged curve width g j) (ap (upper curve) top_is ∙ upper_here curve g m)
        ∙ sym (one_depth width g g x x m m refl)
