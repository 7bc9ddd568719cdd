-- The bridged price, whatever the number of tokens: inside the measured depths it is a number and at most 2^66 in size, outside them +infinity. It is never a
-- NaN. Assumes nothing.
use mathlib.Core.Path.{◌≡◌, refl, sym, ap, ◌∙◌}
use mathlib.Core.Logic.{inl, inr}
use mathlib.Core.Bool.{Bool, true, false, ◌&&◌, cond}
use mathlib.Core.List.{List}
use Prim.Native.Nat.{ℕ, ◌+◌, ◌-◌, ◌^◌, ◌≤◌, ◌<◌, min}
use native.Mathlib.Omega.{arith}
use borrow.Author.Tests.{eq-eqb}
use lib.Dec.{eqb}
use lib.ListN.{length, get_or}
use lib.Ieee.{Float, nan, lt, is_nan, to_unsigned, of_bits}
use Rattle.laws.proofs.Both.{both}
use Rattle.float.specs.Floats.{plus, less, times, over, whole, f0, infinity, is_finite}
use Rattle.float.proofs.Classes.{clash, is_nan_lem, finite_no_nan}
use Rattle.verify_prices.specs.Price.{mean_width}
use Rattle.verify_prices.specs.Bridge.{is_measured, lower, upper, straight, foot_of, ceiling_of, bridged_cost}
use Rattle.verify_prices.proofs.Counted.{whole_value}
use Rattle.verify_prices.proofs.Spans.{lower_le, upper_ge, upper_le, upper_here}
use Rattle.verify_prices.proofs.Between.{ceiling_between}
use Rattle.gates_laws.specs.Entries.{Curve}
use Rattle.gates_laws.specs.Holes.{is_inside}
use Rattle.gates_laws.proofs.Sizes.{Sized, sized_finite, sized_more, whole_sized, sized_less}
use Rattle.gates_laws.proofs.Powers.{Within, within_more, within_over}
use Rattle.gates_laws.proofs.Prices.{width_sized, nan_part, Entry, entry_of, way_within}

-- ---- straight between two entries
priced : (c : Float) → Entry c → is_finite c ≡ true → Within 57 c
unfolding is_finite
priced c (inl s) h = s
priced c (inr e) h = clash (sym (ap is_finite e) ∙ h)

between_within : (w x y : Float) (low high : ℕ) → Sized 64 w → low < high → high ≤ 64 → Within 57 x → Within 57 y
    → Within 66 (plus x (times (over (less w (whole low)) (whole (high - low))) (less y x)))
between_within w x y low high s l m p q =
    let way = sized_less 64 64 w (whole low) (omega arith) s (sized_more low 64 (whole low) (omega arith) (whole_sized low (omega arith))) in
    let part = within_over 7 (high - low) (less w (whole low)) (whole (high - low)) (omega arith) (omega arith) (whole_value (high - low) (omega arith)) way in
    way_within (over (less w (whole low)) (whole (high - low))) x y part p q

straight_within : (w x y : Float) (low high : ℕ) → low ≤ high → high ≤ 64 → Entry x → Entry y → is_finite x ≡ true → is_finite y ≡ true
    → ((high ≡ low → ⊥) → Sized 64 w) → Within 66 (straight w low high x y)
unfolding straight
straight_within w x y low high l m p q e f sized = rw (e, f) (go (eqb high low) refl)
  where
    go : (c : Bool) → eqb high low ≡ c → Within 66 (cond c x (plus x (times (over (less w (whole low)) (whole (high - low))) (less y x))))
    go true h = within_more 57 66 x (omega arith) (priced x p e)
    go false h =
        let other : high ≡ low → ⊥ = λ k. clash (sym h ∙ eq-eqb high low k) in
        between_within w x y low high (sized other) (omega (arith, other)) m (priced x p e) (priced y q f)

pub open_straight : (w x y : Float) (low high : ℕ) → (is_finite x && is_finite y) ≡ false → straight w low high x y ≡ infinity
unfolding straight
open_straight w x y low high h = ap (λ (b : Bool). cond b (cond (eqb high low) x (plus x (times (over (less w (whole low)) (whole (high - low))) (less y x)))) infinity) h

pub infinite : is_finite infinity ≡ false
unfolding is_finite of_bits
infinite = refl

infinite_number : is_nan infinity ≡ false
unfolding is_nan of_bits
infinite_number = refl

module _ (curve : List Float) (at : Curve curve) where
  -- a width that is no number is at depth 0
  nan_here : (w : Float) → w ≡ nan → is_measured curve (lower curve (foot_of (length curve - 1) w)) ≡ true
      → upper curve (ceiling_of (length curve - 1) w (foot_of (length curve - 1) w)) ≡ lower curve (foot_of (length curve - 1) w)
  unfolding lower to_unsigned
  nan_here w e h =
      let g = length curve - 1 in
      let s0 : foot_of g w ≡ 0 = ap (λ (v : Float). min (to_unsigned 64 v) g) e ∙ (let z : min 0 g ≡ 0 = omega arith in z) in
      let r0 : ceiling_of g w (foot_of g w) ≡ foot_of g w =
      ap (λ (b : Bool). cond b (min (foot_of g w + 1) g) (foot_of g w)) (ap (λ (v : Float). lt f0 (less v (whole (foot_of g w)))) e ∙ nan_part (foot_of g w)) in
      let low0 : lower curve (foot_of g w) ≡ 0 = ap (lower curve) s0 in
      let here : is_measured curve 0 ≡ true = ap (is_measured curve) (sym low0) ∙ h in
      ap (upper curve) (r0 ∙ s0) ∙ upper_here curve 0 here ∙ sym low0

  module _ (n : ℕ) (t : Float) where
    abbrev gamma : ℕ
    gamma = length curve - 1

    abbrev width : Float
    width = mean_width gamma n t

    abbrev low : ℕ
    low = lower curve (foot_of gamma width)

    abbrev high : ℕ
    high = upper curve (ceiling_of gamma width (foot_of gamma width))

    -- a number, where the two depths are not one
    width_number : is_measured curve low ≡ true → (high ≡ low → ⊥) → (b : Bool) → is_nan width ≡ b → Sized 64 width
    width_number e other true k = absurd (other (nan_here width (is_nan_lem width k) e))
    width_number e other false k = let few = at.few in sized_more gamma 64 width (omega arith) (width_sized gamma n t (omega arith) k)

    -- inside the measured depths it is finite, and at most 2^66 in size
    pub bridged_within : is_inside curve n t ≡ true → Within 66 (bridged_cost curve n t)
    unfolding bridged_cost
    bridged_within h =
        let few = at.few in
        let many = at.many in
        let s = foot_of gamma width in
        let most : s ≤ gamma = omega arith in
        let c = ceiling_between gamma width s most in
        let below : low < length curve = omega (arith, lower_le curve s) in
        let above : high ≤ gamma = upper_le curve (ceiling_of gamma width s) (omega (arith, c)) in
        let i = both (is_measured curve low) (is_measured curve high) h in
        straight_within width (get_or curve low nan) (get_or curve high nan) low high (omega (arith, lower_le curve s, upper_ge curve (ceiling_of gamma width s), c)) (omega (arith, above))
        (entry_of (get_or curve low nan) (at.each low below)) (entry_of (get_or curve high nan) (at.each high (omega (arith, above)))) i.0 i.1
        (λ other. width_number i.0 other (is_nan width) refl)

    -- outside them it is +infinity
    pub bridged_open : is_inside curve n t ≡ false → bridged_cost curve n t ≡ infinity
    unfolding bridged_cost
    bridged_open h = open_straight width (get_or curve low nan) (get_or curve high nan) low high h

    -- so it is finite exactly inside them
    pub bridged_finite : is_finite (bridged_cost curve n t) ≡ is_inside curve n t
    bridged_finite = go (is_inside curve n t) refl
      where
        go : (b : Bool) → is_inside curve n t ≡ b → is_finite (bridged_cost curve n t) ≡ b
        go true h = sized_finite (2 ^ 66) (bridged_cost curve n t) (bridged_within h)
        go false h = ap is_finite (bridged_open h) ∙ infinite

    -- and never a NaN
    pub bridged_number : is_nan (bridged_cost curve n t) ≡ false
    bridged_number = go (is_inside curve n t) refl
      where
        go : (b : Bool) → is_inside curve n t ≡ b → is_nan (bridged_cost curve n t) ≡ false
        go true h = finite_no_nan (bridged_cost curve n t) (bridged_finite ∙ h)
        go false h = ap is_nan (bridged_open h) ∙ infinite_number
