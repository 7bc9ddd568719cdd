-- On a curve with no hole the two modes' prices differ at most where the mean width equals gamma exactly. Assumes nothing.
use mathlib.Core.Path.{◌≡◌, refl, sym, ap, ◌∙◌}
use mathlib.Core.Bool.{Bool, true, false, ◌&&◌, ◌||◌, cond}
use mathlib.Core.List.{List}
use Prim.Native.Nat.{ℕ, ◌+◌, ◌-◌, ◌*◌, ◌/◌, ◌≤◌, ◌<◌, min}
use native.Mathlib.Nat.{mul-one, mul_right_comm, div-lt_iff_lt-mul, le_of_mul-le-mul_right, le_trans, le_of_eq}
use native.Mathlib.Decide.{ℕ_discrete}
use native.Mathlib.Omega.{arith}
use borrow.Author.Tests.{ltb-false, eq-eqb, ne_eqb}
use lib.Dec.{eqb}
use lib.ListN.{length, get_or}
use lib.Ieee.{Float, nan, inf, fin, binary64, up, down, lt, eq, to_unsigned}
use lib.Ieee.Fits.{down_pos, sub-fits}
use lib.Ieee.Exact.{HasValue}
use Rattle.float.specs.Floats.{plus, less, times, over, whole, f0, f1, is_finite}
use Rattle.float.proofs.Classes.{clash}
use Rattle.float.proofs.Clamped.{clamp_high}
use Rattle.verify_prices.specs.Price.{mean_width, segment, between, verify_cost}
use Rattle.verify_prices.specs.Bridge.{is_measured, lower, upper, straight, foot_of, ceiling_of, bridged, bridged_cost}
use Rattle.verify_prices.proofs.Counted.{whole_value}
use Rattle.verify_prices.proofs.Spans.{lower_here, upper_here}
use Rattle.verify_prices.proofs.OverOne.{over_one}

-- ---- a width that is not above gamma and not gamma has a whole part below it
apart : (a b : ℕ) → (eqb a b && (true || eqb a 0)) ≡ false → a ≡ b → ⊥
apart a b h e = clash (sym h ∙ ap (λ (x : Bool). x && (true || eqb a 0)) (eq-eqb a b e))

cut_below : (x y : Float) (g : ℕ) → 0 < g → HasValue y false g 1 → lt y x ≡ false → eq x y ≡ false → to_unsigned 64 x < g
unfolding lt eq to_unsigned
cut_below nan y g z v l n = z
cut_below (inf true) y g z v l n = z
cut_below (inf false) nan g z v l n = absurd v
cut_below (inf false) (inf t) g z v l n = absurd v
cut_below (inf false) (fin t k d) g z v l n = clash (sym l)
cut_below (fin true m e) y g z v l n = z
cut_below (fin false m e) nan g z v l n = absurd v
cut_below (fin false m e) (inf t) g z v l n = absurd v
cut_below (fin false m e) (fin true k d) g z v l n = let w = v.0 in clash (sym w)
cut_below (fin false m e) (fin false k d) g z v l n =
    let whole_is : k * up d * down e ≡ g * down e * down d = ap (λ (w : ℕ). w * down e) (sym (mul-one (k * up d)) ∙ v.1) ∙ mul_right_comm g (down d) (down e) in
    let most : m * up e ≤ g * down e = le_of_mul-le-mul_right (le_trans (ltb-false (k * up d * down e) (m * up e * down d) l) (le_of_eq whole_is)) (down_pos d) in
    let other : m * up e ≡ g * down e → ⊥ = λ (q : m * up e ≡ g * down e). apart (m * up e * down d) (k * up d * down e) n (ap (λ (w : ℕ). w * down d) q ∙ sym whole_is) in
    let low : m * up e / down e < g = (div-lt_iff_lt-mul (down_pos e)).1 (strictly (m * up e) (g * down e) most other) in
    omega arith
  where
    strictly : (a b : ℕ) → a ≤ b → (a ≡ b → ⊥) → a < b
    strictly a b h ne = pick (ℕ_discrete a b)
      where
        pick : Dec (a ≡ b) → a < b
        pick (yes q) = absurd (ne q)
        pick (no q) = omega arith

-- ---- the two prices
module _ (curve : List Float) (many : 1 < length curve) (few : length curve ≤ 65) (whole_curve : (g : ℕ) → g < length curve → is_measured curve g ≡ true) where
  gamma : ℕ
  gamma = length curve - 1

  module _ (w : Float) (s : ℕ) (low : s < length curve - 1) where
    here : is_finite (get_or curve s nan) ≡ true
    here = whole_curve s (omega arith)

    next : is_finite (get_or curve (s + 1) nan) ≡ true
    next = whole_curve (s + 1) (omega arith)

    behind : bridged curve w (lower curve s) (upper curve (s + 1)) ≡ plus (get_or curve s nan) (times (less w (whole s)) (less (get_or curve (s + 1) nan) (get_or curve s nan)))
    unfolding straight
    behind =
        let one : s + 1 - s ≡ 1 = omega arith in
        let other : s + 1 ≡ s → ⊥ = λ q. omega arith in
        rw (lower_here curve s here, upper_here curve (s + 1) next, here, next, ne_eqb (s + 1) s other, one, over_one (less w (whole s)) (sub-fits binary64 w (whole s)))

    at : bridged curve w (lower curve s) (upper curve s) ≡ get_or curve s nan
    unfolding straight
    at = rw (lower_here curve s here, upper_here curve s here, here, eq-eqb s s refl)

    both : (b : Bool) → bridged curve w (lower curve s) (upper curve (cond b (min (s + 1) (length curve - 1)) s))
        ≡ cond b (plus (get_or curve s nan) (times (less w (whole s)) (less (get_or curve (s + 1) nan) (get_or curve s nan)))) (get_or curve s nan)
    both true = let m : min (s + 1) (length curve - 1) ≡ s + 1 = omega arith in rw m behind
    both false = at

  pub no_hole : (n : ℕ) (t : Float) → eq (mean_width (length curve - 1) n t) (whole (length curve - 1)) ≡ false → bridged_cost curve n t ≡ verify_cost curve n t
  unfolding bridged_cost verify_cost
  no_hole n t ne =
      let g = length curve - 1 in
      let w = mean_width g n t in
      let low : to_unsigned 64 w < g = cut_below w (whole g) g (omega arith) (whole_value g (omega arith)) (clamp_high (less (over t (whole n)) f1) f0 (whole g)) ne in
      let foot : foot_of g w ≡ to_unsigned 64 w = omega arith in
      let seg : segment g w ≡ to_unsigned 64 w = omega arith in
      let s = to_unsigned 64 w in
      ap (λ (x : ℕ). bridged curve w (lower curve x) (upper curve (ceiling_of g w x))) foot
      ∙ both w s low (lt f0 (less w (whole s)))
      ∙ ap (λ (x : ℕ). between curve x (less w (whole x))) (sym seg)
