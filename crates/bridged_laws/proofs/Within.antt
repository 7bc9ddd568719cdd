-- The mean width of n sequences that verify n + W tokens, W at most n times a depth, is a number and at most that depth: so between two measured depths around
-- it the bridged price is finite. Assumes nothing.
use mathlib.Core.Path.{◌≡◌, refl, sym, ap, ◌∙◌, subst}
use mathlib.Core.Bool.{true, false, not}
use mathlib.Core.List.{List}
use Prim.Native.Nat.{ℕ, ◌+◌, ◌-◌, ◌*◌, ◌^◌, ◌≤◌, ◌<◌}
use native.Mathlib.Nat.{mul-one, one-mul, mul-pos, mul_comm, add-mul, zero-lt-suc}
use native.Mathlib.Omega.{arith}
use borrow.Author.Tests.{le-ltb, le-leb}
use lib.Dec.{T}
use lib.ListN.{length}
use lib.Ieee.{Float, nan, inf, fin, binary64, up, down, round, neg, sum, add, sub, lt, eq, le, is_nan, of_bits}
use lib.Ieee.Fits.{down_pos}
use lib.Ieee.Order.{round_mono}
use Rattle.float.specs.Floats.{less, over, whole, f0, f1, is_clear}
use Rattle.float.proofs.Classes.{clash, clear_no_nan, not_negative}
use Rattle.float.proofs.Clamped.{clamp_inside}
use Rattle.float.proofs.Rounded.{round_clear}
use Rattle.numeral.proofs.Rounding.{quotient_rounds}
use Rattle.verify_prices.specs.Price.{mean_width}
use Rattle.verify_prices.specs.Bridge.{is_measured, foot_of}
use Rattle.verify_prices.proofs.Counted.{whole_value}
use Rattle.gates_laws.specs.Holes.{is_inside}
use Rattle.gates_laws.proofs.Sizes.{Sized, sized_more, round_sized, or_le}
use Rattle.gates_laws.proofs.Powers.{not_above}
use Rattle.bridged_laws.proofs.Compared.{whole_number, le_is}
use Rattle.bridged_laws.proofs.Means.{mean_around}
use Rattle.bridged_laws.proofs.Inside.{inside_by}

-- ---- x - 1, where x lies from 1 to A + 1
one_is : round binary64 false 1 1 ≡ f1
unfolding round of_bits
one_is = refl

record Past (A : ℕ) (x : Float) : Type 0 where
  clear : is_clear x ≡ true
  small : Sized A x

less_one : (A : ℕ) (x : Float) → A < 2 ^ 53 → is_clear x ≡ true → T (le f1 x) → Sized (A + 1) x → Past A (less x f1)
unfolding le lt eq is_clear sub neg add sum of_bits
less_one A nan h c l s = clash c
less_one A (inf t) h c l s = absurd s
less_one A (fin true m e) h c l s = clash c
less_one A (fin false m e) h c l s =
    let low : 1 * 1 * down e ≤ m * up e * 1 = or_le (1 * 1 * down e) (m * up e * 1) true l in
    let next : (A + 1) * down e ≡ A * down e + down e = add-mul A 1 (down e) ∙ ap (λ (z : ℕ). A * down e + z) (one-mul (down e)) in
    let most : m * up e * 1 - 1 * 1 * down e ≤ A * (down e * 1) = omega (arith, next, ap (λ (z : ℕ). A * z) (mul-one (down e))) in
    rw (le-ltb (m * up e * 1) (1 * 1 * down e) low) (record {
      clear = round_clear binary64 (m * up e * 1 - 1 * 1 * down e) (down e * 1);
      small = round_sized A false (m * up e * 1 - 1 * 1 * down e) (down e * 1) h (mul-pos (down_pos e) (zero-lt-suc 0)) most;
    })

-- ---- the mean width
module _ (n W depth : ℕ) (some : 0 < n) (few : n + W < 2 ^ 53) (reach : W ≤ n * depth) (deep : depth ≤ 64) where
  abbrev quotient : Float
  quotient = over (whole (n + W)) (whole n)

  quotient_is : quotient ≡ round binary64 false (n + W) n
  quotient_is = quotient_rounds binary64 (whole (n + W)) (whole n) (n + W) n some (whole_value (n + W) few) (whole_value n (omega arith))

  at_least_one : T (le f1 quotient)
  at_least_one =
      subst (λ (x : Float). T (le f1 x)) (sym quotient_is)
      (subst (λ (x : Float). T (le x (round binary64 false (n + W) n))) one_is (round_mono binary64 1 1 (n + W) n (zero-lt-suc 0) some (omega (arith, mul-one (n + W), one-mul n))))

  at_most : Sized (depth + 1) quotient
  at_most =
      let next : (depth + 1) * n ≡ n * depth + n = add-mul depth 1 n ∙ (let z : depth * n + 1 * n ≡ n * depth + n = omega (arith, mul_comm depth n, one-mul n) in z) in
      subst (Sized (depth + 1)) (sym quotient_is) (round_sized (depth + 1) false (n + W) n (omega arith) some (omega (arith, next, reach)))

  past : Past depth (less quotient f1)
  past = less_one depth quotient (omega arith) (ap is_clear quotient_is ∙ round_clear binary64 (n + W) n) at_least_one at_most

  module _ (gamma : ℕ) (on_curve : depth ≤ gamma) (small : gamma ≤ 64) where
    unclamped : mean_width gamma n (whole (n + W)) ≡ less quotient f1
    unclamped =
        clamp_inside (less quotient f1) f0 (whole gamma) (not_negative (less quotient f1) past.clear)
        (not_above gamma (less quotient f1) (whole gamma) (whole_value gamma (omega arith)) (sized_more depth gamma (less quotient f1) on_curve past.small))

    pub mean_number : is_nan (mean_width gamma n (whole (n + W))) ≡ false
    mean_number = ap is_nan unclamped ∙ clear_no_nan (less quotient f1) past.clear

    -- the depth is at or above it
    pub mean_under : lt (whole depth) (mean_width gamma n (whole (n + W))) ≡ false
    mean_under = ap (lt (whole depth)) unclamped ∙ not_above depth (less quotient f1) (whole depth) (whole_value depth (omega arith)) past.small

-- ---- depth 0 and `depth` are measured: W drafts over n sequences, at most n times that depth, lie inside the measured depths
pub drafts_inside : (curve : List Float) (n W depth : ℕ) → 0 < n → n + W < 2 ^ 53 → W ≤ n * depth → depth ≤ length curve - 1 → length curve ≤ 65
    → is_measured curve 0 ≡ true → is_measured curve depth ≡ true → is_inside curve n (whole (n + W)) ≡ true
drafts_inside curve n W depth some few reach on_curve short first best =
    let gamma = length curve - 1 in
    let w = mean_width gamma n (whole (n + W)) in
    let number = mean_number n W depth some few reach (omega arith) gamma on_curve (omega arith) in
    let a = mean_around gamma n (whole (n + W)) (omega arith) number in
    let above : le w (whole depth) ≡ true = le_is w (whole depth) number (whole_number depth) ∙ ap not (mean_under n W depth some few reach (omega arith) gamma on_curve (omega arith)) in
    inside_by curve short n (whole (n + W)) number 0 depth first best on_curve (a.at_or_below 0 ∙ le-leb 0 (foot_of gamma w) (omega arith)) above
