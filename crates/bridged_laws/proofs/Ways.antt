-- The difference of a float and a whole number is above zero exactly where the float is above that number: nothing is lost to rounding. Assumes nothing.
use mathlib.Core.Path.{◌≡◌, refl, sym, ap, ◌∙◌, subst}
use mathlib.Core.Bool.{Bool, true, false}
use Prim.Native.Nat.{ℕ, zero, suc, ◌+◌, ◌-◌, ◌*◌, ◌^◌, ◌≤◌, ◌<◌}
use native.Mathlib.Nat.{one-mul, mul-pos, mul_comm, zero-mul, add-mul, mul-le-mul_right, le_trans, le_of_eq}
use native.Mathlib.Omega.{arith}
use borrow.Author.Tests.{lt-ltb, le-ltb}
use lib.Dec.{T, ltb→lt}
use lib.IntN.{ℤ, negsuc}
use lib.Pow.{pow_pos}
use lib.Ieee.{Float, nan, inf, fin, binary64, up, down, round, neg, sum, add, sub, lt, le, fits, of_bits}
use lib.Ieee.Fits.{down_pos, up_pos}
use lib.Ieee.Exact.{HasValue}
use lib.Ieee.Order.{round_mono}
use lib.Ieee.Positive.{above, above_of_le}
use Rattle.float.specs.Floats.{less, f0}
use Rattle.float.proofs.Classes.{clash}
use Rattle.verify_prices.proofs.OverOne.{fits_parts}
use Rattle.gates_laws.proofs.Sizes.{Sized, round_sized}
use Rattle.bridged_laws.proofs.Compared.{Unsigned, held_is}

-- ---- the difference: above zero where there is one, since the smallest difference of two floats is a float
none_above : (x : Float) → Sized 0 x → lt f0 x ≡ false
unfolding lt of_bits
none_above nan h = absurd h
none_above (inf s) h = absurd h
none_above (fin true m e) h = refl
none_above (fin false m e) h = le-ltb (0 * 1 * down e) (m * up e * 1) (omega (arith, zero-mul (down e)))

smallest : round binary64 false 1 (2 ^ 1074) ≡ fin false 1 (negsuc 1073)
unfolding round
smallest = refl

above_zero : (y : Float) → T (above y) → lt f0 y ≡ true
unfolding lt of_bits
above_zero nan h = absurd h
above_zero (inf true) h = absurd h
above_zero (inf false) h = refl
above_zero (fin true n d) h = absurd h
above_zero (fin false n d) h =
    let l : 0 < n * up d = mul-pos (ltb→lt 0 n h) (up_pos d) in
    lt-ltb (0 * 1 * down d) (n * up d * 1) (omega arith)

some_rounds : (a b : ℕ) → 0 < b → b ≤ a * 2 ^ 1074 → lt f0 (round binary64 false a b) ≡ true
some_rounds a b B h =
    let more : T (le (round binary64 false 1 (2 ^ 1074)) (round binary64 false a b)) =
    round_mono binary64 1 (2 ^ 1074) a b (pow_pos 1074) B (le_trans (le_of_eq (one-mul b)) h) in
    above_zero (round binary64 false a b) (above_of_le (fin false 1 (negsuc 1073)) _ tt (subst (λ (y : Float). T (le y (round binary64 false a b))) smallest more))

-- a float has at most 1074 binary places
shallow : (s : Bool) (m : ℕ) (e : ℤ) → T (fits binary64 (fin s m e)) → 0 < m * up e → down e ≤ 2 ^ 1074
shallow s zero e h p = absurd (let w : ⊥ = omega (arith, zero-mul (up e)) in w)
shallow s (suc m) e h p = (fits_parts binary64 s m e h).1

pub some_way : (m : ℕ) (e : ℤ) (y : Float) (k : ℕ) → T (fits binary64 (fin false m e)) → HasValue y false k 1 → k * down e < m * up e → lt f0 (less (fin false m e) y) ≡ true
unfolding sub neg add sum
some_way m e nan k h v l = absurd v
some_way m e (inf t) k h v l = absurd v
some_way m e (fin true n d) k h v l = let w = v.0 in clash (sym w)
some_way m e (fin false n d) k h v l =
    let A = m * up e * down d in
    let B = n * up d * down e in
    let is : B ≡ k * down e * down d = held_is n (up d) (down d) k (down e) v.1 in
    let next : suc (k * down e) * down d ≤ A = mul-le-mul_right (down d) l in
    let more : suc (k * down e) * down d ≡ down d + k * down e * down d = omega (arith, add-mul 1 (k * down e) (down d), one-mul (down d)) in
    let room : B ≤ A = omega (arith, is, next, more) in
    let left : down d ≤ A - B = omega (arith, is, next, more) in
    let few : down e * down d ≤ 2 ^ 1074 * down d = mul-le-mul_right (down d) (shallow false m e h (omega (arith, l))) in
    let most : down d * 2 ^ 1074 ≤ (A - B) * 2 ^ 1074 = mul-le-mul_right (2 ^ 1074) left in
    rw (le-ltb A B room) (some_rounds (A - B) (down e * down d) (mul-pos (down_pos e) (down_pos d)) (le_trans few (le_trans (le_of_eq (mul_comm (2 ^ 1074) (down d))) most)))

pub no_way : (s : Bool) (m : ℕ) (e : ℤ) (y : Float) (k : ℕ) → Unsigned s (m * up e) → HasValue y false k 1 → k * down e ≡ m * up e → lt f0 (less (fin s m e) y) ≡ false
unfolding sub neg add sum
no_way s m e nan k z v q = absurd v
no_way s m e (inf t) k z v q = absurd v
no_way s m e (fin true n d) k z v q = let w = v.0 in clash (sym w)
no_way false m e (fin false n d) k z v q =
    let A = m * up e * down d in
    let B = n * up d * down e in
    let C = down e * down d in
    let same : B ≡ A = held_is n (up d) (down d) k (down e) v.1 ∙ ap (λ (x : ℕ). x * down d) q in
    rw (le-ltb A B (le_of_eq same)) (none_above (round binary64 false (A - B) C) (round_sized 0 false (A - B) C (omega arith) (mul-pos (down_pos e) (down_pos d)) (omega (arith, same))))
no_way true m e (fin false n d) k z v q =
    let A = m * up e * down d in
    let B = n * up d * down e in
    let C = down e * down d in
    let none : A ≡ 0 = ap (λ (x : ℕ). x * down d) z ∙ zero-mul (down d) in
    let same : B ≡ A = held_is n (up d) (down d) k (down e) v.1 ∙ ap (λ (x : ℕ). x * down d) q in
    none_above (round binary64 true (A + B) C) (round_sized 0 true (A + B) C (omega arith) (mul-pos (down_pos e) (down_pos d)) (omega (arith, same, none)))
