-- What is counted, as a float: a whole number below 2^53 is held exactly, and such numbers are added exactly. Assumes nothing.
use Prim.Native.Nat.{ℕ, ◌+◌, ◌*◌, ◌^◌, ◌<◌}
use mathlib.Core.Path.{◌≡◌, ap, ◌∙◌, sym}
use mathlib.Core.Bool.{true, false}
use native.Mathlib.Nat.{mul-one, mul-pos, add-mul, mul_right_comm, mul_assoc, zero-lt-suc}
use native.Mathlib.Omega.{arith}
use lib.Ieee.{Float, nan, inf, fin, binary64, up, down, round, sum as added, add, of_int}
use lib.Ieee.Fits.{down_pos}
use lib.Ieee.Exact.{HasValue}
use lib.Ieee.Scale.{round_same}
use Rattle.float.specs.Floats.{plus, whole}
use Rattle.float.proofs.Classes.{clash}
use Rattle.numeral.proofs.Rounding.{whole_held}

pub whole_value : (n : ℕ) → n < 2 ^ 53 → HasValue (whole n) false n 1
unfolding of_int
whole_value n h = whole_held binary64 n h

-- two floats that hold whole numbers: their sum is rounded once
sum_rounds : (a b : ℕ) (x y : Float) → HasValue x false a 1 → HasValue y false b 1 → plus x y ≡ round binary64 false (a + b) 1
unfolding add added
sum_rounds a b nan y v w = absurd v
sum_rounds a b (inf s) y v w = absurd v
sum_rounds a b (fin s m e) nan v w = absurd w
sum_rounds a b (fin s m e) (inf t) v w = absurd w
sum_rounds a b (fin true m e) (fin t k d) v w = let q = v.0 in clash (sym q)
sum_rounds a b (fin false m e) (fin true k d) v w = let q = w.0 in clash (sym q)
sum_rounds a b (fin false m e) (fin false k d) v w =
    let p : m * up e ≡ a * down e = sym (mul-one (m * up e)) ∙ v.1 in
    let q : k * up d ≡ b * down d = sym (mul-one (k * up d)) ∙ w.1 in
    let first : m * up e * down d ≡ a * (down e * down d) = ap (λ (z : ℕ). z * down d) p ∙ mul_assoc a (down e) (down d) in
    let second : k * up d * down e ≡ b * (down e * down d) = ap (λ (z : ℕ). z * down e) q ∙ mul_right_comm b (down d) (down e) ∙ mul_assoc b (down e) (down d) in
    let all : (a + b) * (down e * down d) ≡ a * (down e * down d) + b * (down e * down d) = add-mul a b (down e * down d) in
    round_same binary64 false (m * up e * down d + k * up d * down e) (down e * down d) (a + b) 1 (mul-pos (down_pos e) (down_pos d)) (zero-lt-suc 0)
    (let z : (m * up e * down d + k * up d * down e) * 1 ≡ (a + b) * (down e * down d) = omega (arith, first, second, all) in z)

pub whole_plus : (a b : ℕ) → a < 2 ^ 53 → b < 2 ^ 53 → plus (whole a) (whole b) ≡ whole (a + b)
unfolding of_int
whole_plus a b h k = sum_rounds a b (whole a) (whole b) (whole_value a h) (whole_value b k)
