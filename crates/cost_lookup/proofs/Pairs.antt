-- Two floats whose product is above zero: neither is a NaN, and one whose bit pattern is small is above zero. Assumes nothing.
use Rattle.std.proofs.Common.{◌≡◌, ℕ, zero, suc, ◌*◌, ◌<◌, Bool, true, false, not, T, ℤ, sym, refl, ap, ◌∙◌, zero-lt-suc, mul-pos, mul-zero, zero-mul, arith, lt-ltb}
use lib.Bits.{bit_or}
use lib.Ieee.{Float, nan, inf, fin, binary64, up, down, round, mul, lt, is_nan, of_bits, to_bits, unlike}
use lib.Ieee.Fits.{up_pos, down_pos}
use lib.Ieee.Scale.{round_same}
use Rattle.float.specs.Floats.{f0, times}
use Rattle.float.proofs.Classes.{clash}
use Rattle.cost_rows.specs.Lawful.{in_range}
use Rattle.cost_lookup.proofs.Small.{small_in_range, small_left, small_right}

-- ---- a product that is zero is not above it
not_above : (b : Bool) → lt f0 (round binary64 b 0 1) ≡ false
unfolding lt round of_bits
not_above true = refl
not_above false = refl

zero_round : (b : Bool) (a c : ℕ) → 0 < c → a ≡ 0 → lt f0 (round binary64 b a c) ≡ false
zero_round b a c C z =
    ap (λ (y : Float). lt f0 y) (ap (λ (x : ℕ). round binary64 b x c) z ∙ round_same binary64 b 0 c 0 1 C (zero-lt-suc 0) (sym (zero-mul c))) ∙ not_above b

left_zero : (a b : ℕ) → 0 * a * b ≡ 0
left_zero a b = ap (λ (x : ℕ). x * b) (zero-mul a) ∙ zero-mul b

right_zero : (a b : ℕ) → a * (0 * b) ≡ 0
right_zero a b = ap (λ (x : ℕ). a * x) (zero-mul b) ∙ mul-zero a

-- ---- what is not zero and has no sign
above : (m : ℕ) (e : ℤ) → lt f0 (fin false (suc m) e) ≡ true
unfolding lt of_bits
above m e = let p : 0 < suc m * up e = mul-pos (zero-lt-suc m) (up_pos e) in lt-ltb (0 * 1 * down e) (suc m * up e * 1) (omega arith)

-- ---- neither is a NaN
pub left_bits : (x y : Float) → lt f0 (times x y) ≡ true → T (not (is_nan x))
unfolding mul lt is_nan of_bits
left_bits nan y h = clash h
left_bits (inf s) y h = tt
left_bits (fin s m e) y h = tt

pub right_bits : (x y : Float) → lt f0 (times x y) ≡ true → T (not (is_nan y))
unfolding mul lt is_nan of_bits
right_bits nan y h = clash h
right_bits (inf s) nan h = clash h
right_bits (inf s) (inf t) h = tt
right_bits (inf s) (fin t n d) h = tt
right_bits (fin s m e) nan h = clash h
right_bits (fin s m e) (inf t) h = tt
right_bits (fin s m e) (fin t n d) h = tt

-- ---- each is above zero
not_nan : lt f0 nan ≡ false
unfolding lt of_bits
not_nan = refl

left_rest : (e : ℤ) (y : Float) → lt f0 (times (fin false 0 e) y) ≡ false
unfolding mul
left_rest e nan = not_nan
left_rest e (inf t) = not_nan
left_rest e (fin t n d) = zero_round (unlike false t) (0 * up e * (n * up d)) (down e * down d) (mul-pos (down_pos e) (down_pos d)) (left_zero (up e) (n * up d))

right_rest : (d : ℤ) (x : Float) → lt f0 (times x (fin false 0 d)) ≡ false
unfolding mul
right_rest d nan = not_nan
right_rest d (inf s) = not_nan
right_rest d (fin s m e) = zero_round (unlike s false) (m * up e * (0 * up d)) (down e * down d) (mul-pos (down_pos e) (down_pos d)) (right_zero (m * up e) (up d))

-- a small pattern has no sign, and zero is ruled out
unsigned : (x : Float) → T (not (is_nan x)) → to_bits binary64 x < 4611686018427387904 → ((e : ℤ) → x ≡ fin false 0 e → ⊥) → lt f0 x ≡ true
unfolding to_bits is_nan
unsigned nan n k f = absurd n
unsigned (inf true) n k f = absurd (omega arith)
unsigned (inf false) n k f = absurd (omega arith)
unsigned (fin true m e) n k f = absurd (omega arith)
unsigned (fin false zero e) n k f = absurd (f e refl)
unsigned (fin false (suc m) e) n k f = above m e

left_above : (x y : Float) → lt f0 (times x y) ≡ true → to_bits binary64 x < 4611686018427387904 → lt f0 x ≡ true
left_above x y h k = unsigned x (left_bits x y h) k (λ e z. clash (sym (left_rest e y) ∙ ap (λ (w : Float). lt f0 (times w y)) (sym z) ∙ h))

right_above : (x y : Float) → lt f0 (times x y) ≡ true → to_bits binary64 y < 4611686018427387904 → lt f0 y ≡ true
right_above x y h k = unsigned y (right_bits x y h) k (λ e z. clash (sym (right_rest e x) ∙ ap (λ (w : Float). lt f0 (times x w)) (sym z) ∙ h))

pub both_in_range : (x y : Float) → lt f0 (times x y) ≡ true → bit_or (to_bits binary64 x) (to_bits binary64 y) < 4611686018427387904 → (in_range x ≡ true) × (in_range y ≡ true)
both_in_range x y h k =
    let l = small_left (to_bits binary64 x) (to_bits binary64 y) k in
    let r = small_right (to_bits binary64 x) (to_bits binary64 y) k in
    (small_in_range x (left_above x y h l) l, small_in_range y (right_above x y h r) r)
