-- A chain made from finite confidences holds survivals at every slot, 0 to 1 or minus zero, so that a gate takes it. Assumes nothing.
use mathlib.Core.Path.{◌≡◌, refl, sym, ap, ◌∙◌, subst}
use mathlib.Core.Bool.{Bool, true, false}
use mathlib.Core.List.{List, [], ◌∷◌, ◌++◌}
use Prim.Native.Nat.{ℕ, zero, suc, ◌+◌, ◌-◌, ◌*◌, ◌≤◌, ◌<◌}
use native.Mathlib.Nat.{mul-pos, zero-mul, zero-lt-suc, le_trans, mul-le-mul_left, mul-le-mul_right, mul_comm}
use native.Mathlib.Omega.{arith}
use borrow.Author.Tests.{ltb-false, le-ltb}
use lib.Dec.{T}
use lib.IntN.{ℤ, pos}
use lib.ListN.{take, replicate}
use lib.Ieee.{Float, nan, inf, fin, binary64, up, down, round, mul, lt, le, eq, is_nan, of_bits, unlike}
use lib.Ieee.Fits.{down_pos}
use lib.Ieee.Order.{round_mono}
use lib.Ieee.Scale.{round_same}
use Rattle.bank.proofs.Bounds.{le_either}
use Rattle.depth_laws.proofs.Clear.{left_zero}
use Rattle.float.proofs.Rounded.{round_clear}
use Rattle.laws.proofs.Both.{both}
use Rattle.float.specs.Floats.{times, f0, f1, clamp_unit, is_finite, is_clear}
use Rattle.float.proofs.Classes.{clash, finite_no_nan, clear_no_nan, not_negative}
use Rattle.float.proofs.Ranges.{in_signed, signed_no_nan, signed_low, signed_high}
use Rattle.float.proofs.Clamped.{unit_signed}
use Rattle.chains.specs.Scan.{scan}
use Rattle.chains.specs.Tests.{all_of, is_survival}
use Rattle.chains.specs.Survival.{survive, products, survival_chain}
use Rattle.refusals.proofs.First.{passed_is_zero}
use Rattle.goodput_judges.specs.Refusals.{survival_judged, survival_refusal}
use Rattle.goodput_judges.proofs.Passed.{survival_passed}

-- ---- a clear float that is at most 1 is a survival
not_above : (x : Float) → is_clear x ≡ true → T (le x (fin false 1 (pos 0))) → lt (fin false 1 (pos 0)) x ≡ false
unfolding lt eq le is_clear
not_above nan c t = refl
not_above (inf true) c t = refl
not_above (inf false) c t = absurd t
not_above (fin true m e) c t = refl
not_above (fin false m e) c t = le-ltb (1 * 1 * down e) (m * up e * 1) (le_either (m * up e * 1) (1 * 1 * down e) t)

one : round binary64 false 1 1 ≡ fin false 1 (pos 0)
unfolding round
one = refl

small_held : (a c : ℕ) → 0 < c → a ≤ c → is_survival (round binary64 false a c) ≡ true
unfolding of_bits
small_held a c C h =
    let x = round binary64 false a c in
    let k = round_clear binary64 a c in
    let few : a * 1 ≤ 1 * c = omega arith in
    let most : T (le x (fin false 1 (pos 0))) = subst (λ (y : Float). T (le x y)) one (round_mono binary64 a c 1 1 C (zero-lt-suc 0) few) in
    in_signed f0 f1 x (clear_no_nan x k) (not_negative x k) (not_above x k most)

-- ---- zero of either sign is one, and so is 1
f0_clear : is_clear f0 ≡ true
unfolding is_clear of_bits
f0_clear = refl

f0_low : lt f1 f0 ≡ false
unfolding lt of_bits
f0_low = refl

zero_number : is_nan (round binary64 true 0 1) ≡ false
unfolding is_nan round
zero_number = refl

zero_low : lt (round binary64 true 0 1) f0 ≡ false
unfolding lt round of_bits
zero_low = refl

zero_high : lt f1 (round binary64 true 0 1) ≡ false
unfolding lt round of_bits
zero_high = refl

pub one_survives : is_survival f1 ≡ true
unfolding of_bits
one_survives = ap is_survival (sym one) ∙ small_held 1 1 (zero-lt-suc 0) (omega arith)

zero_held : (s : Bool) (c : ℕ) → 0 < c → is_survival (round binary64 s 0 c) ≡ true
zero_held s c C = ap is_survival (round_same binary64 s 0 c 0 1 C (zero-lt-suc 0) (sym (zero-mul c))) ∙ go s
  where
    go : (b : Bool) → is_survival (round binary64 b 0 1) ≡ true
    go true = in_signed f0 f1 (round binary64 true 0 1) zero_number zero_low zero_high
    go false = small_held 0 1 (zero-lt-suc 0) (omega arith)

-- ---- the product of two survivals
pub positive_low : (m : ℕ) (e : ℤ) → lt f1 (fin false m e) ≡ false → m * up e ≤ down e
unfolding lt of_bits
positive_low m e h = let k : m * up e * 1 ≤ 1 * 1 * down e = ltb-false (1 * 1 * down e) (m * up e * 1) h in omega arith

pub negative_zero : (m : ℕ) (e : ℤ) → lt (fin true m e) f0 ≡ false → m * up e ≡ 0
unfolding lt of_bits
negative_zero m e h = let k : m * up e * 1 + 0 * 1 * down e ≤ 0 = ltb-false 0 (m * up e * 1 + 0 * 1 * down e) h in omega arith

pub times_low : (a b c d : ℕ) → a ≤ c → b ≤ d → a * b ≤ c * d
times_low a b c d h k = le_trans (mul-le-mul_right b h) (mul-le-mul_left c k)

pub right_zero : (a b : ℕ) → b ≡ 0 → a * b ≡ 0
right_zero a b e = mul_comm a b ∙ left_zero b a e

zero_as : (s : Bool) (a c : ℕ) → 0 < c → a ≡ 0 → is_survival (round binary64 s a c) ≡ true
zero_as s a c C e = ap (λ (x : ℕ). is_survival (round binary64 s x c)) e ∙ zero_held s c C

held : (s t : Bool) (m n : ℕ) (e d : ℤ) → lt (fin s m e) f0 ≡ false → lt f1 (fin s m e) ≡ false → lt (fin t n d) f0 ≡ false → lt f1 (fin t n d) ≡ false
    → is_survival (round binary64 (unlike s t) (m * up e * (n * up d)) (down e * down d)) ≡ true
held false false m n e d p q u v = small_held (m * up e * (n * up d)) (down e * down d) (mul-pos (down_pos e) (down_pos d)) (times_low (m * up e) (n * up d) (down e) (down d) (positive_low m e q) (positive_low n d v))
held true t m n e d p q u v = zero_as (unlike true t) (m * up e * (n * up d)) (down e * down d) (mul-pos (down_pos e) (down_pos d)) (left_zero (m * up e) (n * up d) (negative_zero m e p))
held false true m n e d p q u v = zero_as true (m * up e * (n * up d)) (down e * down d) (mul-pos (down_pos e) (down_pos d)) (right_zero (m * up e) (n * up d) (negative_zero n d u))

product : (x y : Float) → is_nan x ≡ false → lt x f0 ≡ false → lt f1 x ≡ false → is_nan y ≡ false → lt y f0 ≡ false → lt f1 y ≡ false → is_survival (times x y) ≡ true
unfolding mul is_nan lt of_bits
product nan y o p q n u v = clash (sym o)
product (inf true) y o p q n u v = clash (sym p)
product (inf false) y o p q n u v = clash (sym q)
product (fin s m e) nan o p q n u v = clash (sym n)
product (fin s m e) (inf true) o p q n u v = clash (sym u)
product (fin s m e) (inf false) o p q n u v = clash (sym v)
product (fin s m e) (fin t k d) o p q n u v = held s t m k e d p q u v

pub product_held : (x y : Float) → is_survival x ≡ true → is_survival y ≡ true → is_survival (times x y) ≡ true
product_held x y h k = product x y (signed_no_nan f0 f1 x h) (signed_low f0 f1 x h) (signed_high f0 f1 x h) (signed_no_nan f0 f1 y k) (signed_low f0 f1 y k) (signed_high f0 f1 y k)

-- ---- a chain
products_held : (s : Float) (xs : List Float) → is_survival s ≡ true → all_of is_finite xs ≡ true → all_of is_survival (products s xs) ≡ true
unfolding scan all_of
products_held s [] h k = refl
products_held s (x ∷ xs) h k =
    let u = both (is_finite x) (all_of is_finite xs) k in
    let p = product_held s (clamp_unit x) h (unit_signed x (finite_no_nan x u.0)) in
    rw p (products_held (survive s x) xs p u.1)

pub zero_survives : is_survival f0 ≡ true
zero_survives = in_signed f0 f1 f0 (clear_no_nan f0 f0_clear) (not_negative f0 f0_clear) f0_low

zeros_held : (k : ℕ) → all_of is_survival (replicate k f0) ≡ true
unfolding all_of
zeros_held zero = refl
zeros_held (suc k) = rw zero_survives (zeros_held k)

append_held : (xs ys : List Float) → all_of is_survival xs ≡ true → all_of is_survival ys ≡ true → all_of is_survival (xs ++ ys) ≡ true
unfolding all_of
append_held [] ys p q = q
append_held (x ∷ xs) ys p q = let u = both (is_survival x) (all_of is_survival xs) p in rw u.0 (append_held xs ys u.1 q)

-- all 64 slots of a chain that is not refused
pub chain_held : (signal : List Float) (length : ℕ) → survival_refusal signal length ≡ 0 → all_of is_survival (survival_chain signal length) ≡ true
unfolding survival_chain
chain_held signal length e =
    let finite = (survival_passed signal length (passed_is_zero (survival_judged signal length) e)).1 in
    append_held (products f1 (take length signal)) (replicate (64 - length) f0) (products_held f1 (take length signal) one_survives finite) (zeros_held (64 - length))
