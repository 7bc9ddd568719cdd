-- How large a float is at most, by powers of two: all that binary64 holds, where whole numbers stop at 2^53. Assumes nothing.
use mathlib.Core.Path.{◌≡◌, refl, sym, ap, ◌∙◌, subst}
use mathlib.Core.Bool.{Bool, true, false, ◌&&◌, beq, cond}
use Prim.Native.Nat.{ℕ, suc, ◌+◌, ◌-◌, ◌*◌, ◌^◌, ◌≤◌, ◌<◌}
use native.Mathlib.Nat.{mul-one, one-mul, mul-pos, mul_comm, mul_assoc, mul_right_comm, mul-mul-mul_comm, add-mul, mul-le-mul, mul-le-mul_right, le_of_mul-le-mul_right, le_trans, le_of_eq, zero-lt-suc, lt_irrefl, zero-mul}
use native.Mathlib.Omega.{arith}
use borrow.Author.Tests.{ne_eqb, le-ltb, ltb-false}
use lib.Dec.{ltb}
use lib.Pow.{pow-add, pow-lt, pow_mono}
use lib.Ieee.{Float, nan, inf, fin, Format, binary64, prec, emax, low, up, down, round, neg, sum, add, sub, mul, div, lt, unlike, is_nan}
use lib.Ieee.Fits.{down_pos}
use lib.Ieee.Exact.{HasValue, round_exact}
use lib.Ieee.Order.{round_mono}
use Rattle.float.specs.Floats.{plus, less, times, over}
use Rattle.float.proofs.Classes.{clash}
use Rattle.numeral.proofs.Rounding.{round_neg}
use Rattle.gates_laws.proofs.Sizes.{Sized, sized_more, sized_neg, round_positive, under}

-- finite, and at most 2^j in size
abbrev pub Within : ℕ → Float → Type 0
Within j x = Sized (2 ^ j) x

pub within_more : (i j : ℕ) (x : Float) → i ≤ j → Within i x → Within j x
within_more i j x l h = sized_more (2 ^ i) (2 ^ j) x (pow_mono l) h

-- ---- a power of two is held exactly
power_held : (f : Format) (j : ℕ) → j ≤ emax f → HasValue (round f false (2 ^ j) 1) false (2 ^ j) 1
power_held f j h =
    let e : 2 ^ j * 2 ^ low f ≡ 1 * 2 ^ (j + low f) * 1 = sym (pow-add 2 j (low f)) ∙ sym (one-mul (2 ^ (j + low f))) ∙ sym (mul-one (1 * 2 ^ (j + low f))) in
    round_exact f false (2 ^ j) 1 1 (j + low f) (zero-lt-suc 0) (some f)
    (le_trans (le_of_eq (ap suc (one-mul (2 ^ (j + low f))))) (pow-lt (let w : j + low f < low f + suc (emax f) = omega arith in w))) e
  where
    some : (g : Format) → 1 < 2 ^ prec g
    some g = pow-lt (two g)
      where
        two : (g : Format) → 0 < prec g
        two lib.Ieee.binary32 = omega arith
        two lib.Ieee.binary64 = omega arith

-- ---- what is rounded
positive_within : (j a b : ℕ) → j ≤ 1023 → 0 < b → a ≤ 2 ^ j * b → Within j (round binary64 false a b)
positive_within j a b h B l =
    under (round binary64 false a b) (round binary64 false (2 ^ j) 1) (2 ^ j) (round_positive binary64 a b) (power_held binary64 j h)
    (round_mono binary64 a b (2 ^ j) 1 B (zero-lt-suc 0) (le_trans (le_of_eq (mul-one a)) l))

pub round_within : (j : ℕ) (s : Bool) (a b : ℕ) → j ≤ 1023 → 0 < b → a ≤ 2 ^ j * b → Within j (round binary64 s a b)
round_within j false a b h B l = positive_within j a b h B l
round_within j true a b h B l = subst (Within j) (round_neg binary64 a b) (sized_neg (2 ^ j) (round binary64 false a b) (positive_within j a b h B l))

-- ---- sums and differences
either_within : (j : ℕ) (b : Bool) (x y : Float) → Within j x → Within j y → Within j (cond b x y)
either_within j true x y p q = p
either_within j false x y p q = q

sum_within : (j A B : ℕ) (s t : Bool) (a b c : ℕ) → j ≤ 1023 → A + B ≤ 2 ^ j → 0 < c → a ≤ A * c → b ≤ B * c → Within j (sum binary64 s a t b c)
unfolding sum
sum_within j A B s t a b c h m C p q =
    let most : (A + B) * c ≤ 2 ^ j * c = mul-le-mul_right c m in
    let both : a + b ≤ 2 ^ j * c = omega (arith, add-mul A B c) in
    let one : b - a ≤ 2 ^ j * c = omega (arith, add-mul A B c) in
    let other : a - b ≤ 2 ^ j * c = omega (arith, add-mul A B c) in
    either_within j (beq s t) _ _ (round_within j s (a + b) c h C both)
    (either_within j (ltb a b) _ _ (round_within j t (b - a) c h C one) (round_within j (s && ltb b a) (a - b) c h C other))

pub within_added : (j A B : ℕ) (x y : Float) → j ≤ 1023 → A + B ≤ 2 ^ j → Sized A x → Sized B y → Within j (plus x y)
unfolding add
within_added j A B nan y h m p q = absurd p
within_added j A B (inf s) y h m p q = absurd p
within_added j A B (fin s k e) nan h m p q = absurd q
within_added j A B (fin s k e) (inf t) h m p q = absurd q
within_added j A B (fin s k e) (fin t n d) h m p q =
    let l : k * up e * down d ≤ A * (down e * down d) = le_trans (mul-le-mul_right (down d) p) (le_of_eq (mul_assoc A (down e) (down d))) in
    let r : n * up d * down e ≤ B * (down e * down d) =
    le_trans (mul-le-mul_right (down e) q) (le_of_eq (mul_assoc B (down d) (down e) ∙ ap (λ (z : ℕ). B * z) (mul_comm (down d) (down e)))) in
    sum_within j A B s t (k * up e * down d) (n * up d * down e) (down e * down d) h m (mul-pos (down_pos e) (down_pos d)) l r

pub within_plus : (j : ℕ) (x y : Float) → suc j ≤ 1023 → Within j x → Within j y → Within (suc j) (plus x y)
within_plus j x y h p q = within_added (suc j) (2 ^ j) (2 ^ j) x y h (let e : 2 ^ j + 2 ^ j ≤ 2 ^ suc j = omega arith in e) p q

pub within_less : (j : ℕ) (x y : Float) → suc j ≤ 1023 → Within j x → Within j y → Within (suc j) (less x y)
unfolding sub
within_less j x y h p q = within_plus j x (neg y) h p (sized_neg (2 ^ j) y q)

-- ---- products
pub within_times : (i j : ℕ) (x y : Float) → i + j ≤ 1023 → Within i x → Within j y → Within (i + j) (times x y)
unfolding mul
within_times i j nan y h p q = absurd p
within_times i j (inf s) y h p q = absurd p
within_times i j (fin s m e) nan h p q = absurd q
within_times i j (fin s m e) (inf t) h p q = absurd q
within_times i j (fin s m e) (fin t n d) h p q =
    round_within (i + j) (unlike s t) (m * up e * (n * up d)) (down e * down d) h (mul-pos (down_pos e) (down_pos d))
    (le_trans (mul-le-mul p q) (le_of_eq (mul-mul-mul_comm (2 ^ i) (down e) (2 ^ j) (down d) ∙ ap (λ (z : ℕ). z * (down e * down d)) (sym (pow-add 2 i j)))))

-- ---- a quotient by a whole number above 0 is no larger
pub not_none : (n u k d : ℕ) → 0 < k → 0 < d → n * u * 1 ≡ k * d → n ≡ 0 → ⊥
not_none n u k d K D e z =
    lt_irrefl 0 (rw (sym e ∙ ap (λ (x : ℕ). x * u * 1) z ∙ ap (λ (x : ℕ). x * 1) (zero-mul u) ∙ zero-mul 1) at (mul-pos K D))

pub within_over : (j k : ℕ) (x y : Float) → j ≤ 1023 → 0 < k → HasValue y false k 1 → Within j x → Within j (over x y)
unfolding div
within_over j k nan y h K v p = absurd p
within_over j k (inf s) y h K v p = absurd p
within_over j k (fin s m e) nan h K v p = absurd v
within_over j k (fin s m e) (inf t) h K v p = absurd v
within_over j k (fin s m e) (fin true n d) h K v p = let w = v.0 in clash (sym w)
within_over j k (fin s m e) (fin false n d) h K v p =
    let q : n * up d ≡ k * down d = sym (mul-one (n * up d)) ∙ v.1 in
    let one : down d ≤ n * up d = le_trans (le_of_eq (sym (one-mul (down d)))) (le_trans (mul-le-mul_right (down d) K) (le_of_eq (sym q))) in
    let most : m * up e * down d ≤ 2 ^ j * (n * up d * down e) =
    le_trans (mul-le-mul p one) (le_of_eq (mul_assoc (2 ^ j) (down e) (n * up d) ∙ ap (λ (z : ℕ). 2 ^ j * z) (mul_comm (down e) (n * up d)))) in
    let some : 0 < n * up d * down e = mul-pos (le_trans (down_pos d) one) (down_pos e) in
    rw (ne_eqb n 0 (not_none n (up d) k (down d) K (down_pos d) v.1)) (round_within j (unlike s false) (m * up e * down d) (n * up d * down e) h some most)

cut : (A m u w k v d : ℕ) → 0 < d → k * v * 1 ≡ A * d → m * u * d ≤ k * v * w → m * u ≤ A * w
cut A m u w k v d D e l =
    let r : k * v * w ≡ A * w * d = ap (λ (z : ℕ). z * w) (sym (mul-one (k * v)) ∙ e) ∙ mul_right_comm A d w in
    le_of_mul-le-mul_right (le_trans l (le_of_eq r)) D

-- ---- what is at most A in size is not above a float that holds A, and what lies between that float and its negative is at most A in size
pub not_above : (A : ℕ) (x y : Float) → HasValue y false A 1 → Sized A x → lt y x ≡ false
unfolding lt
not_above A nan y v p = absurd p
not_above A (inf s) y v p = absurd p
not_above A (fin s m e) nan v p = refl
not_above A (fin s m e) (inf t) v p = absurd v
not_above A (fin s m e) (fin true k d) v p = let w = v.0 in clash (sym w)
not_above A (fin true m e) (fin false k d) v p = refl
not_above A (fin false m e) (fin false k d) v p =
    let q : k * up d ≡ A * down d = sym (mul-one (k * up d)) ∙ v.1 in
    let r : k * up d * down e ≡ A * down e * down d = ap (λ (z : ℕ). z * down e) q ∙ mul_right_comm A (down d) (down e) in
    le-ltb (k * up d * down e) (m * up e * down d) (le_trans (mul-le-mul_right (down d) p) (le_of_eq (sym r)))

pub signed_sized : (A : ℕ) (x y : Float) → HasValue y false A 1 → is_nan x ≡ false → lt x (neg y) ≡ false → lt y x ≡ false → Sized A x
unfolding lt is_nan neg
signed_sized A nan y v n l h = clash (sym n)
signed_sized A (inf s) nan v n l h = absurd v
signed_sized A (inf s) (inf t) v n l h = absurd v
signed_sized A (inf true) (fin t k d) v n l h = clash (sym l)
signed_sized A (inf false) (fin t k d) v n l h = clash (sym h)
signed_sized A (fin s m e) nan v n l h = absurd v
signed_sized A (fin s m e) (inf t) v n l h = absurd v
signed_sized A (fin s m e) (fin true k d) v n l h = let w = v.0 in clash (sym w)
signed_sized A (fin false m e) (fin false k d) v n l h = cut A m (up e) (down e) k (up d) (down d) (down_pos d) v.1 (ltb-false (k * up d * down e) (m * up e * down d) h)
signed_sized A (fin true m e) (fin false k d) v n l h = cut A m (up e) (down e) k (up d) (down d) (down_pos d) v.1 (ltb-false (k * up d * down e) (m * up e * down d) l)
