-- A survival chain never rises: no slot is above the slot before it. A product of a float and a number of at most 1 is no larger than the float, and the float is held exactly, so the rounded product is no larger either. Assumes nothing.
use mathlib.Core.Path.{◌≡◌, refl, sym, ap, ◌∙◌, subst}
use mathlib.Core.Bool.{Bool, true, false, ◌&&◌}
use mathlib.Core.List.{List, [], ◌∷◌, ◌++◌}
use Prim.Native.Nat.{ℕ, zero, suc, ◌+◌, ◌-◌, ◌*◌, ◌^◌, ◌%◌, ◌≤◌, ◌<◌}
use native.Mathlib.Nat.{le_trans, le_of_eq, lt_of_lt_of_le, zero-lt-suc, mul_assoc, mul-one, mul_right_comm, mul-le-mul_left, mul-le-mul_right, mul-pos, zero-mul, le_of_mul-le-mul_right}
use native.Mathlib.Omega.{arith}
use borrow.Author.Tests.{ltb-true, ltb-false, le-ltb}
use lib.Dec.{T, leb, ltb, eqb, ltb→lt, leb→le}
use lib.IntN.{ℤ, pos, negsuc}
use lib.ListN.{take, replicate}
use lib.Pow.{pow-add, pow_mono, pow-lt, shl_lt}
use lib.Ieee.{Float, nan, inf, fin, Format, binary64, prec, emax, low, up, down, round, mul, lt, le, eq, is_nan, fits, of_bits, unlike}
use lib.Ieee.Fits.{and_l, and_r, down_pos, reach, mul-fits}
use lib.Ieee.Exact.{HasValue, round_exact}
use lib.Ieee.Order.{round_mono}
use lib.Ieee.Scale.{round_same}
use Rattle.depth_laws.proofs.Clear.{left_zero}
use Rattle.bank.proofs.Bounds.{le_either}
use Rattle.float.proofs.Rounded.{round_clear}
use Rattle.laws.proofs.Both.{both}
use Rattle.float.specs.Floats.{times, f0, f1, clamp_unit, is_finite, is_clear}
use Rattle.float.proofs.Classes.{clash, finite_no_nan}
use Rattle.float.proofs.Ranges.{signed_no_nan, signed_low, signed_high}
use Rattle.float.proofs.Clamped.{unit_signed}
use Rattle.chains.specs.Scan.{scan}
use Rattle.chains.specs.Tests.{all_of, is_survival}
use Rattle.chains.specs.Survival.{survive, products, survival_chain}
use Rattle.refusals.proofs.First.{passed_is_zero}
use Rattle.goodput_judges.specs.Refusals.{survival_judged, survival_refusal}
use Rattle.goodput_judges.proofs.Passed.{survival_passed}
use Rattle.goodput_laws.proofs.Survivals.{one_survives, zero_survives, positive_low, negative_zero, right_zero, product_held}

-- ---- what a format holds is rounded to itself
module _ (f : Format) (m : ℕ) (small : m < 2 ^ prec f) where
  whole_exact : (k : ℕ) → m * 2 ^ k < 2 ^ suc (emax f) → HasValue (round f false (m * 2 ^ k) 1) false (m * 2 ^ k) 1
  whole_exact k top =
      let same : m * 2 ^ k * 2 ^ low f ≡ m * 2 ^ (k + low f) = mul_assoc m (2 ^ k) (2 ^ low f) ∙ ap (λ (x : ℕ). m * x) (sym (pow-add 2 k (low f))) in
      let turned : suc (emax f) + low f ≡ low f + suc (emax f) = omega arith in
      let bound : m * 2 ^ (k + low f) < 2 ^ (low f + suc (emax f)) =
      subst (λ (x : ℕ). x < 2 ^ (low f + suc (emax f))) same (subst (λ (x : ℕ). m * 2 ^ k * 2 ^ low f < 2 ^ x) turned (shl_lt (suc (emax f)) (low f) top)) in
      round_exact f false (m * 2 ^ k) 1 m (k + low f) (zero-lt-suc 0) small bound (same ∙ sym (mul-one (m * 2 ^ (k + low f))))

  part_exact : (k : ℕ) → suc k ≤ low f → HasValue (round f false (m * 1) (2 ^ suc k)) false (m * 1) (2 ^ suc k)
  part_exact k h =
      let j = low f - suc k in
      let back : j + suc k ≡ low f = omega arith in
      let r = reach f in
      let room : prec f + j ≤ low f + suc (emax f) = omega arith in
      let same : m * 1 * 2 ^ low f ≡ m * 2 ^ j * 2 ^ suc k =
      ap (λ (x : ℕ). x * 2 ^ low f) (mul-one m) ∙ ap (λ (x : ℕ). m * 2 ^ x) (sym back) ∙ ap (λ (x : ℕ). m * x) (pow-add 2 j (suc k)) ∙ sym (mul_assoc m (2 ^ j) (2 ^ suc k)) in
      round_exact f false (m * 1) (2 ^ suc k) m j (down_pos (negsuc k)) small (lt_of_lt_of_le (shl_lt (prec f) j small) (pow_mono room)) same

no_more : (k l : ℕ) → 2 ^ suc k ≤ 2 ^ l → suc k ≤ l
no_more k l h = go (ltb l (suc k)) refl
  where
    go : (b : Bool) → ltb l (suc k) ≡ b → suc k ≤ l
    go true e = let w : 2 ^ l < 2 ^ suc k = pow-lt (ltb-true l (suc k) e) in absurd (let z : ⊥ = omega arith in z)
    go false e = ltb-false l (suc k) e

pub exact : (f : Format) (m : ℕ) (e : ℤ) → T (fits f (fin false (suc m) e)) → HasValue (round f false (suc m * up e) (down e)) false (suc m * up e) (down e)
unfolding fits
exact f m (pos k) t =
    let a : Bool = eqb (suc m % 2) 1 in
    let b : Bool = ltb (suc m) (2 ^ prec f) in
    let c : Bool = leb 1 (2 ^ low f) in
    let d : Bool = ltb (suc m * 2 ^ k) (2 ^ suc (emax f) * 1) in
    let top : suc m * 2 ^ k < 2 ^ suc (emax f) * 1 = ltb→lt (suc m * 2 ^ k) (2 ^ suc (emax f) * 1) (and_r (a && b && c) d t) in
    whole_exact f (suc m) (ltb→lt (suc m) (2 ^ prec f) (and_r a b (and_l (a && b) c (and_l (a && b && c) d t)))) k (subst (λ (x : ℕ). suc m * 2 ^ k < x) (mul-one (2 ^ suc (emax f))) top)
exact f m (negsuc k) t =
    let a : Bool = eqb (suc m % 2) 1 in
    let b : Bool = ltb (suc m) (2 ^ prec f) in
    let c : Bool = leb (2 ^ suc k) (2 ^ low f) in
    let d : Bool = ltb (suc m * 1) (2 ^ suc (emax f) * 2 ^ suc k) in
    part_exact f (suc m) (ltb→lt (suc m) (2 ^ prec f) (and_r a b (and_l (a && b) c (and_l (a && b && c) d t)))) k
    (no_more k (low f) (leb→le (2 ^ suc k) (2 ^ low f) (and_r (a && b) c (and_l (a && b && c) d t))))

-- ---- at most a float of the same value
below : (p n m g d e : ℕ) → 0 < g → p * g ≤ n * d → n * e ≡ m * g → p * e ≤ m * d
below p n m g d e G h v =
    let k : p * e * g ≤ m * d * g =
    le_trans (le_of_eq (mul_right_comm p e g)) (le_trans (mul-le-mul_right e h) (le_of_eq (mul_right_comm n d e ∙ ap (λ (z : ℕ). z * d) v ∙ mul_right_comm m g d))) in
    le_of_mul-le-mul_right k G

not_above : (m : ℕ) (e : ℤ) (r R : Float) → is_clear r ≡ true → HasValue R false (m * up e) (down e) → T (le r R) → lt (fin false m e) r ≡ false
unfolding is_clear lt le eq
not_above m e nan R c v h = clash c
not_above m e (inf true) R c v h = clash c
not_above m e (inf false) nan c v h = absurd v
not_above m e (inf false) (inf t) c v h = absurd v
not_above m e (inf false) (fin t n g) c v h = absurd h
not_above m e (fin true p d) R c v h = clash c
not_above m e (fin false p d) nan c v h = absurd v
not_above m e (fin false p d) (inf t) c v h = absurd v
not_above m e (fin false p d) (fin true n g) c v h = clash (sym v.0)
not_above m e (fin false p d) (fin false n g) c v h =
    let k : p * up d * down g ≤ n * up g * down d = le_either (p * up d * down g) (n * up g * down d) h in
    le-ltb (m * up e * down d) (p * up d * down e) (below (p * up d) (n * up g) (m * up e) (down g) (down d) (down e) (down_pos g) k v.1)

-- ---- a zero of either sign
zero_is : (b : Bool) → round binary64 b 0 1 ≡ fin b 0 (pos 0)
unfolding round
zero_is true = refl
zero_is false = refl

nothing : (x d : ℕ) → 0 * 1 * d ≤ x
nothing x d = omega arith

zero_above : (s b : Bool) (m : ℕ) (e : ℤ) → (s ≡ true → m * up e ≡ 0) → lt (fin s m e) (fin b 0 (pos 0)) ≡ false
unfolding lt
zero_above false false m e z = le-ltb (m * up e * 1) (0 * 1 * down e) (nothing (m * up e * 1) (down e))
zero_above false true m e z = refl
zero_above true false m e z = let k = z refl in le-ltb 0 (m * up e * 1 + 0 * 1 * down e) (omega arith)
zero_above true true m e z = let k = z refl in le-ltb (0 * 1 * down e) (m * up e * 1) (omega arith)

zero_round : (s b : Bool) (m : ℕ) (e : ℤ) (a c : ℕ) → 0 < c → a ≡ 0 → (s ≡ true → m * up e ≡ 0) → lt (fin s m e) (round binary64 b a c) ≡ false
zero_round s b m e a c C z k =
    ap (λ (y : Float). lt (fin s m e) y) (ap (λ (x : ℕ). round binary64 b x c) z ∙ round_same binary64 b 0 c 0 1 C (zero-lt-suc 0) (sym (zero-mul c)) ∙ zero_is b) ∙ zero_above s b m e k

-- ---- a survival times another is not above it
smaller_product : (a n E D : ℕ) → n ≤ D → a * n * E ≤ a * (E * D)
smaller_product a n E D h =
    le_trans (le_of_eq (mul_right_comm a n E)) (le_trans (mul-le-mul_left (a * E) h) (le_of_eq (mul_assoc a E D)))

falls : (s t : Bool) (m n : ℕ) (e d : ℤ) → T (fits binary64 (fin s m e)) → lt (fin s m e) f0 ≡ false → lt (fin t n d) f0 ≡ false → lt f1 (fin t n d) ≡ false
    → lt (fin s m e) (round binary64 (unlike s t) (m * up e * (n * up d)) (down e * down d)) ≡ false
falls true t m n e d f p u v =
    let z = negative_zero m e p in
    zero_round true (unlike true t) m e (m * up e * (n * up d)) (down e * down d) (mul-pos (down_pos e) (down_pos d)) (left_zero (m * up e) (n * up d) z) (λ _. z)
falls false true m n e d f p u v =
    zero_round false true m e (m * up e * (n * up d)) (down e * down d) (mul-pos (down_pos e) (down_pos d)) (right_zero (m * up e) (n * up d) (negative_zero n d u)) (λ h. clash h)
falls false false zero n e d f p u v =
    zero_round false false 0 e (0 * up e * (n * up d)) (down e * down d) (mul-pos (down_pos e) (down_pos d)) (left_zero (0 * up e) (n * up d) (zero-mul (up e))) (λ h. clash h)
falls false false (suc m) n e d f p u v =
    let a = suc m * up e in
    let r = round binary64 false (a * (n * up d)) (down e * down d) in
    not_above (suc m) e r (round binary64 false a (down e)) (round_clear binary64 (a * (n * up d)) (down e * down d)) (exact binary64 m e f)
    (round_mono binary64 (a * (n * up d)) (down e * down d) a (down e) (mul-pos (down_pos e) (down_pos d)) (down_pos e) (smaller_product a (n * up d) (down e) (down d) (positive_low n d v)))

product_falls : (x y : Float) → T (fits binary64 x) → is_nan x ≡ false → lt x f0 ≡ false → lt f1 x ≡ false → is_nan y ≡ false → lt y f0 ≡ false → lt f1 y ≡ false → lt x (times x y) ≡ false
unfolding mul is_nan lt of_bits
product_falls nan y f o p q n u v = clash (sym o)
product_falls (inf true) y f o p q n u v = clash (sym p)
product_falls (inf false) y f o p q n u v = clash (sym q)
product_falls (fin s m e) nan f o p q n u v = clash (sym n)
product_falls (fin s m e) (inf true) f o p q n u v = clash (sym u)
product_falls (fin s m e) (inf false) f o p q n u v = clash (sym v)
product_falls (fin s m e) (fin t k d) f o p q n u v = falls s t m k e d f p u v

-- ---- a chain: no entry is above the one before it
abbrev pub NeverRises : Float → List Float → Type 0
NeverRises s [] = Unit
NeverRises s (x ∷ xs) = (lt s x ≡ false) × NeverRises x xs

products_fall : (s : Float) (xs ys : List Float) → T (fits binary64 s) → is_survival s ≡ true → all_of is_finite xs ≡ true → ((t : Float) → is_survival t ≡ true → NeverRises t ys) → NeverRises s (products s xs ++ ys)
unfolding scan all_of
products_fall s [] ys f h k rest = rest s h
products_fall s (x ∷ xs) ys f h k rest =
    let u = both (is_finite x) (all_of is_finite xs) k in
    let c = unit_signed x (finite_no_nan x u.0) in
    let p = product_held s (clamp_unit x) h c in (
      product_falls s (clamp_unit x) f (signed_no_nan f0 f1 s h) (signed_low f0 f1 s h) (signed_high f0 f1 s h) (signed_no_nan f0 f1 (clamp_unit x) c) (signed_low f0 f1 (clamp_unit x) c) (signed_high f0 f1 (clamp_unit x) c),
      products_fall (survive s x) xs ys (mul-fits binary64 s (clamp_unit x)) p u.1 rest,
    )

zeros_stay : (k : ℕ) (s : Float) → is_survival s ≡ true → NeverRises s (replicate k f0)
zeros_stay zero s h = tt
zeros_stay (suc k) s h = (signed_low f0 f1 s h, zeros_stay k f0 zero_survives)

one_fits : T (fits binary64 f1)
unfolding fits of_bits
one_fits = tt

-- all 64 slots of a chain that is not refused, from 1.0 on
pub chain_falls : (signal : List Float) (length : ℕ) → survival_refusal signal length ≡ 0 → NeverRises f1 (survival_chain signal length)
unfolding survival_chain
chain_falls signal length e =
    let finite = (survival_passed signal length (passed_is_zero (survival_judged signal length) e)).1 in
    products_fall f1 (take length signal) (replicate (64 - length) f0) one_fits one_survives finite (λ t h. zeros_stay (64 - length) t h)
