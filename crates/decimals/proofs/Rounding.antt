-- The quotient of two floats that hold whole numbers exactly is the rounded quotient of the numbers; and a negative quotient is the positive one negated. Assumes nothing.
use mathlib.Core.Path.{◌≡◌, refl, sym, ap, ◌∙◌, subst}
use mathlib.Core.Bool.{Bool, true, false, cond}
use Prim.Native.Nat.{ℕ, zero, suc, ◌+◌, ◌-◌, ◌*◌, ◌/◌, ◌^◌, ◌≤◌, ◌<◌, zero-le}
use native.Mathlib.Nat.{mul-one, mul-pos, mul_comm, mul_assoc, mul_left_comm, zero-mul, lt_of_lt_of_le, lt_irrefl, zero-lt-suc, pow-le-pow_right}
use native.Mathlib.Omega.{arith}
use borrow.Author.Tests.{ne_eqb}
use lib.Dec.{lit<, T, eqb, ltb, eqb→eq}
use mathlib.Core.List.{List, [], ◌∷◌}
use lib.ListN.{length, get_or}
use lib.IntN.{ℤ, pos}
use Rattle.decimals.proofs.Table.{every, at}
use lib.Pow.{pow_mono, shl_lt}
use lib.Ieee.{Float, nan, inf, fin, Format, prec, emax, low, up, down, size, odd, units, round, neg, div, of_int, lt, eq, le, binary64}
use lib.Ieee.Fits.{down_pos, round_is, reach}
use lib.Ieee.Nearest.{closest}
use lib.Ieee.Exact.{HasValue, round_exact}
use lib.Ieee.Order.{round_mono}
use lib.Ieee.Scale.{round_same, finite}

-- ---- the sign
odd_neg : (d q k l : ℕ) → neg (odd d false q k l) ≡ odd d true q k l
unfolding odd neg
odd_neg d zero k l = refl
odd_neg d (suc q) k l = refl

units_neg : (f : Format) (q k : ℕ) → neg (units f false q k) ≡ units f true q k
unfolding units neg
units_neg f q k = go (ltb (q * 2 ^ k) (2 ^ (low f + suc (emax f))))
  where
    go : (b : Bool) → neg (cond b (odd (suc (prec f)) false q k (low f)) (inf false)) ≡ cond b (odd (suc (prec f)) true q k (low f)) (inf true)
    go true = odd_neg (suc (prec f)) q k (low f)
    go false = refl

pub round_neg : (f : Format) (a b : ℕ) → neg (round f false a b) ≡ round f true a b
round_neg f a b =
    let n = a * 2 ^ low f in
    let k = size (n / b) - prec f in
    ap neg (round_is f false a b) ∙ units_neg f (closest n (b * 2 ^ k)) k ∙ sym (round_is f true a b)

-- ---- a whole number of no more digits than the format keeps is held exactly
room : (f : Format) → prec f + low f ≤ low f + suc (emax f)
room f = let h = reach f in omega arith

pub whole_held : (f : Format) (n : ℕ) → n < 2 ^ prec f → HasValue (round f false n 1) false n 1
whole_held f n h =
    round_exact f false n 1 n (low f) (zero-lt-suc 0) h
    (lt_of_lt_of_le (shl_lt (prec f) (low f) h) (pow_mono (room f)))
    (sym (mul-one (n * 2 ^ low f)))

-- ---- the quotient
first_zero : (q u p d : ℕ) → 0 < p → 0 < d → q * u * 1 ≡ p * d → q ≡ 0 → ⊥
first_zero q u p d P D e z =
    lt_irrefl 0 (subst (λ (x : ℕ). 0 < x) (sym e ∙ ap (λ (x : ℕ). x * u * 1) z ∙ ap (λ (x : ℕ). x * 1) (zero-mul u) ∙ zero-mul 1) (mul-pos P D))

second_pos : (q u p d e : ℕ) → 0 < p → 0 < d → 0 < e → q * u * 1 ≡ p * d → 0 < q * u * e
second_pos q u p d e P D E h = mul-pos (subst (λ (x : ℕ). 0 < x) (sym h ∙ mul-one (q * u)) (mul-pos P D)) E

cross : (M e n Q d p : ℕ) → M * 1 ≡ n * e → Q * 1 ≡ p * d → M * d * p ≡ n * (Q * e)
cross M e n Q d p h k =
    let h' : M ≡ n * e = sym (mul-one M) ∙ h in
    let k' : Q ≡ p * d = sym (mul-one Q) ∙ k in
    let turn : n * e * d * p ≡ n * (p * d * e) = simp (mul_assoc, mul_comm, mul_left_comm) in
    ap (λ (x : ℕ). x * d * p) h' ∙ turn ∙ ap (λ (x : ℕ). n * (x * e)) (sym k')

pub quotient_rounds : (f : Format) (x y : Float) (n p : ℕ) → 0 < p → HasValue x false n 1 → HasValue y false p 1 → div f x y ≡ round f false n p
unfolding div
quotient_rounds f nan y n p P v w = absurd v
quotient_rounds f (inf s) y n p P v w = absurd v
quotient_rounds f (fin s m e) nan n p P v w = absurd w
quotient_rounds f (fin s m e) (inf t) n p P v w = absurd w
quotient_rounds f (fin true m e) (fin t q d) n p P v w = absurd (subst T v.0 tt)
quotient_rounds f (fin false m e) (fin true q d) n p P v w = absurd (subst T w.0 tt)
quotient_rounds f (fin false m e) (fin false q d) n p P v w =
    rw (ne_eqb q 0 (first_zero q (up d) p (down d) P (down_pos d) w.1))
    (round_same f false (m * up e * down d) (q * up d * down e) n p
    (second_pos q (up d) p (down d) (down e) P (down_pos d) (down_pos e) w.1) P
    (cross (m * up e) (down e) n (q * up d) (down d) p v.1 w.1))

-- two whole numbers that a float holds exactly: only the quotient rounds
pub divided_once : (n p : ℕ) → n < 2 ^ 53 → 0 < p → p < 2 ^ 53 → div binary64 (of_int binary64 (pos n)) (of_int binary64 (pos p)) ≡ round binary64 false n p
unfolding of_int
divided_once n p h k l = quotient_rounds binary64 (round binary64 false n 1) (round binary64 false p 1) n p k (whole_held binary64 n h) (whole_held binary64 p l)

-- a float that is not negative and holds the whole number v, as a test
abbrev pub holds : ℕ → Float → Bool
holds v nan = false
holds v (inf s) = false
holds v (fin true m e) = false
holds v (fin false m e) = eqb (m * up e * 1) (v * down e)

pub held : (v : ℕ) (x : Float) → T (holds v x) → HasValue x false v 1
held v nan t = t
held v (inf s) t = t
held v (fin true m e) t = absurd t
held v (fin false m e) t = (refl, eqb→eq (m * up e * 1) (v * down e) t)

-- ---- by a table of powers of ten

-- n powers of ten from 10 ^ k on, each as the format holds it
abbrev pub tens : ℕ → ℕ → List Float
tens zero k = []
tens (suc n) k = round binary64 false (10 ^ k) 1 ∷ tens n (suc k)

abbrev pub ten_to : ℕ → Float → Bool
ten_to k x = holds (10 ^ k) x

pos_pow : (k : ℕ) → 0 < 10 ^ k
pos_pow k = pow-le-pow_right {n = 10} (lit< tt) zero-le

small : (n : ℕ) → n ≤ 10 ^ 15 → n < 2 ^ 53
small n h = omega arith

pub tens_quotient : (powers : List Float) → T (every ten_to nan 0 powers) → (n k : ℕ) → n ≤ 10 ^ 15 → k < length powers
    → div binary64 (of_int binary64 (pos n)) (get_or powers k nan) ≡ round binary64 false n (10 ^ k)
unfolding of_int
tens_quotient powers t n k h i =
    quotient_rounds binary64 (round binary64 false n 1) (get_or powers k nan) n (10 ^ k) (pos_pow k)
    (whole_held binary64 n (small n h))
    (held (10 ^ k) (get_or powers k nan) (at ten_to nan powers t k i))

-- the same with the sign, as the code applies it
pub positive : (powers : List Float) → T (every ten_to nan 0 powers) → (s : Bool) (n k : ℕ) → s ≡ false → n ≤ 10 ^ 15 → k < length powers
    → div binary64 (of_int binary64 (pos n)) (get_or powers k nan) ≡ round binary64 s n (10 ^ k)
positive powers t s n k e h i = tens_quotient powers t n k h i ∙ ap (λ (z : Bool). round binary64 z n (10 ^ k)) (sym e)

pub negative : (powers : List Float) → T (every ten_to nan 0 powers) → (s : Bool) (n k : ℕ) → s ≡ true → n ≤ 10 ^ 15 → k < length powers
    → neg (div binary64 (of_int binary64 (pos n)) (get_or powers k nan)) ≡ round binary64 s n (10 ^ k)
negative powers t s n k e h i =
    ap neg (tens_quotient powers t n k h i) ∙ round_neg binary64 n (10 ^ k) ∙ ap (λ (z : Bool). round binary64 z n (10 ^ k)) (sym e)

-- ---- a rounded fraction of at most 10 ^ 15 is finite and at most 10 ^ 15

-- `units` overflows or not by its size alone, whatever the sign
units_finite : (f : Format) (s : Bool) (q k m : ℕ) (e : ℤ) → T (le (units f false q k) (fin false m e)) → T (finite (units f s q k))
unfolding units le lt eq odd
units_finite f s q k m e h = go (ltb (q * 2 ^ k) (2 ^ (low f + suc (emax f)))) h
  where
    held_odd : (q : ℕ) → T (finite (odd (suc (prec f)) s q k (low f)))
    held_odd zero = tt
    held_odd (suc q) = tt

    go : (b : Bool) → T (le (cond b (odd (suc (prec f)) false q k (low f)) (inf false)) (fin false m e)) → T (finite (cond b (odd (suc (prec f)) s q k (low f)) (inf s)))
    go true t = held_odd q
    go false t = absurd t

round_finite : (f : Format) (s : Bool) (a b m : ℕ) (e : ℤ) → T (le (round f false a b) (fin false m e)) → T (finite (round f s a b))
round_finite f s a b m e h =
    let n = a * 2 ^ low f in
    let k = size (n / b) - prec f in
    let q = closest n (b * 2 ^ k) in
    subst (λ (x : Float). T (finite x)) (sym (round_is f s a b))
    (units_finite f s q k m e (subst (λ (x : Float). T (le x (fin false m e))) (round_is f false a b) h))

-- the largest size of a decimal: 10 ^ 15, as the format holds it
abbrev pub most : Float
most = round binary64 false (10 ^ 15) 1

few_of : (n p : ℕ) → n ≤ 10 ^ 15 → 0 < p → n * 1 ≤ 10 ^ 15 * p
few_of n p h P = omega arith

pub size_most : (n k : ℕ) → n ≤ 10 ^ 15 → T (le (round binary64 false n (10 ^ k)) most)
size_most n k h = round_mono binary64 n (10 ^ k) (10 ^ 15) 1 (pos_pow k) (zero-lt-suc 0) (few_of n (10 ^ k) h (pos_pow k))

-- 30517578125 is 5 ^ 15
most_is : most ≡ fin false 30517578125 (pos 15)
unfolding round
most_is = refl

pub quotient_finite : (s : Bool) (n k : ℕ) → n ≤ 10 ^ 15 → T (finite (round binary64 s n (10 ^ k)))
quotient_finite s n k h =
    round_finite binary64 s n (10 ^ k) 30517578125 (pos 15) (subst (λ (x : Float). T (le (round binary64 false n (10 ^ k)) x)) most_is (size_most n k h))
