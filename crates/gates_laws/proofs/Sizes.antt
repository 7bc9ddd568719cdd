-- How large a float is at most, in whole numbers, and what sums, differences and products of such floats are at most. Assumes nothing.
use mathlib.Core.Path.{◌≡◌, refl, sym, ap, ◌∙◌, subst}
use mathlib.Core.Bool.{Bool, true, false, ◌&&◌, ◌||◌, beq, cond}
use Prim.Native.Nat.{ℕ, zero, suc, ◌+◌, ◌-◌, ◌*◌, ◌/◌, ◌^◌, ◌≤◌, ◌<◌}
use native.Mathlib.Nat.{mul-one, mul-pos, mul_comm, mul_assoc, mul_right_comm, add-mul, mul-le-mul_right, le_of_mul-le-mul_right, le_trans, le_of_eq, zero-lt-suc}
use native.Mathlib.Omega.{arith}
use lib.Dec.{T, ltb, eqb, ltb→lt, eqb→eq}
use lib.Ieee.{Float, nan, inf, fin, Format, binary64, prec, emax, low, up, down, size, odd, units, round, neg, sum, add, sub, lt, eq, le, of_int}
use lib.Ieee.Fits.{down_pos, round_is}
use lib.Ieee.Nearest.{closest}
use lib.Ieee.Exact.{HasValue}
use lib.Ieee.Order.{round_mono}
use Rattle.float.specs.Floats.{is_finite, plus, less, whole}
use Rattle.numeral.proofs.Rounding.{round_neg, whole_held}

-- finite, and no larger than A
abbrev pub Sized : ℕ → Float → Type 0
Sized A nan = ⊥
Sized A (inf s) = ⊥
Sized A (fin s m e) = m * up e ≤ A * down e

pub sized_finite : (A : ℕ) (x : Float) → Sized A x → is_finite x ≡ true
unfolding is_finite
sized_finite A nan h = absurd h
sized_finite A (inf s) h = absurd h
sized_finite A (fin s m e) h = refl

pub sized_more : (A B : ℕ) (x : Float) → A ≤ B → Sized A x → Sized B x
sized_more A B nan l h = h
sized_more A B (inf s) l h = h
sized_more A B (fin s m e) l h = le_trans h (mul-le-mul_right (down e) l)

pub sized_neg : (A : ℕ) (x : Float) → Sized A x → Sized A (neg x)
unfolding neg
sized_neg A nan h = h
sized_neg A (inf s) h = h
sized_neg A (fin s m e) h = h

-- ---- what is rounded
abbrev pub sign_of : Float → Bool
sign_of nan = false
sign_of (inf s) = s
sign_of (fin s m e) = s

odd_positive : (d q k l : ℕ) → sign_of (odd d false q k l) ≡ false
unfolding odd
odd_positive d zero k l = refl
odd_positive d (suc q) k l = refl

units_positive : (f : Format) (q k : ℕ) → sign_of (units f false q k) ≡ false
unfolding units
units_positive f q k = go (ltb (q * 2 ^ k) (2 ^ (low f + suc (emax f))))
  where
    go : (b : Bool) → sign_of (cond b (odd (suc (prec f)) false q k (low f)) (inf false)) ≡ false
    go true = odd_positive (suc (prec f)) q k (low f)
    go false = refl

pub round_positive : (f : Format) (a b : ℕ) → sign_of (round f false a b) ≡ false
round_positive f a b =
    let n = a * 2 ^ low f in
    let k = size (n / b) - prec f in
    ap sign_of (round_is f false a b) ∙ units_positive f (closest n (b * 2 ^ k)) k

true_false : {A : Type 0} → true ≡ false → A
true_false e = let z : ◌≡◌ {A = ℕ} 0 1 = cc in absurd (let w : ⊥ = omega arith in w)

pub or_le : (a b : ℕ) (c : Bool) → T (ltb a b || (eqb a b && c)) → a ≤ b
or_le a b c t = go (ltb a b) (eqb a b) (ltb→lt a b) (eqb→eq a b) t
  where
    go : (x y : Bool) → (T x → a < b) → (T y → a ≡ b) → T (x || (y && c)) → a ≤ b
    go true y p q u = let l = p tt in omega arith
    go false true p q u = let l = q tt in omega arith
    go false false p q u = absurd u

-- what is no larger than a float that holds A is no larger than A
pub under : (x y : Float) (A : ℕ) → sign_of x ≡ false → HasValue y false A 1 → T (le x y) → Sized A x
unfolding le lt eq
under nan y A s v t = absurd t
under (inf true) y A s v t = true_false s
under (fin true m e) y A s v t = true_false s
under (inf false) nan A s v t = absurd v
under (inf false) (inf u) A s v t = absurd v
under (inf false) (fin u n d) A s v t = absurd t
under (fin false m e) nan A s v t = absurd v
under (fin false m e) (inf u) A s v t = absurd v
under (fin false m e) (fin true n d) A s v t = true_false v.0
under (fin false m e) (fin false n d) A s v t =
    let l : m * up e * down d ≤ n * up d * down e = or_le (m * up e * down d) (n * up d * down e) true t in
    let q : n * up d ≡ A * down d = sym (mul-one (n * up d)) ∙ v.1 in
    let r : n * up d * down e ≡ A * down e * down d = ap (λ (z : ℕ). z * down e) q ∙ mul_right_comm A (down d) (down e) in
    le_of_mul-le-mul_right (le_trans l (le_of_eq r)) (down_pos d)

-- the largest whole number here is held exactly
abbrev pub Held : ℕ → Type 0
Held A = A < 2 ^ 53

positive_sized : (A a b : ℕ) → Held A → 0 < b → a ≤ A * b → Sized A (round binary64 false a b)
positive_sized A a b h B l =
    under (round binary64 false a b) (round binary64 false A 1) A (round_positive binary64 a b) (whole_held binary64 A h)
    (round_mono binary64 a b A 1 B (zero-lt-suc 0) (le_trans (le_of_eq (mul-one a)) l))

pub round_sized : (A : ℕ) (s : Bool) (a b : ℕ) → Held A → 0 < b → a ≤ A * b → Sized A (round binary64 s a b)
round_sized A false a b h B l = positive_sized A a b h B l
round_sized A true a b h B l = subst (Sized A) (round_neg binary64 a b) (sized_neg A (round binary64 false a b) (positive_sized A a b h B l))

pub whole_sized : (n : ℕ) → Held n → Sized n (whole n)
unfolding of_int
whole_sized n h = round_sized n false n 1 h (zero-lt-suc 0) (le_of_eq (sym (mul-one n)))

-- ---- sums and differences
either_sized : (A : ℕ) (b : Bool) (x y : Float) → Sized A x → Sized A y → Sized A (cond b x y)
either_sized A true x y p q = p
either_sized A false x y p q = q

sum_sized : (A B : ℕ) (s t : Bool) (a b c : ℕ) → Held (A + B) → 0 < c → a ≤ A * c → b ≤ B * c → Sized (A + B) (sum binary64 s a t b c)
unfolding sum
sum_sized A B s t a b c h C p q =
    let both : a + b ≤ (A + B) * c = omega (arith, add-mul A B c) in
    let one : b - a ≤ (A + B) * c = omega (arith, add-mul A B c) in
    let other : a - b ≤ (A + B) * c = omega (arith, add-mul A B c) in
    either_sized (A + B) (beq s t) _ _ (round_sized (A + B) s (a + b) c h C both)
    (either_sized (A + B) (ltb a b) _ _ (round_sized (A + B) t (b - a) c h C one) (round_sized (A + B) (s && ltb b a) (a - b) c h C other))

pub sized_plus : (A B : ℕ) (x y : Float) → Held (A + B) → Sized A x → Sized B y → Sized (A + B) (plus x y)
unfolding add
sized_plus A B nan y h p q = absurd p
sized_plus A B (inf s) y h p q = absurd p
sized_plus A B (fin s m e) nan h p q = absurd q
sized_plus A B (fin s m e) (inf t) h p q = absurd q
sized_plus A B (fin s m e) (fin t n d) h p q =
    let l : m * up e * down d ≤ A * (down e * down d) = le_trans (mul-le-mul_right (down d) p) (le_of_eq (mul_assoc A (down e) (down d))) in
    let r : n * up d * down e ≤ B * (down e * down d) =
    le_trans (mul-le-mul_right (down e) q) (le_of_eq (mul_assoc B (down d) (down e) ∙ ap (λ (z : ℕ). B * z) (mul_comm (down d) (down e)))) in
    sum_sized A B s t (m * up e * down d) (n * up d * down e) (down e * down d) h (mul-pos (down_pos e) (down_pos d)) l r

pub sized_less : (A B : ℕ) (x y : Float) → Held (A + B) → Sized A x → Sized B y → Sized (A + B) (less x y)
unfolding sub
sized_less A B x y h p q = sized_plus A B x (neg y) h p (sized_neg B y q)
