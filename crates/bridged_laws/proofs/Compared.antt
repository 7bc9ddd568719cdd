-- How a float compares with a whole number, and that `le` is the opposite of `lt`. Assumes nothing.
use mathlib.Core.Path.{◌≡◌, refl, sym, ap, ◌∙◌, subst}
use mathlib.Core.Bool.{Bool, true, false, not, ◌&&◌, ◌||◌}
use Prim.Native.Nat.{ℕ, ◌+◌, ◌*◌, ◌≤◌, ◌<◌}
use native.Mathlib.Nat.{mul-one, mul_right_comm, zero-mul, mul-le-mul_right, mul-lt-mul_of_pos_right, zero-lt-suc}
use native.Mathlib.Omega.{arith}
use borrow.Author.Tests.{ltb-true, ltb-false, lt-ltb, le-ltb, ne_eqb}
use lib.Dec.{T, ltb, eqb, eqb→eq}
use lib.IntN.{ℤ}
use lib.Ieee.{Float, nan, inf, fin, binary64, up, down, below, level, lt, eq, le, is_nan, of_int}
use lib.Ieee.Fits.{down_pos}
use lib.Ieee.Exact.{HasValue}
use lib.Ieee.Order.{round_mono}
use Rattle.float.specs.Floats.{whole}
use Rattle.float.proofs.Classes.{clash, clear_no_nan}
use Rattle.float.proofs.Order.{lt_asym, lt_total}
use Rattle.float.proofs.Rounded.{round_clear}

-- ---- `le` is the opposite of `lt` the other way round, where nothing is a NaN
not_level : (s t : Bool) (a b : ℕ) → below t b s a ≡ true → level s a t b ≡ false
not_level false false a b h = let l = ltb-true b a h in rw (ne_eqb a b (λ q. omega arith))
not_level true true a b h = let l = ltb-true a b h in rw (ne_eqb a b (λ q. omega arith))
not_level true false a b h = clash h
not_level false true a b h = go (eqb a b) (eqb→eq a b)
  where
    go : (c : Bool) → (T c → a ≡ b) → (c && (false || eqb a 0)) ≡ false
    go false f = refl
    go true f = let l = ltb-true 0 (b + a) h in let q = f tt in ne_eqb a 0 (λ z. omega arith)

lt_ne : (x y : Float) → lt y x ≡ true → eq x y ≡ false
unfolding lt eq
lt_ne nan y h = refl
lt_ne (inf s) nan h = refl
lt_ne (inf true) (inf true) h = clash h
lt_ne (inf true) (inf false) h = refl
lt_ne (inf false) (inf true) h = refl
lt_ne (inf false) (inf false) h = clash h
lt_ne (inf s) (fin t n d) h = refl
lt_ne (fin s m e) nan h = refl
lt_ne (fin s m e) (inf t) h = refl
lt_ne (fin s m e) (fin t n d) h = not_level s t (m * up e * down d) (n * up d * down e) h

pub le_is : (x y : Float) → is_nan x ≡ false → is_nan y ≡ false → le x y ≡ not (lt y x)
unfolding le
le_is x y p q = go (lt y x) refl (lt x y) refl
  where
    go : (b : Bool) → lt y x ≡ b → (c : Bool) → lt x y ≡ c → (c || eq x y) ≡ not b
    go true h c k = ap (λ (z : Bool). z || eq x y) (sym k ∙ lt_asym y x h) ∙ lt_ne x y h
    go false h true k = refl
    go false h false k = lt_total x y p q k h

-- ---- a float of whole value k compared with one of value a / c
pub ltb_scaled : (x y d : ℕ) → 0 < d → ltb (x * d) (y * d) ≡ ltb x y
ltb_scaled x y d p = go (ltb x y) refl
  where
    go : (b : Bool) → ltb x y ≡ b → ltb (x * d) (y * d) ≡ b
    go true h = lt-ltb (x * d) (y * d) (mul-lt-mul_of_pos_right (ltb-true x y h) p)
    go false h = le-ltb (x * d) (y * d) (mul-le-mul_right d (ltb-false x y h))

-- minus zero is the one float with a sign here
abbrev pub Unsigned : Bool → ℕ → Type 0
Unsigned true a = a ≡ 0
Unsigned false a = Unit {0}

pub held_is : (n u d k c : ℕ) → n * u * 1 ≡ k * d → n * u * c ≡ k * c * d
held_is n u d k c e = ap (λ (z : ℕ). z * c) (sym (mul-one (n * u)) ∙ e) ∙ mul_right_comm k d c

pub below_held : (s : Bool) (m : ℕ) (e : ℤ) (y : Float) (k : ℕ) → Unsigned s (m * up e) → HasValue y false k 1 → lt (fin s m e) y ≡ ltb (m * up e) (k * down e)
unfolding lt
below_held s m e nan k z v = absurd v
below_held s m e (inf t) k z v = absurd v
below_held s m e (fin true n d) k z v = let w = v.0 in clash (sym w)
below_held false m e (fin false n d) k z v =
    ap (λ (x : ℕ). ltb (m * up e * down d) x) (held_is n (up d) (down d) k (down e) v.1) ∙ ltb_scaled (m * up e) (k * down e) (down d) (down_pos d)
below_held true m e (fin false n d) k z v =
    let none : m * up e * down d ≡ 0 = ap (λ (x : ℕ). x * down d) z ∙ zero-mul (down d) in
    let y = n * up d * down e in
    let same : m * up e * down d + y ≡ y = omega arith in
    ap (λ (x : ℕ). ltb 0 x) same ∙ ap (λ (x : ℕ). ltb x y) (sym none)
    ∙ ap (λ (x : ℕ). ltb (m * up e * down d) x) (held_is n (up d) (down d) k (down e) v.1) ∙ ltb_scaled (m * up e) (k * down e) (down d) (down_pos d)

pub above_held : (s : Bool) (m : ℕ) (e : ℤ) (y : Float) (k : ℕ) → Unsigned s (m * up e) → HasValue y false k 1 → lt y (fin s m e) ≡ ltb (k * down e) (m * up e)
unfolding lt
above_held s m e nan k z v = absurd v
above_held s m e (inf t) k z v = absurd v
above_held s m e (fin true n d) k z v = let w = v.0 in clash (sym w)
above_held false m e (fin false n d) k z v =
    ap (λ (x : ℕ). ltb x (m * up e * down d)) (held_is n (up d) (down d) k (down e) v.1) ∙ ltb_scaled (k * down e) (m * up e) (down d) (down_pos d)
above_held true m e (fin false n d) k z v = sym (le-ltb (k * down e) (m * up e) (omega (arith, z)))

-- ---- whole numbers, also large ones
pub whole_number : (k : ℕ) → is_nan (whole k) ≡ false
unfolding of_int
whole_number k = clear_no_nan (whole k) (round_clear binary64 k 1)

-- a whole number from 65 on is not rounded below 65
large_le : (k : ℕ) → 65 ≤ k → T (le (whole 65) (whole k))
unfolding of_int
large_le k h = round_mono binary64 65 1 k 1 (zero-lt-suc 0) (zero-lt-suc 0) (omega (arith, mul-one k))

pub large : (k : ℕ) → 65 ≤ k → lt (whole k) (whole 65) ≡ false
large k h = go (lt (whole k) (whole 65)) (sym (le_is (whole 65) (whole k) (whole_number 65) (whole_number k))) (large_le k h)
  where
    go : (b : Bool) → not b ≡ le (whole 65) (whole k) → T (le (whole 65) (whole k)) → b ≡ false
    go false e t = refl
    go true e t = absurd (subst T (sym e) t)
