-- A float that its format holds is its own rounding, and so the quotient by one is the float itself. Assumes nothing.
use mathlib.Core.Path.{◌≡◌, refl, sym, ap, ◌∙◌, subst}
use mathlib.Core.Bool.{Bool, true, false, ◌&&◌}
use Prim.Native.Nat.{ℕ, zero, suc, ◌+◌, ◌-◌, ◌*◌, ◌%◌, ◌^◌, ◌≤◌, ◌<◌}
use native.Mathlib.Nat.{mul-one, one-mul, mul_assoc, mul_right_comm, zero-mul, add_comm, eq_of_mul-eq-mul_right, le_trans, lt_irrefl, zero-lt-suc}
use native.Mathlib.Decide.{dec_le}
use native.Mathlib.Omega.{arith}
use lib.Dec.{T, leb, ltb, eqb, leb→le, ltb→lt}
use lib.IntN.{ℤ, pos, negsuc}
use lib.Pow.{pow-add, pow_pos, pow-lt, shl_lt}
use lib.Ieee.{Float, nan, inf, fin, Format, binary64, prec, emax, low, up, down, unlike, round, div, fits, to_bits, of_bits, of_int}
use lib.Ieee.Fits.{and_l, and_r, down_pos, round-fits}
use lib.Ieee.Exact.{HasValue, round_exact}
use lib.Ieee.Nearest.{div_same}
use lib.Ieee.Bits.{of_bits-to_bits}
use Rattle.float.specs.Floats.{over, whole}

-- ---- two floats that fit and have one value are one
cross : (a c x dx y dy : ℕ) → 0 < c → x * c ≡ a * dx → y * c ≡ a * dy → x * dy ≡ y * dx
cross a c x dx y dy C p q =
    eq_of_mul-eq-mul_right c C (x * dy) (y * dx)
    (mul_right_comm x dy c ∙ ap (λ (z : ℕ). z * dy) p ∙ mul_right_comm a dx dy ∙ ap (λ (z : ℕ). z * dx) (sym q) ∙ mul_right_comm y c dx)

scaled : (x dx y dy p : ℕ) → x * dy ≡ y * dx → x * p * dy ≡ y * p * dx
scaled x dx y dy p e = mul_right_comm x p dy ∙ ap (λ (z : ℕ). z * p) e ∙ mul_right_comm y dx p

same_bits : (f : Format) (x y : Float) (s : Bool) (a c : ℕ) → 0 < c → HasValue x s a c → HasValue y s a c → to_bits f x ≡ to_bits f y
unfolding to_bits
same_bits f nan y s a c C v w = absurd v
same_bits f (inf t) y s a c C v w = absurd v
same_bits f (fin t m e) nan s a c C v w = absurd w
same_bits f (fin t m e) (inf u) s a c C v w = absurd w
same_bits f (fin t m e) (fin u n g) s a c C v w =
    let q = div_same (m * up e * 2 ^ low f) (down e) (n * up g * 2 ^ low f) (down g) (down_pos e) (down_pos g)
    (scaled (m * up e) (down e) (n * up g) (down g) (2 ^ low f) (cross a c (m * up e) (down e) (n * up g) (down g) C v.1 w.1)) in
    rw (v.0, w.0, q)

pub same_value : (f : Format) (x y : Float) (s : Bool) (a c : ℕ) → 0 < c → T (fits f x) → T (fits f y) → HasValue x s a c → HasValue y s a c → x ≡ y
same_value f x y s a c C p q v w = sym (of_bits-to_bits f x p) ∙ ap (of_bits f) (same_bits f x y s a c C v w) ∙ of_bits-to_bits f y q

-- ---- a float that fits is the rounding of its own value
module _ (f : Format) (s : Bool) (m : ℕ) (small : suc m < 2 ^ prec f) where
  up_exact : (k : ℕ) → suc m * 2 ^ k < 2 ^ suc (emax f) * 1 → HasValue (round f s (suc m * 2 ^ k) 1) s (suc m * 2 ^ k) 1
  up_exact k fine =
      let l = low f in
      let whole_part : suc m * 2 ^ (k + l) ≡ suc m * 2 ^ k * 2 ^ l = ap (λ (x : ℕ). suc m * x) (pow-add 2 k l) ∙ sym (mul_assoc (suc m) (2 ^ k) (2 ^ l)) in
      let below : suc m * 2 ^ k * 2 ^ l < 2 ^ (suc (emax f) + l) = shl_lt (suc (emax f)) l (subst (λ (x : ℕ). suc m * 2 ^ k < x) (mul-one (2 ^ suc (emax f))) fine) in
      round_exact f s (suc m * 2 ^ k) 1 (suc m) (k + l) (zero-lt-suc 0) small
      (subst (λ (x : ℕ). x < 2 ^ (l + suc (emax f))) (sym whole_part) (subst (λ (x : ℕ). suc m * 2 ^ k * 2 ^ l < 2 ^ x) (add_comm (suc (emax f)) l) below))
      (sym whole_part ∙ sym (mul-one (suc m * 2 ^ (k + l))))

  down_exact : (k : ℕ) → 2 ^ suc k ≤ 2 ^ low f → suc m * 1 < 2 ^ suc (emax f) * 2 ^ suc k → HasValue (round f s (suc m * 1) (2 ^ suc k)) s (suc m * 1) (2 ^ suc k)
  down_exact k deep fine = go (dec_le (suc k) (low f))
    where
      go : Dec (suc k ≤ low f) → HasValue (round f s (suc m * 1) (2 ^ suc k)) s (suc m * 1) (2 ^ suc k)
      go (no h) = absurd (lt_irrefl (2 ^ suc k) (le_trans (suc_of deep) (pow-lt (let w : low f < suc k = omega arith in w))))
        where
          suc_of : 2 ^ suc k ≤ 2 ^ low f → suc (2 ^ suc k) ≤ suc (2 ^ low f)
          suc_of q = omega arith
      go (yes h) =
          let l = low f in
          let j = l - suc k in
          let back : j + suc k ≡ l = omega arith in
          let whole_part : suc m * 2 ^ j * 2 ^ suc k ≡ suc m * 2 ^ l =
          mul_assoc (suc m) (2 ^ j) (2 ^ suc k) ∙ ap (λ (x : ℕ). suc m * x) (sym (pow-add 2 j (suc k)) ∙ ap (λ (x : ℕ). 2 ^ x) back) in
          let total : suc (emax f) + suc k + j ≡ l + suc (emax f) = omega arith in
          let below : suc m * 2 ^ j < 2 ^ (suc (emax f) + suc k + j) =
          shl_lt (suc (emax f) + suc k) j (subst (λ (x : ℕ). suc m < x) (sym (pow-add 2 (suc (emax f)) (suc k))) (subst (λ (x : ℕ). x < 2 ^ suc (emax f) * 2 ^ suc k) (mul-one (suc m)) fine)) in
          round_exact f s (suc m * 1) (2 ^ suc k) (suc m) j (pow_pos (suc k)) small
          (subst (λ (x : ℕ). suc m * 2 ^ j < 2 ^ x) total below)
          (ap (λ (x : ℕ). x * 2 ^ l) (mul-one (suc m)) ∙ sym whole_part)

-- a float that fits: how many digits it has, how small their last place, and how large it is
pub fits_parts : (f : Format) (s : Bool) (m : ℕ) (e : ℤ) → T (fits f (fin s (suc m) e)) → (suc m < 2 ^ prec f) × (down e ≤ 2 ^ low f) × (suc m * up e < 2 ^ suc (emax f) * down e)
unfolding fits
fits_parts f s m e h =
    (ltb→lt (suc m) (2 ^ prec f) (and_r A B (and_l (A && B) C (and_l (A && B && C) D h))), leb→le (down e) (2 ^ low f) (and_r (A && B) C (and_l (A && B && C) D h)), ltb→lt (suc m * up e) (2 ^ suc (emax f) * down e) (and_r (A && B && C) D h))
  where
    A : Bool
    A = eqb (suc m % 2) 1

    B : Bool
    B = ltb (suc m) (2 ^ prec f)

    C : Bool
    C = leb (down e) (2 ^ low f)

    D : Bool
    D = ltb (suc m * up e) (2 ^ suc (emax f) * down e)

own_exact : (f : Format) (s : Bool) (m : ℕ) (e : ℤ) → T (fits f (fin s m e)) → HasValue (round f s (m * up e) (down e)) s (m * up e) (down e)
own_exact f s zero e h =
    round_exact f s (zero * up e) (down e) 0 0 (down_pos e) (pow_pos (prec f)) (pow_pos (low f + suc (emax f)))
    (ap (λ (x : ℕ). x * 2 ^ low f) (zero-mul (up e)) ∙ zero-mul (2 ^ low f) ∙ sym (zero-mul (down e)))
own_exact f s (suc m) e h = let p = fits_parts f s m e h in go e p.0 p.1 p.2
  where
    go : (x : ℤ) → suc m < 2 ^ prec f → down x ≤ 2 ^ low f → suc m * up x < 2 ^ suc (emax f) * down x → HasValue (round f s (suc m * up x) (down x)) s (suc m * up x) (down x)
    go (pos k) small deep fine = up_exact f s m small k fine
    go (negsuc k) small deep fine = down_exact f s m small k deep fine

pub round_own : (f : Format) (s : Bool) (m : ℕ) (e : ℤ) → T (fits f (fin s m e)) → round f s (m * up e) (down e) ≡ fin s m e
round_own f s m e h =
    same_value f (round f s (m * up e) (down e)) (fin s m e) s (m * up e) (down e) (down_pos e) (round-fits f s (m * up e) (down e)) h (own_exact f s m e h) (refl, refl)

-- ---- over one
one : whole 1 ≡ fin false 1 (pos 0)
unfolding of_int round
one = refl

signed : (s : Bool) → unlike s false ≡ s
signed true = refl
signed false = refl

by_one : (x : Float) → T (fits binary64 x) → over x (fin false 1 (pos 0)) ≡ x
unfolding div
by_one nan h = refl
by_one (inf s) h = ap inf (signed s)
by_one (fin s m e) h =
    ap (λ (t : Bool). round binary64 t (m * up e * 1) (1 * 1 * down e)) (signed s)
    ∙ ap (λ (x : ℕ). round binary64 s x (1 * 1 * down e)) (mul-one (m * up e))
    ∙ ap (λ (x : ℕ). round binary64 s (m * up e) x) (one-mul (down e))
    ∙ round_own binary64 s m e h

pub over_one : (x : Float) → T (fits binary64 x) → over x (whole 1) ≡ x
over_one x h = ap (over x) one ∙ by_one x h
