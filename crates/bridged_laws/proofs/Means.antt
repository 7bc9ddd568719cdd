-- The mean width: an f64 within 0..gamma, so that the depths around it are known; and a number, where the tokens are finite. Assumes nothing.
use mathlib.Core.Path.{◌≡◌, refl, sym, ap, ◌∙◌}
use mathlib.Core.Bool.{Bool, true, false, ◌&&◌, beq, cond}
use Prim.Native.Nat.{ℕ, ◌+◌, ◌-◌, ◌*◌, ◌^◌, ◌≤◌, ◌<◌}
use native.Mathlib.Omega.{arith}
use borrow.Author.Tests.{ne_eqb}
use lib.Dec.{T, ltb}
use lib.IntN.{pos}
use lib.Ieee.{Float, nan, inf, fin, binary64, up, down, round, neg, sum, add, sub, div, unlike, lt, is_nan, fits, of_bits}
use lib.Ieee.Fits.{down_pos, cond-fits, sub-fits, of_int-fits}
use lib.Ieee.Exact.{HasValue}
use Rattle.float.specs.Floats.{less, over, whole, f0, f1, clamp_to, is_finite}
use Rattle.float.proofs.Classes.{clash, clear_no_nan}
use Rattle.float.proofs.Clamped.{clamp_nan, clamp_low, clamp_high}
use Rattle.float.proofs.Rounded.{round_clear}
use Rattle.numeral.proofs.Rounding.{round_neg}
use Rattle.verify_prices.specs.Price.{mean_width}
use Rattle.verify_prices.specs.Bridge.{foot_of, ceiling_of}
use Rattle.verify_prices.proofs.Counted.{whole_value}
use Rattle.gates_laws.proofs.Powers.{not_none}
use Rattle.gates_laws.proofs.Prices.{not_below_zero}
use Rattle.bridged_laws.proofs.Around.{Around, around}

zero_fits : T (fits binary64 f0)
unfolding fits of_bits
zero_fits = tt

mean_fits : (gamma n : ℕ) (t : Float) → T (fits binary64 (mean_width gamma n t))
unfolding clamp_to
mean_fits gamma n t =
    let x = less (over t (whole n)) f1 in
    let y = cond (lt x f0) f0 x in
    cond-fits binary64 (lt (whole gamma) y) (whole gamma) y (of_int-fits binary64 (pos gamma)) (cond-fits binary64 (lt x f0) f0 x zero_fits (sub-fits binary64 (over t (whole n)) f1))

pub mean_around : (gamma n : ℕ) (t : Float) → gamma ≤ 64 → is_nan (mean_width gamma n t) ≡ false
    → let w = mean_width gamma n t in Around gamma w (foot_of gamma w) (ceiling_of gamma w (foot_of gamma w))
mean_around gamma n t g k =
    around gamma (mean_width gamma n t) g (mean_fits gamma n t) k (clamp_low (less (over t (whole n)) f1) f0 (whole gamma) (not_below_zero gamma (omega arith))) (clamp_high (less (over t (whole n)) f1) f0 (whole gamma))

-- ---- of a finite number of tokens over some sequences it is a number
neg_number : (x : Float) → is_nan (neg x) ≡ is_nan x
unfolding neg is_nan
neg_number nan = refl
neg_number (inf s) = refl
neg_number (fin s m e) = refl

plain_number : (x y : ℕ) → is_nan (round binary64 false x y) ≡ false
plain_number x y = clear_no_nan (round binary64 false x y) (round_clear binary64 x y)

round_number : (s : Bool) (x y : ℕ) → is_nan (round binary64 s x y) ≡ false
round_number false x y = plain_number x y
round_number true x y = ap is_nan (sym (round_neg binary64 x y)) ∙ neg_number (round binary64 false x y) ∙ plain_number x y

over_number : (x y : Float) (k : ℕ) → is_finite x ≡ true → HasValue y false k 1 → 0 < k → is_nan (over x y) ≡ false
unfolding div is_finite
over_number nan y k f v K = clash f
over_number (inf s) y k f v K = clash f
over_number (fin s m e) nan k f v K = absurd v
over_number (fin s m e) (inf t) k f v K = absurd v
over_number (fin s m e) (fin t n d) k f v K = rw (ne_eqb n 0 (not_none n (up d) k (down d) K (down_pos d) v.1)) (round_number (unlike s t) (m * up e * down d) (n * up d * down e))

less_number : (x : Float) → is_nan x ≡ false → is_nan (less x f1) ≡ false
unfolding sub neg add sum of_bits is_nan
less_number nan h = h
less_number (inf s) h = refl
less_number (fin s m e) h =
    either (beq s true) _ _ (round_number s (m * up e * 1 + 1 * 1 * down e) (down e * 1))
    (either (ltb (m * up e * 1) (1 * 1 * down e)) _ _ (round_number true (1 * 1 * down e - m * up e * 1) (down e * 1)) (round_number (s && ltb (1 * 1 * down e) (m * up e * 1)) (m * up e * 1 - 1 * 1 * down e) (down e * 1)))
  where
    either : (b : Bool) (x y : Float) → is_nan x ≡ false → is_nan y ≡ false → is_nan (cond b x y) ≡ false
    either true x y p q = p
    either false x y p q = q

pub finite_mean : (gamma n : ℕ) (t : Float) → 0 < n → n < 2 ^ 53 → is_finite t ≡ true → is_nan (mean_width gamma n t) ≡ false
finite_mean gamma n t some few f =
    clamp_nan (less (over t (whole n)) f1) f0 (whole gamma) ∙ less_number (over t (whole n)) (over_number t (whole n) n f (whole_value n few) some)
