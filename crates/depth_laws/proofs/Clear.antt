-- Operations on floats whose sign bit is clear and that are no NaN give such floats again. Assumes nothing.
use mathlib.Core.Path.{◌≡◌, refl, sym, ◌∙◌, ap}
use mathlib.Core.Bool.{Bool, true, false, not, cond}
use mathlib.Core.Logic.{⊎_elim}
use Prim.Native.Nat.{ℕ, ◌+◌, ◌-◌, ◌*◌, ◌≤◌, ◌<◌}
use native.Mathlib.Nat.{mul-pos, zero-mul}
use native.Mathlib.Omega.{arith}
use lib.Dec.{T, ltb, eqb, ltb→lt, lt→ltb}
use lib.IntN.{ℤ}
use lib.Ieee.{Float, nan, inf, fin, Format, binary64, up, down, round, sum, add, mul, div, lt, is_nan, of_int, of_bits, neg}
use lib.Ieee.Fits.{up_pos, down_pos}
use lib.Ieee.Positive.{positive, first_pos}
use borrow.Author.Tests.{ltb-false, lt-ltb, le-ltb, ne_eqb}
use Rattle.float.proofs.Rounded.{round_clear}
use Rattle.float.specs.Floats.{f0, is_clear, is_finite, max_of, whole}
use Rattle.float.proofs.Maximum.{max_one}
use Rattle.depths.specs.Goodput.{tiny, least, goodput_of}
use Rattle.float.proofs.Classes.{clash}

pub whole_clear : (n : ℕ) → is_clear (whole n) ≡ true
unfolding of_int
whole_clear n = round_clear binary64 n 1

pub add_clear : (f : Format) (x y : Float) → is_clear x ≡ true → is_clear y ≡ true → is_clear (add f x y) ≡ true
unfolding add sum is_clear
add_clear f nan y h k = h
add_clear f (inf true) y h k = clash h
add_clear f (inf false) nan h k = k
add_clear f (inf false) (inf true) h k = clash k
add_clear f (inf false) (inf false) h k = refl
add_clear f (inf false) (fin t n d) h k = refl
add_clear f (fin true m e) y h k = clash h
add_clear f (fin false m e) nan h k = k
add_clear f (fin false m e) (inf t) h k = k
add_clear f (fin false m e) (fin true n d) h k = clash k
add_clear f (fin false m e) (fin false n d) h k = round_clear f _ _

-- a finite number above zero
div_clear : (f : Format) (x y : Float) → is_clear x ≡ true → T (positive y) → is_clear (div f x y) ≡ true
unfolding div is_clear
div_clear f nan y h k = clash h
div_clear f (inf true) y h k = clash h
div_clear f (inf false) nan h k = absurd k
div_clear f (inf false) (inf t) h k = absurd k
div_clear f (inf false) (fin true n d) h k = absurd k
div_clear f (inf false) (fin false n d) h k = refl
div_clear f (fin true m e) y h k = clash h
div_clear f (fin false m e) nan h k = absurd k
div_clear f (fin false m e) (inf t) h k = absurd k
div_clear f (fin false m e) (fin true n d) h k = absurd k
div_clear f (fin false m e) (fin false n d) h k =
    let nz : eqb n 0 ≡ false = ne_eqb n 0 (λ z. let p : 0 < n = ltb→lt 0 n k in omega arith) in
    rw nz (round_clear f _ _)

not_zero : (m n : ℕ) (e d : ℤ) → T (ltb 0 n) → ltb (m * up e * down d) (n * up d * down e) ≡ false → T (ltb 0 m)
not_zero m n e d p t =
    let b : 0 < n * up d * down e = mul-pos (mul-pos (ltb→lt 0 n p) (up_pos d)) (down_pos e) in
    let c : n * up d * down e ≤ m * up e * down d = ltb-false (m * up e * down d) (n * up d * down e) t in
    lt→ltb 0 m (first_pos m (up e) (first_pos (m * up e) (down d) (omega arith)))

-- a number whose sign bit is set is below one above zero
below_positive : (m n : ℕ) (e d : ℤ) → T (ltb 0 n) → ltb 0 (m * up e * down d + n * up d * down e) ≡ true
below_positive m n e d p =
    let b : 0 < n * up d * down e = mul-pos (mul-pos (ltb→lt 0 n p) (up_pos d)) (down_pos e) in
    lt-ltb 0 (m * up e * down d + n * up d * down e) (omega arith)

-- the larger of a finite number and of one above zero
max_positive : (c y : Float) → is_finite c ≡ true → T (positive y) → T (positive (max_of c y))
unfolding max_of is_finite lt is_nan
max_positive nan y k p = clash k
max_positive (inf s) y k p = clash k
max_positive (fin s m e) nan k p = absurd p
max_positive (fin s m e) (inf t) k p = absurd p
max_positive (fin s m e) (fin true n d) k p = absurd p
max_positive (fin true m e) (fin false n d) k p = rw (below_positive m n e d p) p
max_positive (fin false m e) (fin false n d) k p = go (lt (fin false m e) (fin false n d)) refl
  where
    go : (b : Bool) → lt (fin false m e) (fin false n d) ≡ b → T (positive (cond b (fin false n d) (fin false m e)))
    go true t = p
    go false t = not_zero m n e d p t

tiny_positive : T (positive tiny)
unfolding of_bits
tiny_positive = tt

-- goodput, where the cost is finite
pub goodput_clear : (n : ℕ) (e c : Float) → is_clear e ≡ true → is_finite c ≡ true → is_clear (goodput_of n e c) ≡ true
goodput_clear n e c h l =
    div_clear binary64 (add binary64 e (whole n)) (max_of c tiny) (add_clear binary64 e (whole n) h (whole_clear n)) (max_positive c tiny l tiny_positive)

-- a number whose sign bit is clear is above one whose sign bit is set and that is not zero
negative_below : (m : ℕ) (e : ℤ) (x : Float) → T (ltb 0 m) → is_clear x ≡ true → lt (fin true m e) x ≡ true
unfolding lt is_clear
negative_below m e nan p h = h
negative_below m e (inf t) p h = h
negative_below m e (fin true n d) p h = clash h
negative_below m e (fin false n d) p h =
    let b : 0 < m * up e * down d = mul-pos (mul-pos (ltb→lt 0 m p) (up_pos e)) (down_pos d) in
    lt-ltb 0 (m * up e * down d + n * up d * down e) (omega arith)

pub above_least : (x : Float) → is_clear x ≡ true → lt least x ≡ true
unfolding neg of_bits
above_least x h = negative_below _ _ x tt h

-- ---- floats without a sign: clear ones, and a NaN

unfoldable pub no_sign : Float → Bool
no_sign nan = true
no_sign (inf s) = not s
no_sign (fin s m e) = not s

pub clear_no_sign : (x : Float) → is_clear x ≡ true → no_sign x ≡ true
unfolding is_clear no_sign
clear_no_sign nan h = refl
clear_no_sign (inf s) h = h
clear_no_sign (fin s m e) h = h

round_no_sign : (f : Format) (a c : ℕ) → no_sign (round f false a c) ≡ true
round_no_sign f a c = clear_no_sign _ (round_clear f a c)

pub add_no_sign : (f : Format) (x y : Float) → no_sign x ≡ true → no_sign y ≡ true → no_sign (add f x y) ≡ true
unfolding add sum no_sign
add_no_sign f nan y h k = refl
add_no_sign f (inf true) y h k = clash h
add_no_sign f (inf false) nan h k = refl
add_no_sign f (inf false) (inf true) h k = clash k
add_no_sign f (inf false) (inf false) h k = refl
add_no_sign f (inf false) (fin t n d) h k = refl
add_no_sign f (fin true m e) y h k = clash h
add_no_sign f (fin false m e) nan h k = refl
add_no_sign f (fin false m e) (inf t) h k = k
add_no_sign f (fin false m e) (fin true n d) h k = clash k
add_no_sign f (fin false m e) (fin false n d) h k = round_no_sign f _ _

or_nan : (b : Bool) → no_sign (cond b nan (inf false)) ≡ true
unfolding no_sign
or_nan true = refl
or_nan false = refl

pub mul_no_sign : (f : Format) (x y : Float) → no_sign x ≡ true → no_sign y ≡ true → no_sign (mul f x y) ≡ true
unfolding mul no_sign
mul_no_sign f nan y h k = refl
mul_no_sign f (inf true) y h k = clash h
mul_no_sign f (inf false) nan h k = refl
mul_no_sign f (inf false) (inf true) h k = clash k
mul_no_sign f (inf false) (inf false) h k = refl
mul_no_sign f (inf false) (fin true n d) h k = clash k
mul_no_sign f (inf false) (fin false n d) h k = or_nan (eqb n 0)
mul_no_sign f (fin true m e) y h k = clash h
mul_no_sign f (fin false m e) nan h k = refl
mul_no_sign f (fin false m e) (inf true) h k = clash k
mul_no_sign f (fin false m e) (inf false) h k = or_nan (eqb m 0)
mul_no_sign f (fin false m e) (fin true n d) h k = clash k
mul_no_sign f (fin false m e) (fin false n d) h k = round_no_sign f _ _

either : (b c : Bool) (x : Float) → no_sign x ≡ true → no_sign (cond b (cond c nan (inf false)) x) ≡ true
either true c x h = or_nan c
either false c x h = h

pub div_no_sign : (f : Format) (x y : Float) → no_sign x ≡ true → no_sign y ≡ true → no_sign (div f x y) ≡ true
unfolding div no_sign
div_no_sign f nan y h k = refl
div_no_sign f (inf true) y h k = clash h
div_no_sign f (inf false) nan h k = refl
div_no_sign f (inf false) (inf t) h k = refl
div_no_sign f (inf false) (fin true n d) h k = clash k
div_no_sign f (inf false) (fin false n d) h k = refl
div_no_sign f (fin true m e) y h k = clash h
div_no_sign f (fin false m e) nan h k = refl
div_no_sign f (fin false m e) (inf true) h k = clash k
div_no_sign f (fin false m e) (inf false) h k = refl
div_no_sign f (fin false m e) (fin true n d) h k = clash k
div_no_sign f (fin false m e) (fin false n d) h k = either (eqb n 0) (eqb m 0) _ (round_no_sign f _ _)

pub max_no_sign : (x y : Float) → no_sign x ≡ true → no_sign y ≡ true → no_sign (max_of x y) ≡ true
max_no_sign x y h k = ⊎_elim (λ (e : max_of x y ≡ x). ap no_sign e ∙ h) (λ (e : max_of x y ≡ y). ap no_sign e ∙ k) (max_one x y)

-- ---- a clear float and a survival, which may be minus zero, add up to a clear one

pub left_zero : (a b : ℕ) → a ≡ 0 → a * b ≡ 0
left_zero a b e = ap (λ (x : ℕ). x * b) e ∙ zero-mul b

none_below : (d u v : ℕ) → ltb 0 (u * 1 + 0 * 1 * v) ≡ false → u ≡ 0
none_below d u v h = let k : u * 1 + 0 * 1 * v ≤ 0 = ltb-false 0 (u * 1 + 0 * 1 * v) h in omega arith

take_away : (f : Format) (a b c : ℕ) → b ≡ 0 → is_clear (cond (ltb a b) (round f true (b - a) c) (round f false (a - b) c)) ≡ true
take_away f a b c e = rw (e, le-ltb a 0 (omega arith)) (round_clear f (a - 0) c)

pub add_survival : (x y : Float) → is_clear x ≡ true → lt y f0 ≡ false → is_nan y ≡ false → is_clear (add binary64 x y) ≡ true
unfolding add sum is_clear is_nan lt of_bits
add_survival nan y h k o = h
add_survival (inf true) y h k o = clash h
add_survival (inf false) nan h k o = clash (sym o)
add_survival (inf false) (inf true) h k o = clash (sym k)
add_survival (inf false) (inf false) h k o = refl
add_survival (inf false) (fin t n d) h k o = refl
add_survival (fin true m e) y h k o = clash h
add_survival (fin false m e) nan h k o = clash (sym o)
add_survival (fin false m e) (inf true) h k o = clash (sym k)
add_survival (fin false m e) (inf false) h k o = refl
add_survival (fin false m e) (fin false n d) h k o = round_clear binary64 (m * up e * down d + n * up d * down e) (down e * down d)
add_survival (fin false m e) (fin true n d) h k o =
    take_away binary64 (m * up e * down d) (n * up d * down e) (down e * down d) (left_zero (n * up d) (down e) (none_below n (n * up d) (down d) k))
