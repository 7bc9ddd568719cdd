-- The stall stays finite: after k changes it is at most 3,600 k. A sum of two values that are rounded once is at most the sum of their whole bounds, since that sum is held exactly and rounding keeps the order. Assumes nothing.
use mathlib.Core.Path.{◌≡◌, refl, sym, ap, ◌∙◌, subst}
use mathlib.Core.Bool.{Bool, true, false, not, ◌&&◌, ◌||◌, cond}
use mathlib.Core.List.{List, [], ◌∷◌}
use lib.ListN.{length}
use Prim.Native.Nat.{ℕ, zero, suc, ◌+◌, ◌-◌, ◌*◌, ◌/◌, ◌^◌, ◌≤◌, ◌<◌}
use native.Mathlib.Nat.{le_trans, le_of_eq, le_of_lt, zero-add, zero-lt-suc, mul-one, mul_comm, mul_assoc, mul_left_comm, mul_right_comm, add-mul, mul-le-mul_right, mul-pos, le_of_mul-le-mul_right}
use native.Mathlib.Omega.{arith}
use borrow.Author.Tests.{eq-eqb, ltb-false}
use lib.Dec.{T, eqb, ltb, ltb→lt, eqb→eq}
use lib.IntN.{pos, negsuc}
use lib.Ieee.{Float, nan, inf, fin, Format, prec, emax, low, up, down, size, odd, units, round, sum, add, mul, lt, eq, le, binary64, of_bits}
use lib.Ieee.Fits.{down_pos, round_is}
use lib.Ieee.Nearest.{closest}
use lib.Ieee.Exact.{HasValue}
use lib.Ieee.Order.{round_mono}
use Rattle.decimals.proofs.Rounding.{whole_held}
use Rattle.float.specs.Floats.{plus, times, f0, is_finite, is_clear}
use Rattle.float.specs.Range.{in_range}
use Rattle.float.proofs.Classes.{clash}
use Rattle.refusals.specs.declared.Refusal.TheVariants.{Setting}
use Rattle.refusals.specs.Refusals.{passed_if, number_in}
use Rattle.switch_settings.specs.Switch.{most_cost, switch_refusal}
use Rattle.switch_settings.specs.declared.SwitchConstraints.{SwitchConstraints}
use Rattle.width_walk.specs.Walk.{walk_candidates}
use Rattle.switching.specs.Deciding.{milli, is_due, counted, walked, candidates_of, decided}
use Rattle.switching.specs.declared.Switching.{Switching}

-- finite, with a clear sign bit, and at most the whole number n
abbrev pub UpTo : ℕ → Float → Type 0
UpTo n nan = ⊥
UpTo n (inf s) = ⊥
UpTo n (fin true m e) = ⊥
UpTo n (fin false m e) = m * up e ≤ n * down e

pub up_to_finite : (n : ℕ) (x : Float) → UpTo n x → (is_finite x ≡ true) × (is_clear x ≡ true)
unfolding is_finite is_clear
up_to_finite n nan h = absurd h
up_to_finite n (inf s) h = absurd h
up_to_finite n (fin true m e) h = absurd h
up_to_finite n (fin false m e) h = (refl, refl)

pub zero_up_to : UpTo 0 f0
unfolding of_bits
zero_up_to = omega arith

-- ---- a rounded fraction that is no larger than one that rounds to n

-- neither a NaN nor a set sign
abbrev Upper : Float → Type 0
Upper nan = ⊥
Upper (inf s) = s ≡ false
Upper (fin s m e) = s ≡ false

units_upper : (f : Format) (q k : ℕ) → Upper (units f false q k)
unfolding units odd
units_upper f q k = go (ltb (q * 2 ^ k) (2 ^ (low f + suc (emax f))))
  where
    held : (n : ℕ) → Upper (odd (suc (prec f)) false n k (low f))
    held zero = refl
    held (suc n) = refl

    go : (b : Bool) → Upper (cond b (odd (suc (prec f)) false q k (low f)) (inf false))
    go true = held q
    go false = refl

round_upper : (f : Format) (a b : ℕ) → Upper (round f false a b)
round_upper f a b =
    let n = a * 2 ^ low f in
    let k = size (n / b) - prec f in
    subst Upper (sym (round_is f false a b)) (units_upper f (closest n (b * 2 ^ k)) k)

not_above : (a b : ℕ) (z : Bool) → T (ltb a b || (eqb a b && z)) → a ≤ b
not_above a b z t = go (ltb a b) (eqb a b) refl refl t
  where
    go : (p q : Bool) → ltb a b ≡ p → eqb a b ≡ q → T (p || (q && z)) → a ≤ b
    go true q e f h = le_of_lt (ltb→lt a b (subst T (sym e) tt))
    go false true e f h = le_of_eq (eqb→eq a b (subst T (sym f) tt))
    go false false e f h = absurd h

below_held : (x y : Float) (n : ℕ) → Upper x → HasValue y false n 1 → T (le x y) → UpTo n x
unfolding le lt eq
below_held nan y n u v h = absurd u
below_held (inf true) y n u v h = clash (sym u)
below_held (inf false) nan n u v h = absurd h
below_held (inf false) (inf t) n u v h = absurd v
below_held (inf false) (fin t k d) n u v h = absurd h
below_held (fin true m e) y n u v h = clash (sym u)
below_held (fin false m e) nan n u v h = absurd h
below_held (fin false m e) (inf t) n u v h = absurd v
below_held (fin false m e) (fin true k d) n u v h = clash (sym v.0)
below_held (fin false m e) (fin false k d) n u v h =
    let c : m * up e * down d ≤ k * up d * down e = not_above (m * up e * down d) (k * up d * down e) true h in
    let w : k * up d ≡ n * down d = sym (mul-one (k * up d)) ∙ v.1 in
    let z : m * up e * down d ≤ n * down e * down d = le_trans c (le_of_eq (ap (λ (x : ℕ). x * down e) w ∙ mul_right_comm n (down d) (down e))) in
    le_of_mul-le-mul_right z (down_pos d)

-- a / b is at most c / d, which rounds to n
pub rounded : (a b c d n : ℕ) → 0 < b → 0 < d → a * d ≤ c * b → HasValue (round binary64 false c d) false n 1 → UpTo n (round binary64 false a b)
rounded a b c d n B D h v = below_held (round binary64 false a b) (round binary64 false c d) n (round_upper binary64 a b) v (round_mono binary64 a b c d B D h)

-- ---- a sum
sum_fits : (a b p q e d : ℕ) → a ≤ p * e → b ≤ q * d → (a * d + b * e) * 1 ≤ (p + q) * (e * d)
sum_fits a b p q e d h k =
    let x : a * d ≤ p * (e * d) = le_trans (mul-le-mul_right d h) (le_of_eq (mul_assoc p e d)) in
    let y : b * e ≤ q * (e * d) = le_trans (mul-le-mul_right e k) (le_of_eq (mul_assoc q d e ∙ ap (λ (z : ℕ). q * z) (mul_comm d e))) in
    let m : (p + q) * (e * d) ≡ p * (e * d) + q * (e * d) = add-mul p q (e * d) in
    omega arith

pub sum_up_to : (p q : ℕ) (x y : Float) → p + q < 2 ^ 53 → UpTo p x → UpTo q y → UpTo (p + q) (plus x y)
unfolding add sum
sum_up_to p q nan y s h k = absurd h
sum_up_to p q (inf t) y s h k = absurd h
sum_up_to p q (fin true m e) y s h k = absurd h
sum_up_to p q (fin false m e) nan s h k = absurd k
sum_up_to p q (fin false m e) (inf t) s h k = absurd k
sum_up_to p q (fin false m e) (fin true n d) s h k = absurd k
sum_up_to p q (fin false m e) (fin false n d) s h k =
    rounded (m * up e * down d + n * up d * down e) (down e * down d) (p + q) 1 (p + q) (mul-pos (down_pos e) (down_pos d)) (zero-lt-suc 0)
    (sum_fits (m * up e) (n * up d) p q (down e) (down d) h k) (whole_held binary64 (p + q) s)

-- ---- what a change costs: 1e-3 times at most 3,600,000 is at most 3,600, though 1e-3 is held a little above a thousandth

-- 1e-3 is 1152921504606847 / 2 ^ 60
milli_is : milli ≡ fin false 1152921504606847 (negsuc 59)
unfolding of_bits
milli_is = refl

hour_is : most_cost ≡ fin false 28125 (pos 7)
unfolding of_bits
hour_is = refl

-- 3,600,000 of them round to 3,600
hour_rounds : HasValue (round binary64 false (1152921504606847 * 3600000) (2 ^ 60)) false 3600 1
unfolding round
hour_rounds = (refl, refl)

cost_fits : (m h n d b : ℕ) → n ≤ h * d → m * 1 * n * b ≤ m * h * (b * d)
cost_fits m h n d b k =
    let l : m * 1 * n * b ≡ n * (m * b) = ap (λ (z : ℕ). z * n * b) (mul-one m) ∙ simp (mul_assoc, mul_left_comm) in
    let r : h * d * (m * b) ≡ m * h * (b * d) = simp (mul_assoc, mul_comm, mul_left_comm) in
    le_trans (le_of_eq l) (le_trans (mul-le-mul_right (m * b) k) (le_of_eq r))

product_up_to : (x : Float) → UpTo 3600000 x → UpTo 3600 (mul binary64 (fin false 1152921504606847 (negsuc 59)) x)
unfolding mul
product_up_to nan h = absurd h
product_up_to (inf s) h = absurd h
product_up_to (fin true n d) h = absurd h
product_up_to (fin false n d) h =
    rounded (1152921504606847 * 1 * (n * up d)) (2 ^ 60 * down d) (1152921504606847 * 3600000) (2 ^ 60) 3600
    (mul-pos (down_pos (negsuc 59)) (down_pos d)) (down_pos (negsuc 59)) (cost_fits 1152921504606847 3600000 (n * up d) (down d) (2 ^ 60) h) hour_rounds

cost_up_to : (x : Float) → is_clear x ≡ true → lt (fin false 28125 (pos 7)) x ≡ false → UpTo 3600000 x
unfolding is_clear lt
cost_up_to nan c h = clash c
cost_up_to (inf true) c h = clash c
cost_up_to (inf false) c h = clash (sym h)
cost_up_to (fin true n d) c h = clash c
cost_up_to (fin false n d) c h = let k = ltb-false (28125 * 2 ^ 7 * down d) (n * up d * 1) h in omega arith

pub change_up_to : (constraints : SwitchConstraints) → switch_refusal constraints ≡ 0 → UpTo 3600 (times milli constraints.cost_ms)
unfolding in_range
change_up_to constraints e = go (is_clear x) (lt x f0) (lt most_cost x) refl refl e
  where
    x : Float
    x = constraints.cost_ms

    go : (a b c : Bool) → is_clear x ≡ a → lt most_cost x ≡ c → ◌≡◌ {A = ℕ} (number_in (passed_if (a && (not b && not c)) Setting)) 0 → UpTo 3600 (times milli x)
    go true false false p q z = subst (λ (y : Float). UpTo 3600 (times y x)) (sym milli_is) (product_up_to x (cost_up_to x p (ap (λ (y : Float). lt y x) (sym hour_is) ∙ q)))
    go true false true p q z = absurd (let w : ⊥ = omega arith in w)
    go true true c p q z = absurd (let w : ⊥ = omega arith in w)
    go false b c p q z = absurd (let w : ⊥ = omega arith in w)

-- ---- one decision, and how many changes it makes
abbrev pub changes_of : Switching → Switching → ℕ
changes_of s t = cond (eqb t.width s.width) 0 1

pub stall_most : (s : Switching) (curve : List Float) (target : ℕ) (constraints : SwitchConstraints) (k : ℕ) → switch_refusal constraints ≡ 0 → 3600 * k + 3600 < 2 ^ 53 → UpTo (3600 * k) s.stall
    → UpTo (3600 * (k + changes_of s (decided s curve target constraints))) (decided s curve target constraints).stall
stall_most s curve target constraints k e h u = go (is_due constraints (s.rounds + 1))
  where
    w : ℕ
    w = walk_candidates (candidates_of curve) s.width target constraints.max_step

    same : 3600 * (k + 0) ≡ 3600 * k
    same = omega arith

    more : 3600 * (k + 1) ≡ 3600 * k + 3600
    more = omega arith

    moved : (z : Bool) → UpTo (3600 * (k + cond z 0 1)) (cond z s.stall (plus s.stall (times milli constraints.cost_ms)))
    moved true = rw same u
    moved false = rw more (sum_up_to (3600 * k) 3600 s.stall (times milli constraints.cost_ms) h u (change_up_to constraints e))

    go : (b : Bool) → UpTo (3600 * (k + changes_of s (cond b (walked (counted s) (candidates_of curve) target constraints) (counted s)))) (cond b (walked (counted s) (candidates_of curve) target constraints) (counted s)).stall
    go true = moved (eqb w s.width)
    go false = rw (eq-eqb s.width s.width refl, same) u

-- ---- a run of decisions
pub record Asked : Type 0 where
  pub curve : List Float
  pub target : ℕ
  pub constraints : SwitchConstraints

abbrev step : Switching → Asked → Switching
step s a = decided s a.curve a.target a.constraints

abbrev pub after : Switching → List Asked → Switching
after s [] = s
after s (a ∷ asks) = after (step s a) asks

-- how many of them changed the width
abbrev pub changes_in : Switching → List Asked → ℕ
changes_in s [] = 0
changes_in s (a ∷ asks) = changes_of s (step s a) + changes_in (step s a) asks

abbrev pub AllJudged : List Asked → Type 0
AllJudged [] = Unit
AllJudged (a ∷ asks) = (switch_refusal a.constraints ≡ 0) × AllJudged asks

few : (s t : Switching) → changes_of s t ≤ 1
few s t = go (eqb t.width s.width)
  where
    go : (b : Bool) → cond b 0 1 ≤ 1
    go true = omega arith
    go false = omega arith

-- from a stall of at most 3,600 k on, every change adds at most 3,600
pub stall_after : (s : Switching) (asks : List Asked) (k : ℕ) → AllJudged asks → 3600 * (k + length asks) < 2 ^ 53 → UpTo (3600 * k) s.stall → UpTo (3600 * (k + changes_in s asks)) (after s asks).stall
stall_after s [] k j h u = let e : k + 0 ≡ k = omega arith in rw e u
stall_after s (a ∷ asks) k j h u =
    let t = step s a in
    let c : changes_of s t ≤ 1 = few s t in
    let e : k + (changes_of s t + changes_in t asks) ≡ k + changes_of s t + changes_in t asks = omega arith in
    rw e (stall_after t asks (k + changes_of s t) j.1 (omega arith) (stall_most s a.curve a.target a.constraints k j.0 (omega arith) u))

-- after a first decision, or after collecting, the stall is at most 3,600 for each change since, and so it is finite
pub stall_since : (s : Switching) (asks : List Asked) → s.stall ≡ f0 → AllJudged asks → 3600 * length asks < 2 ^ 53 → UpTo (3600 * changes_in s asks) (after s asks).stall
stall_since s asks z j h =
    subst (λ (n : ℕ). UpTo (3600 * n) (after s asks).stall) (zero-add (changes_in s asks)) (stall_after s asks 0 j (omega arith) (subst (UpTo 0) (sym z) zero_up_to))
