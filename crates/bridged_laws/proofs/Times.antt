-- With kv_delta 0 the price of a measured time is that time, to the last bit. Assumes nothing.
use mathlib.Core.Path.{◌≡◌, refl, ap, ◌∙◌, subst}
use mathlib.Core.Bool.{Bool, true, false, not}
use Prim.Native.Nat.{ℕ, ◌+◌, ◌*◌, ◌^◌, ◌≤◌}
use native.Mathlib.Nat.{mul-one, one-mul, mul-pos, mul_left_comm, zero-lt-suc}
use native.Mathlib.Omega.{arith}
use lib.Dec.{T}
use lib.IntN.{ℤ}
use lib.Ieee.{Float, nan, inf, fin, binary64, up, down, round, of_bits, add, sum, mul, lt, le, is_nan, fits}
use lib.Ieee.Fits.{down_pos}
use lib.Ieee.Order.{round_mono}
use Rattle.laws.proofs.Both.{both}
use Rattle.float.specs.Floats.{plus, times, f0, max_of, is_finite}
use Rattle.float.proofs.Classes.{clash, clear_no_nan}
use Rattle.float.proofs.Maximum.{max_first}
use Rattle.float.proofs.Rounded.{round_clear}
use Rattle.cost_rows.specs.Lawful.{largest, in_range}
use Rattle.step_times.specs.Prices.{quarter}
use Rattle.verify_prices.proofs.OverOne.{round_own}
use Rattle.gates_laws.proofs.Sizes.{sized_finite}
use Rattle.bridged_laws.proofs.Compared.{le_is}
use Rattle.bridged_laws.proofs.Tabled.{seconds_sized, holds}

fails : (b : Bool) → T (not b) → b ≡ false
fails true h = absurd h
fails false h = refl

same_sum : (m : ℕ) (e : ℤ) → T (fits binary64 (fin false m e)) → plus (fin false m e) f0 ≡ fin false m e
unfolding add sum of_bits
same_sum m e h =
    let a : m * up e * 1 + 0 * 1 * down e ≡ m * up e = omega arith in
    ap (λ (x : ℕ). round binary64 false x (down e * 1)) a ∙ ap (λ (x : ℕ). round binary64 false (m * up e) x) (mul-one (down e)) ∙ round_own binary64 false m e h

quarter_le : (m : ℕ) (e : ℤ) → T (le (times quarter (fin false m e)) (round binary64 false (m * up e) (down e)))
unfolding mul of_bits
quarter_le m e =
    let P = m * up e in
    let four : P * (4 * down e) ≡ 4 * (P * down e) = mul_left_comm P 4 (down e) in
    let one : 1 * 1 * P ≡ P = one-mul P in
    round_mono binary64 (1 * 1 * P) (4 * down e) P (down e) (mul-pos (zero-lt-suc 3) (down_pos e)) (down_pos e)
    (let z : 1 * 1 * P * down e ≤ P * (4 * down e) = omega (arith, four, ap (λ (x : ℕ). x * down e) one) in z)

quarter_number : (m : ℕ) (e : ℤ) → is_nan (times quarter (fin false m e)) ≡ false
unfolding mul of_bits
quarter_number m e = clear_no_nan _ (round_clear binary64 (1 * 1 * (m * up e)) (4 * down e))

fin_number : (s : Bool) (m : ℕ) (e : ℤ) → is_nan (fin s m e) ≡ false
unfolding is_nan
fin_number s m e = refl

one_time : (m : ℕ) (e : ℤ) → fits binary64 (fin false m e) ≡ true → max_of (plus (fin false m e) f0) (times quarter (fin false m e)) ≡ fin false m e
one_time m e h =
    let x = fin false m e in
    let is = same_sum m e (holds (fits binary64 x) h) in
    let own : round binary64 false (m * up e) (down e) ≡ x = round_own binary64 false m e (holds (fits binary64 x) h) in
    let under : T (le (times quarter x) x) = subst (λ (y : Float). T (le (times quarter x) y)) own (quarter_le m e) in
    let number : is_nan x ≡ false = fin_number false m e in
    let not_more : lt x (times quarter x) ≡ false = fails (lt x (times quarter x)) (subst T (le_is (times quarter x) x (quarter_number m e) number) under) in
    ap (λ (y : Float). max_of y (times quarter x)) is ∙ max_first x (times quarter x) not_more number

time_alone : (x : Float) → is_finite x ≡ true → lt f0 x ≡ true → fits binary64 x ≡ true → max_of (plus x f0) (times quarter x) ≡ x
unfolding is_finite lt of_bits
time_alone nan k l h = clash k
time_alone (inf s) k l h = clash k
time_alone (fin true m e) k l h = clash l
time_alone (fin false m e) k l h = one_time m e h

first_of : (x : Float) → in_range x ≡ true → lt f0 x ≡ true
unfolding in_range
first_of x r = (both (lt f0 x) (le x largest) r).0

-- max(x + 0.0, 0.25 x) = x, for the seconds of a row, which an f64 holds
pub price_of_time : (x : Float) → in_range x ≡ true → fits binary64 x ≡ true → max_of (plus x f0) (times quarter x) ≡ x
price_of_time x r h = time_alone x (sized_finite (10 ^ 17) x (seconds_sized x r)) (first_of x r) h
