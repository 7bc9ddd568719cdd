-- The seconds of a block head that passed its judge, at rates that passed theirs, are finite and at most 2^91. Assumes nothing.
use mathlib.Core.Path.{◌≡◌, refl, sym, ap, ◌∙◌, subst}
use mathlib.Core.Logic.{⊎_elim}
use mathlib.Core.Bool.{Bool, true, false, cond}
use Prim.Native.Nat.{ℕ, ◌+◌, ◌*◌, ◌^◌, ◌≤◌, ◌<◌}
use native.Mathlib.Nat.{mul-pos, mul_comm, mul_assoc, mul-le-mul, le_trans, le_of_eq, zero-mul}
use native.Mathlib.Omega.{arith}
use borrow.Author.Tests.{ne_eqb, ltb-false, leb-true}
use lib.Dec.{eqb}
use lib.Ieee.{Float, nan, inf, fin, up, down, unlike, div, lt, is_nan, of_bits}
use lib.Ieee.Fits.{down_pos}
use lib.Ieee.Exact.{HasValue}
use Rattle.laws.proofs.Both.{both}
use Rattle.float.specs.Floats.{times, over, whole, f0, f1, f2, max_of, is_finite}
use Rattle.float.specs.Range.{in_range}
use Rattle.float.proofs.Classes.{clash}
use Rattle.float.proofs.Ranges.{range_no_nan, range_low, range_high, range_finite}
use Rattle.float.proofs.Maximum.{max_one}
use Rattle.speculative.specs.Drafter.{drafter_seconds, block_seconds, is_count, is_params, is_drafter, is_streamed, quintillion, most_count}
use Rattle.speculative.specs.declared.drafter.Rates.{Rates}
use Rattle.speculative.specs.declared.drafter.DrafterCost.TheVariants.{BlockParallel}
use Rattle.gates_laws.proofs.Sizes.{sized_more, whole_sized}
use Rattle.gates_laws.proofs.Powers.{Within, within_more, within_times, round_within}
use Rattle.gates_laws.proofs.Prices.{between_sized}

-- ---- a quotient by one or more is no larger
some_there : (k u e : ℕ) → 0 < k * u * e → k ≡ 0 → ⊥
some_there k u e h z = let w : k * u * e ≡ 0 = ap (λ (x : ℕ). x * u * e) z ∙ ap (λ (x : ℕ). x * e) (zero-mul u) ∙ zero-mul e in omega (arith, w)

within_over_one : (j : ℕ) (x y : Float) → j ≤ 1023 → is_nan y ≡ false → lt y f1 ≡ false → is_finite y ≡ true → Within j x → Within j (over x y)
unfolding div is_nan lt is_finite of_bits
within_over_one j nan y h n l f p = absurd p
within_over_one j (inf s) y h n l f p = absurd p
within_over_one j (fin s m e) nan h n l f p = clash (sym n)
within_over_one j (fin s m e) (inf t) h n l f p = clash f
within_over_one j (fin s m e) (fin true k d) h n l f p =
    let z = ltb-false 0 (k * up d * 1 + 1 * 1 * down d) l in
    absurd (omega (arith, z, down_pos d))
within_over_one j (fin s m e) (fin false k d) h n l f p =
    let one : down d ≤ k * up d = let z = ltb-false (k * up d * 1) (1 * 1 * down d) l in omega (arith, z) in
    let most : m * up e * down d ≤ 2 ^ j * (k * up d * down e) =
    le_trans (mul-le-mul p one) (le_of_eq (mul_assoc (2 ^ j) (down e) (k * up d) ∙ ap (λ (z : ℕ). 2 ^ j * z) (mul_comm (down e) (k * up d)))) in
    let some : 0 < k * up d * down e = mul-pos (le_trans (down_pos d) one) (down_pos e) in
    rw (ne_eqb k 0 (some_there k (up d) (down e) some)) (round_within j (unlike s false) (m * up e * down d) (k * up d * down e) h some most)

-- ---- the numbers that a head is asked with
quintillion_held : HasValue quintillion false (10 ^ 18) 1
unfolding of_bits
quintillion_held = (refl, refl)

quintillion_finite : is_finite quintillion ≡ true
unfolding is_finite of_bits
quintillion_finite = refl

two_within : Within 1 f2
unfolding of_bits
two_within = let l : 1 * 2 ≤ 2 * 1 = omega arith in l

zero_within : Within 0 f0
unfolding of_bits
zero_within = let l : 0 * 1 ≤ 1 * 1 = omega arith in l

params_within : (x : Float) → is_params x ≡ true → Within 60 x
params_within x r =
    sized_more (10 ^ 18) (2 ^ 60) x (omega arith)
    (between_sized x quintillion (10 ^ 18) quintillion_held (range_no_nan f0 quintillion x r) (range_low f0 quintillion x r) (range_high f0 quintillion x r))

whole_within : (j k : ℕ) → k ≤ 2 ^ j → k < 2 ^ 53 → Within j (whole k)
whole_within j k h l = sized_more k (2 ^ j) (whole k) h (whole_sized k l)

over_rate : (x y : Float) → in_range f1 quintillion y ≡ true → Within 91 x → Within 91 (over x y)
over_rate x y r p =
    within_over_one 91 x y (omega arith) (range_no_nan f1 quintillion y r) (range_low f1 quintillion y r) (range_finite f1 quintillion y quintillion_finite r) p

-- ---- one block
pub block_within : (params : Float) (block n depth : ℕ) (rates : Rates) (verify loaded : Float) → n ≤ 1024 → is_drafter (BlockParallel params block) ≡ true → is_streamed rates ≡ true
    → Within 91 (drafter_seconds (BlockParallel params block) depth n rates verify loaded)
unfolding block_seconds
block_within params block n depth rates verify loaded few judged streamed = go (eqb depth 0)
  where
    go : (b : Bool) → Within 91 (cond b f0 (block_seconds params block (whole n) rates))
    go true = within_more 0 91 f0 (omega arith) zero_within
    go false =
        let u = both (is_count block) (is_params params) judged in
        let r = both (in_range f1 quintillion rates.peak) (in_range f1 quintillion rates.bw) streamed in
        let count : block ≤ 1000000 = leb-true block most_count u.0 in
        let once = within_times 1 60 f2 params (omega arith) two_within (params_within params u.1) in
        let all = within_times 61 10 (times f2 params) (whole n) (omega arith) once (whole_within 10 n (omega arith) (omega arith)) in
        let work = within_times 71 20 (times (times f2 params) (whole n)) (whole block) (omega arith) all (whole_within 20 block (omega arith) (omega arith)) in
        let compute = over_rate (times (times (times f2 params) (whole n)) (whole block)) rates.peak r.0 work in
        let stream = over_rate (times f2 params) rates.bw r.1 (within_more 61 91 (times f2 params) (omega arith) once) in
        either (over (times (times (times f2 params) (whole n)) (whole block)) rates.peak) (over (times f2 params) rates.bw) compute stream
      where
        either : (x y : Float) → Within 91 x → Within 91 y → Within 91 (max_of x y)
        either x y p q = ⊎_elim (λ (e : max_of x y ≡ x). subst (Within 91) (sym e) p) (λ (e : max_of x y ≡ y). subst (Within 91) (sym e) q) (max_one x y)
