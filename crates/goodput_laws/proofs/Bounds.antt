-- What is expected of a batch lies within 0 to 65,536 and its sign bit is clear, so that the best depth takes it: of chains that are accepted, of a model, and of a bank.
-- A sum starts at 0.0, and 0.0 with minus zero added is 0.0, so that no sum of survivals is minus zero. Assumes nothing.
use mathlib.Core.Path.{◌≡◌, refl, sym, ap, ◌∙◌, subst}
use mathlib.Core.Bool.{true, false, cond, ◌&&◌}
use mathlib.Core.List.{List, [], ◌∷◌}
use Prim.Native.Nat.{ℕ, zero, suc, ◌+◌, ◌-◌, ◌*◌, ◌^◌, ◌≤◌, ◌<◌, min}
use native.Mathlib.Nat.{le_trans, le_of_eq, zero-lt-suc, mul_assoc, mul_left_comm, mul-le-mul_right, mul-pos}
use native.Mathlib.Numerals.{add-one}
use native.Mathlib.Omega.{arith}
use borrow.Author.Tests.{ltb-false, le-ltb}
use lib.Dec.{ltb, leb}
use lib.IntN.{ℤ, pos}
use lib.ListN.{length, get_or, take, drop, replicate, length-take}
use lib.Seq.{get_or-take}
use lib.Ieee.{Float, nan, inf, fin, binary64, up, down, round, sum, add, mul, lt, is_nan, of_bits, of_int}
use lib.Ieee.Fits.{down_pos}
use Rattle.decimals.proofs.Rounding.{whole_held}
use Rattle.depth_laws.proofs.Clear.{left_zero}
use Rattle.laws.proofs.Both.{both}
use Rattle.float.specs.Floats.{plus, times, f0, f1, whole, is_clear}
use Rattle.float.proofs.Classes.{clash, not_negative}
use Rattle.float.proofs.Ranges.{in_range_lem, range_clear, range_high, signed_no_nan, signed_low, signed_high}
use Rattle.acceptance.specs.Acceptance.{a_d, model_refusal, product_to, expected_to}
use Rattle.acceptance.specs.declared.AcceptanceModel.{AcceptanceModel}
use Rattle.acceptance.proofs.Judged.{value_in_range}
use Rattle.switching.proofs.Stalls.{UpTo, up_to_finite, zero_up_to, rounded, sum_up_to}
use Rattle.chains.specs.Tests.{all_of, is_survival, is_accepted, most_accepted, is_expected, most_expected}
use Rattle.chains.specs.Expected.{add_running, with_chain, sums_with, expected_over, are_chains}
use Rattle.budgets.specs.Budget.{values_from, model_values, bank_values}
use Rattle.chains.proofs.Tested.{all_says}
use Rattle.refusals.specs.Refusals.{Judgement, number_in}
use Rattle.refusals.proofs.First.{passed_is_zero}
use Rattle.goodput_judges.specs.Refusals.{chains_judged as judged_chains, model_values_judged, bank_values_judged, chains_refusal, model_values_refusal, bank_values_refusal}
use Rattle.goodput_judges.proofs.Passed.{chains_passed, model_passed, bank_passed}
use Rattle.goodput_laws.proofs.Survivals.{positive_low, negative_zero, times_low}

-- ---- bounds of floats
pub up_to_more : (p q : ℕ) (x : Float) → p ≤ q → UpTo p x → UpTo q x
up_to_more p q nan h k = absurd k
up_to_more p q (inf s) h k = absurd k
up_to_more p q (fin true m e) h k = absurd k
up_to_more p q (fin false m e) h k = le_trans k (mul-le-mul_right (down e) h)

whole_up_to : (n : ℕ) → n < 2 ^ 53 → UpTo n (whole n)
unfolding of_int
whole_up_to n h = rounded n 1 n 1 n (zero-lt-suc 0) (zero-lt-suc 0) (omega arith) (whole_held binary64 n h)

product_fits : (a b p q e d : ℕ) → a ≤ p * e → b ≤ q * d → a * b * 1 ≤ p * q * (e * d)
product_fits a b p q e d h k =
    let l : a * b ≤ p * e * (q * d) = times_low a b (p * e) (q * d) h k in
    let r : p * e * (q * d) ≡ p * q * (e * d) = simp (mul_assoc, mul_left_comm) in
    let m : a * b * 1 ≡ a * b = omega arith in
    le_trans (le_of_eq m) (le_trans l (le_of_eq r))

times_up_to : (p q : ℕ) (x y : Float) → p * q < 2 ^ 53 → UpTo p x → UpTo q y → UpTo (p * q) (times x y)
unfolding mul
times_up_to p q nan y s h k = absurd h
times_up_to p q (inf t) y s h k = absurd h
times_up_to p q (fin true m e) y s h k = absurd h
times_up_to p q (fin false m e) nan s h k = absurd k
times_up_to p q (fin false m e) (inf t) s h k = absurd k
times_up_to p q (fin false m e) (fin true n d) s h k = absurd k
times_up_to p q (fin false m e) (fin false n d) s h k =
    rounded (m * up e * (n * up d)) (down e * down d) (p * q) 1 (p * q) (mul-pos (down_pos e) (down_pos d)) (zero-lt-suc 0)
    (product_fits (m * up e) (n * up d) p q (down e) (down d) h k) (whole_held binary64 (p * q) s)

-- ---- a survival added, which may be minus zero
nothing_taken : (p a b c : ℕ) → 0 < c → b ≡ 0 → a ≤ p * c → p < 2 ^ 53 → UpTo p (cond (ltb a b) (round binary64 true (b - a) c) (round binary64 false (a - b) c))
nothing_taken p a b c C e h s =
    let k : (a - 0) * 1 ≤ p * c = omega arith in
    rw (e, le-ltb a 0 (omega arith)) (rounded (a - 0) c p 1 p C (zero-lt-suc 0) k (whole_held binary64 p s))

scaled : (a p e d : ℕ) → a ≤ p * e → a * d ≤ p * (e * d)
scaled a p e d h = le_trans (mul-le-mul_right d h) (le_of_eq (mul_assoc p e d))

zero_added : (p : ℕ) (x : Float) (n : ℕ) (d : ℤ) → p < 2 ^ 53 → UpTo p x → n * up d ≡ 0 → UpTo p (plus x (fin true n d))
unfolding add sum
zero_added p nan n d s h z = absurd h
zero_added p (inf t) n d s h z = absurd h
zero_added p (fin true m e) n d s h z = absurd h
zero_added p (fin false m e) n d s h z =
    nothing_taken p (m * up e * down d) (n * up d * down e) (down e * down d) (mul-pos (down_pos e) (down_pos d)) (left_zero (n * up d) (down e) z) (scaled (m * up e) p (down e) (down d) h) s

pub survival_added : (p : ℕ) (x y : Float) → p + 1 < 2 ^ 53 → UpTo p x → is_nan y ≡ false → lt y f0 ≡ false → lt f1 y ≡ false → UpTo (p + 1) (plus x y)
unfolding is_nan lt of_bits
survival_added p x nan s h o l u = clash (sym o)
survival_added p x (inf true) s h o l u = clash (sym l)
survival_added p x (inf false) s h o l u = clash (sym u)
survival_added p x (fin true n d) s h o l u = up_to_more p (p + 1) (plus x (fin true n d)) (omega arith) (zero_added p x n d (omega arith) h (negative_zero n d l))
survival_added p x (fin false n d) s h o l u = sum_up_to p 1 x (fin false n d) s h (let k = positive_low n d u in omega arith)

-- so a sum of survivals starts clear and stays so: 0.0 with minus zero added is 0.0
pub zero_and_minus_zero : plus f0 (of_bits binary64 0x8000_0000_0000_0000) ≡ f0
unfolding add sum round of_bits
zero_and_minus_zero = refl

-- ---- lists of them
abbrev pub AllUpTo : ℕ → List Float → Type 0
AllUpTo b [] = Unit
AllUpTo b (x ∷ xs) = UpTo b x × AllUpTo b xs

all_more : (p q : ℕ) (xs : List Float) → p ≤ q → AllUpTo p xs → AllUpTo q xs
all_more p q [] h k = tt
all_more p q (x ∷ xs) h k = (up_to_more p q x h k.0, all_more p q xs h k.1)

all_take : (b k : ℕ) (xs : List Float) → AllUpTo b xs → AllUpTo b (take k xs)
all_take b zero xs h = tt
all_take b (suc k) [] h = tt
all_take b (suc k) (x ∷ xs) h = (h.0, all_take b k xs h.1)

pub all_zeros : (k : ℕ) → AllUpTo 0 (replicate k f0)
all_zeros zero = tt
all_zeros (suc k) = (zero_up_to, all_zeros k)

-- ---- the sums over chains: each chain adds at most 64 to each
pub running_up_to : (b d : ℕ) (acc : Float) (chain sums : List Float) → UpTo d acc → all_of is_survival chain ≡ true → d + length chain ≤ 64 → b + 64 < 2 ^ 53 → AllUpTo b sums
    → AllUpTo (b + 64) (add_running acc chain sums)
unfolding add_running all_of
running_up_to b d acc [] sums a c l s h = all_more b (b + 64) sums (omega arith) h
running_up_to b d acc (x ∷ chain) [] a c l s h = tt
running_up_to b d acc (x ∷ chain) (e ∷ sums) a c l s h =
    let u = both (is_survival x) (all_of is_survival chain) c in
    let v : UpTo (d + 1) (plus acc x) = survival_added d acc x (omega arith) a (signed_no_nan f0 f1 x u.0) (signed_low f0 f1 x u.0) (signed_high f0 f1 x u.0) in (
      sum_up_to b 64 e (plus acc x) s h.0 (up_to_more (d + 1) 64 (plus acc x) (omega arith) v),
      running_up_to b (d + 1) (plus acc x) chain sums v u.1 (omega arith) s h.1,
    )

with_up_to : (b : ℕ) (chain sums : List Float) → all_of is_survival chain ≡ true → length chain ≤ 64 → b + 64 < 2 ^ 53 → AllUpTo b sums → AllUpTo (b + 64) (with_chain chain sums)
with_up_to b chain [] c l s h = running_up_to b 0 f0 chain [] zero_up_to c (omega arith) s h
with_up_to b chain (e ∷ sums) c l s h = (up_to_more b (b + 64) e (omega arith) h.0, running_up_to b 0 f0 chain sums zero_up_to c (omega arith) s h.1)

pub sums_up_to : (gamma : ℕ) (lengths : List ℕ) (slots sums : List Float) (b : ℕ) → are_chains gamma lengths slots ≡ true → gamma ≤ 64 → b + 64 * length lengths < 2 ^ 53 → AllUpTo b sums
    → AllUpTo (b + 64 * length lengths) (sums_with gamma lengths slots sums)
unfolding sums_with are_chains
sums_up_to gamma [] slots sums b c g s h = all_more b (b + 64 * 0) sums (omega arith) h
sums_up_to gamma (l ∷ ls) slots sums b c g s h =
    let u = both (leb l 64 && all_of is_survival (take (min gamma l) slots)) (are_chains gamma ls (drop 64 slots)) c in
    let v = both (leb l 64) (all_of is_survival (take (min gamma l) slots)) u.0 in
    let chain = take (min gamma l) slots in
    let few : length chain ≤ 64 = omega (arith, length-take (min gamma l) slots) in
    let e : b + 64 + 64 * length ls ≡ b + 64 * suc (length ls) = omega arith in
    subst (λ (n : ℕ). AllUpTo n (sums_with gamma ls (drop 64 slots) (with_chain chain sums))) e
    (sums_up_to gamma ls (drop 64 slots) (with_chain chain sums) (b + 64) u.1 g (omega arith) (with_up_to b chain sums v.1 few (omega arith) h))

-- ---- at most 65,536 is what the best depth takes
most_is : most_expected ≡ fin false 1 (pos 16)
unfolding of_bits
most_is = refl

not_past : (x : Float) → UpTo 65536 x → lt (fin false 1 (pos 16)) x ≡ false
unfolding lt
not_past nan h = absurd h
not_past (inf s) h = absurd h
not_past (fin true m e) h = absurd h
not_past (fin false m e) h = le-ltb (1 * 2 ^ 16 * down e) (m * up e * 1) (omega arith)

pub expected_is : (x : Float) → UpTo 65536 x → is_expected x ≡ true
expected_is x h = let c = (up_to_finite 65536 x h).1 in in_range_lem f0 most_expected x c (not_negative x c) (ap (λ (y : Float). lt y x) most_is ∙ not_past x h)

all_expected : (xs : List Float) → AllUpTo 65536 xs → all_of is_expected xs ≡ true
unfolding all_of
all_expected [] h = refl
all_expected (x ∷ xs) h = rw (expected_is x h.0) (all_expected xs h.1)

pub chains_judged : (slots : List Float) (lengths : List ℕ) (gamma room : ℕ) → chains_refusal slots lengths gamma room ≡ 0 → are_chains gamma lengths slots ≡ true
chains_judged slots lengths gamma room e = (chains_passed slots lengths gamma room (passed_is_zero (judged_chains slots lengths gamma room) e)).tested

-- what `expected_by_depth` writes
pub expected_taken : (slots : List Float) (lengths : List ℕ) (gamma room : ℕ) → chains_refusal slots lengths gamma room ≡ 0 → all_of is_expected (take (gamma + 1) (expected_over gamma lengths slots)) ≡ true
expected_taken slots lengths gamma room e =
    let p = chains_passed slots lengths gamma room (passed_is_zero (judged_chains slots lengths gamma room) e) in
    let few = p.counted.few in
    let low = p.counted.shallow in
    all_expected (take (gamma + 1) (expected_over gamma lengths slots))
    (all_take 65536 (gamma + 1) (expected_over gamma lengths slots)
    (all_more (0 + 64 * length lengths) 65536 (expected_over gamma lengths slots) (omega arith) (sums_up_to gamma lengths slots (replicate 65 f0) 0 p.tested low (omega arith) (all_zeros 65))))

-- ---- n times a value of at most 64
n_times : (n : ℕ) (x : Float) → n ≤ 1024 → UpTo 64 x → is_expected (times (whole n) x) ≡ true
n_times n x h k = expected_is (times (whole n) x) (times_up_to 1024 64 (whole n) x (omega arith) (up_to_more n 1024 (whole n) h (whole_up_to n (omega arith))) k)

values_expected : (value : ℕ → Float) (count g : ℕ) → ((i : ℕ) → i < g + count → is_expected (value i) ≡ true) → all_of is_expected (values_from value count g) ≡ true
unfolding values_from all_of
values_expected value zero g h = refl
values_expected value (suc count) g h = rw (h g (omega arith)) (values_expected value count (suc g) (λ i l. h i (omega arith)))

-- ---- of a model: a value of each position is at most 1, and so is a product of them
chance_up_to : (x : Float) → is_clear x ≡ true → lt f1 x ≡ false → UpTo 1 x
unfolding is_clear lt of_bits
chance_up_to nan c h = clash c
chance_up_to (inf true) c h = clash c
chance_up_to (inf false) c h = clash (sym h)
chance_up_to (fin true m e) c h = clash c
chance_up_to (fin false m e) c h = let k = positive_low m e h in omega arith

one_up_to : UpTo 1 f1
unfolding of_bits
one_up_to = omega arith

module _ (model : AcceptanceModel) (positions : List Float) (judged : model_refusal model positions ≡ 0) where
  value_up_to : (d : ℕ) → UpTo 1 (a_d model positions d)
  value_up_to d = let r = value_in_range model positions judged d in chance_up_to (a_d model positions d) (range_clear f0 f1 _ r) (range_high f0 f1 _ r)

  product_up_to : (d : ℕ) → UpTo 1 (product_to model positions d)
  unfolding product_to
  product_up_to zero = one_up_to
  product_up_to (suc d) = times_up_to 1 1 (product_to model positions d) (a_d model positions d) (omega arith) (product_up_to d) (value_up_to d)

  -- a draft of d is expected to have at most d accepted
  pub accepted_up_to : (d : ℕ) → d < 2 ^ 53 → UpTo d (expected_to model positions d)
  unfolding expected_to
  accepted_up_to zero h = zero_up_to
  accepted_up_to (suc d) h =
      subst (λ (n : ℕ). UpTo n (plus (expected_to model positions d) (product_to model positions (suc d)))) (add-one d)
      (sum_up_to d 1 (expected_to model positions d) (product_to model positions (suc d)) (omega arith) (accepted_up_to d (omega arith)) (product_up_to (suc d)))

-- what `model_expected` writes
pub model_taken : (model : AcceptanceModel) (positions : List Float) (gamma n room : ℕ) → model_values_refusal model positions gamma n room ≡ 0 → all_of is_expected (model_values model positions n gamma) ≡ true
model_taken model positions gamma n room e =
    let p = model_passed model positions gamma n room (passed_is_zero (model_values_judged model positions gamma n room) e) in
    let low = p.counted.shallow in
    let judged : model_refusal model positions ≡ 0 = ap (λ (j : Judgement). number_in j) p.judged in
    values_expected (λ g. times (whole n) (expected_to model positions g)) (gamma + 1) 0
    (λ g l. n_times n (expected_to model positions g) p.counted.few (up_to_more g 64 (expected_to model positions g) (omega arith) (accepted_up_to model positions judged g (omega arith))))

-- ---- of a bank
sixty_four_is : most_accepted ≡ fin false 1 (pos 6)
unfolding of_bits
sixty_four_is = refl

entry_up_to : (x : Float) → is_clear x ≡ true → lt (fin false 1 (pos 6)) x ≡ false → UpTo 64 x
unfolding is_clear lt
entry_up_to nan c h = clash c
entry_up_to (inf true) c h = clash c
entry_up_to (inf false) c h = clash (sym h)
entry_up_to (fin true m e) c h = clash c
entry_up_to (fin false m e) c h = let k = ltb-false (1 * 2 ^ 6 * down e) (m * up e * 1) h in omega arith

entry_is : (x : Float) → is_accepted x ≡ true → UpTo 64 x
entry_is x h = entry_up_to x (range_clear f0 most_accepted x h) (ap (λ (y : Float). lt y x) (sym sixty_four_is) ∙ range_high f0 most_accepted x h)

-- what `bank_expected` writes
pub bank_taken : (curve : List Float) (depth gamma n room : ℕ) → bank_values_refusal curve depth gamma n room ≡ 0 → all_of is_expected (bank_values curve depth n gamma) ≡ true
bank_taken curve depth gamma n room e =
    let p = bank_passed curve depth gamma n room (passed_is_zero (bank_values_judged curve depth gamma n room) e) in
    let used = take (min gamma depth + 1) curve in
    let long : min gamma depth + 1 ≤ length used = omega (arith, length-take (min gamma depth + 1) curve, p.there) in
    let at : (g : ℕ) → g < 0 + (gamma + 1) → UpTo 64 (get_or curve (min g depth) nan) = λ g l.
    let i : min g depth < min gamma depth + 1 = omega arith in
    entry_is (get_or curve (min g depth) nan) (ap is_accepted (sym (get_or-take (min gamma depth + 1) curve (min g depth) nan i)) ∙ all_says is_accepted nan used p.in_range_lem (min g depth) (omega arith)) in
    values_expected (λ g. times (whole n) (get_or curve (min g depth) nan)) (gamma + 1) 0 (λ g l. n_times n (get_or curve (min g depth) nan) p.counted.few (at g l))
