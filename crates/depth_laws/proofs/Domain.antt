-- The Rust's depth is the rules', whatever the costs are; and in the domain the expected values have a clear sign bit and are no NaN. Assumes nothing.
use mathlib.Core.Path.{◌≡◌, refl, sym, ◌∙◌}
use mathlib.Core.Bool.{true, ◌&&◌}
use mathlib.Core.List.{List, [], ◌∷◌, ◌++◌}
use Prim.Native.Nat.{ℕ, zero, suc, ◌+◌, ◌-◌, min}
use lib.Dec.{leb}
use lib.ListN.{length, get_or, take, drop, replicate}
use lib.Ieee.{Float, nan, binary64, of_bits}
use Rattle.laws.proofs.Both.{both}
use Rattle.float.specs.Floats.{plus, f0, f1, is_clear}
use Rattle.float.proofs.Ranges.{range_clear, signed_low, signed_no_nan}
use Rattle.speculative.specs.declared.drafter.Rates.{Rates}
use Rattle.speculative.specs.declared.drafter.DrafterCost.{DrafterCost}
use Rattle.chains.specs.Tests.{all_of, is_survival, is_expected, most_expected}
use Rattle.chains.specs.Expected.{add_running, with_chain, sums_with, expected_over, are_chains}
use Rattle.depths.specs.Goodput.{best_of}
use Rattle.depths.specs.Pricing.{costs_from, depth_over}
use Rattle.chains.proofs.Fill.{length_scan}
use Rattle.chains.proofs.Tested.{all_says}
use Rattle.depth_laws.proofs.Clear.{add_clear, add_survival}
use Rattle.depth_laws.proofs.Wins.{AllClear, loop_is_best}

f0_clear : is_clear f0 ≡ true
unfolding is_clear of_bits
f0_clear = refl

-- the Rust's depth is the rules': a cost that is a NaN or infinite is passed over, and any other has a goodput
pub over_best : (kind : DrafterCost) (n : ℕ) (rates : Rates) (loaded : Float) (es curve : List Float) → length es ≡ length curve → AllClear es
    → depth_over kind n rates loaded es curve ≡ best_of n es (costs_from kind n rates loaded 0 curve)
unfolding depth_over
over_best kind n rates loaded es curve same E = loop_is_best n es (costs_from kind n rates loaded 0 curve) (same ∙ sym (length_scan _ _ 0 curve)) E

-- ---- expected values that are lent
pub expected_clear : (es : List Float) → all_of is_expected es ≡ true → AllClear es
expected_clear es h g l = range_clear f0 most_expected (get_or es g nan) (all_says is_expected nan es h g l)

-- ---- expected values of chains
running_clear : (acc : Float) (chain sums : List Float) → is_clear acc ≡ true → all_of is_survival chain ≡ true → all_of is_clear sums ≡ true → all_of is_clear (add_running acc chain sums) ≡ true
unfolding add_running all_of
running_clear acc [] sums a c s = s
running_clear acc (x ∷ chain) [] a c s = refl
running_clear acc (x ∷ chain) (e ∷ sums) a c s =
    let u = both (is_survival x) (all_of is_survival chain) c in
    let v = both (is_clear e) (all_of is_clear sums) s in
    let b : is_clear (plus acc x) ≡ true = add_survival acc x a (signed_low f0 f1 x u.0) (signed_no_nan f0 f1 x u.0) in
    rw (add_clear binary64 e (plus acc x) v.0 b) (running_clear (plus acc x) chain sums b u.1 v.1)

append_clear : (xs ys : List Float) → all_of is_clear xs ≡ true → all_of is_clear ys ≡ true → all_of is_clear (xs ++ ys) ≡ true
unfolding all_of
append_clear [] ys p q = q
append_clear (x ∷ xs) ys p q = let u = both (is_clear x) (all_of is_clear xs) p in rw u.0 (append_clear xs ys u.1 q)

take_clear : (k : ℕ) (xs : List Float) → all_of is_clear xs ≡ true → all_of is_clear (take k xs) ≡ true
unfolding all_of
take_clear zero xs p = refl
take_clear (suc k) [] p = refl
take_clear (suc k) (x ∷ xs) p = let u = both (is_clear x) (all_of is_clear xs) p in rw u.0 (take_clear k xs u.1)

drop_one_clear : (xs : List Float) → all_of is_clear xs ≡ true → all_of is_clear (drop 1 xs) ≡ true
unfolding all_of
drop_one_clear [] p = refl
drop_one_clear (x ∷ xs) p = (both (is_clear x) (all_of is_clear xs) p).1

sums_clear : (gamma : ℕ) (lengths : List ℕ) (slots sums : List Float) → are_chains gamma lengths slots ≡ true → all_of is_clear sums ≡ true → all_of is_clear (sums_with gamma lengths slots sums) ≡ true
unfolding sums_with are_chains
sums_clear gamma [] slots sums c s = s
sums_clear gamma (l ∷ ls) slots sums c s =
    let u = both (leb l 64 && all_of is_survival (take (min gamma l) slots)) (are_chains gamma ls (drop 64 slots)) c in
    let v = both (leb l 64) (all_of is_survival (take (min gamma l) slots)) u.0 in
    sums_clear gamma ls (drop 64 slots) (with_chain (take (min gamma l) slots) sums) u.1
    (append_clear (take 1 sums) (add_running f0 (take (min gamma l) slots) (drop 1 sums)) (take_clear 1 sums s)
    (running_clear f0 (take (min gamma l) slots) (drop 1 sums) f0_clear v.1 (drop_one_clear sums s)))

zeros_clear : (k : ℕ) → all_of is_clear (replicate k f0) ≡ true
unfolding all_of
zeros_clear zero = refl
zeros_clear (suc k) = rw f0_clear (zeros_clear k)

pub chains_clear : (gamma k : ℕ) (lengths : List ℕ) (slots : List Float) → are_chains gamma lengths slots ≡ true → AllClear (take k (expected_over gamma lengths slots))
chains_clear gamma k lengths slots c g l =
    all_says is_clear nan (take k (expected_over gamma lengths slots)) (take_clear k (expected_over gamma lengths slots) (sums_clear gamma lengths slots (replicate 65 f0) c (zeros_clear 65))) g l
