-- The sums over a batch's chains: one chain more, and none left. Assumes nothing.
use mathlib.Core.Path.{◌≡◌, refl, ap}
use mathlib.Core.List.{List, [], ◌∷◌}
use Prim.Native.Nat.{ℕ, suc, ◌+◌, ◌-◌, ◌*◌, ◌≤◌, ◌<◌, min}
use native.Mathlib.Numerals.{add-one}
use native.Mathlib.Omega.{arith}
use lib.ListN.{length, get_or, take, drop, drop_of_length-le}
use lib.Seq.{drop-drop, drop-cons}
use lib.Ieee.{Float}
use Rattle.float.specs.Floats.{plus, f0}
use Rattle.chains.specs.Expected.{add_running, with_chain, sums_with}

-- nothing is left
pub sums_ended : (gamma k : ℕ) (lengths : List ℕ) (slots sums W : List Float) → length lengths ≤ k → sums_with gamma (drop k lengths) slots sums ≡ W → sums ≡ W
unfolding sums_with
sums_ended gamma k lengths slots sums W h e = rw (drop_of_length-le lengths h) at e

-- one chain more
pub sums_next :
    (gamma k end : ℕ) (lengths : List ℕ) (slots sums W : List Float) → k < length lengths → end ≡ k * 64 + min gamma (get_or lengths k 0)
    → sums_with gamma (drop k lengths) (drop (k * 64) slots) sums ≡ W
    → sums_with gamma (drop (k + 1) lengths) (drop ((k + 1) * 64) slots) (with_chain (take (end - k * 64) (drop (k * 64) slots)) sums) ≡ W
unfolding sums_with
sums_next gamma k end lengths slots sums W h w e =
    let p : (k + 1) * 64 ≡ k * 64 + 64 = omega arith in
    let q : end - k * 64 ≡ min gamma (get_or lengths k 0) = omega arith in
    rw (p, q, ← drop-drop 64 (k * 64) slots, add-one k) (rw (drop-cons lengths k 0) at e)

-- as many sums as before
running_length : (acc : Float) (chain sums : List Float) → length (add_running acc chain sums) ≡ length sums
unfolding add_running
running_length acc [] sums = refl
running_length acc (x ∷ chain) [] = refl
running_length acc (x ∷ chain) (e ∷ sums) = ap suc (running_length (plus acc x) chain sums)

pub with_length : (chain sums : List Float) → length (with_chain chain sums) ≡ length sums
with_length chain [] = running_length f0 chain []
with_length chain (e ∷ sums) = ap suc (running_length f0 chain sums)
