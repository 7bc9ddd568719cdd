-- The fewest digits of a number are as many as `decimal` has. Assumes nothing.
use Prim.Native.Nat.{ℕ, zero, suc, ◌+◌, ◌-◌, ◌^◌, ◌≤◌, ◌<◌}
use mathlib.Core.Path.{◌≡◌, sym, ap, subst⁻¹, ◌∙◌}
use mathlib.Core.Bool.{Bool, cond}
use mathlib.Core.List.{List}
use mathlib.Core.Logic.{⊎_elim}
use native.Mathlib.Nat.{pow-le-pow_right, eq-zero-or-pos}
use native.Mathlib.Omega.{arith}
use borrow.Author.Tests.{lt-ltb, le-ltb}
use lib.Dec.{ltb}
use Rattle.io.specs.Digits.{last_digits, IsDigitCount}
use Rattle.page.specs.Numbers.{places_from, decimal, sixteen}

-- below its fewest digits a number does not fit
too_few : (b least n w k : ℕ) → 0 < b → least ≤ k → k < w → IsDigitCount b least n w → b ^ k ≤ n
too_few b least n w k base low h f =
    let lowest : b ^ (w - 1) ≤ n = f.2 (omega arith) in
    let power : b ^ k ≤ b ^ (w - 1) = pow-le-pow_right base (omega arith) in
    omega arith

-- a number below b ^ p takes p digits at most
pub most_digits : (b p least n w : ℕ) → 0 < b → least ≤ p → n < b ^ p → IsDigitCount b least n w → w ≤ p
most_digits b p least n w base low h f =
    ⊎_elim (λ (l : w - p ≡ 0). omega arith) (λ (l : 0 < w - p). absurd (past (omega arith))) (eq-zero-or-pos (w - p))
  where
    past : p < w → ⊥
    past l = let high : b ^ p ≤ n = too_few b least n w p base low l f in omega arith

places_step : (more k n w : ℕ) → 1 ≤ k → k ≤ w → IsDigitCount 10 1 n w → (k < w → places_from more (suc k) n ≡ w) → cond (ltb n (10 ^ k)) k (places_from more (suc k) n) ≡ w
places_step more k n w one low f next = ⊎_elim (λ (l : w - k ≡ 0). here (omega arith)) (λ (l : 0 < w - k). later (omega arith)) (eq-zero-or-pos (w - k))
  where
    here : k ≡ w → cond (ltb n (10 ^ k)) k (places_from more (suc k) n) ≡ w
    here e =
        let fits : n < 10 ^ k = subst⁻¹ (λ (j : ℕ). n < 10 ^ j) e f.1 in
        ap (λ (b : Bool). cond b k (places_from more (suc k) n)) (lt-ltb n (10 ^ k) fits) ∙ e

    later : k < w → cond (ltb n (10 ^ k)) k (places_from more (suc k) n) ≡ w
    later l =
        ap (λ (b : Bool). cond b k (places_from more (suc k) n)) (le-ltb n (10 ^ k) (too_few 10 1 n w k (omega arith) one l f)) ∙ next l

places_are : (more k n w : ℕ) → 1 ≤ k → k ≤ w → w ≤ k + more → IsDigitCount 10 1 n w → places_from more k n ≡ w
unfolding places_from
places_are zero k n w one low high f = omega arith
places_are (suc more) k n w one low high f =
    places_step more k n w one low f (λ (l : k < w). places_are more (suc k) n w (omega arith) (omega arith) (omega arith) f)

-- what `io::decimal` writes
pub decimal_is : (n w : ℕ) (bytes : List ℕ) → n < 2 ^ 64 → IsDigitCount 10 1 n w → bytes ≡ last_digits 10 w n → bytes ≡ decimal n
unfolding decimal
decimal_is n w bytes h f e =
    let most : w ≤ 20 = most_digits 10 20 1 n w (omega arith) (omega arith) (omega arith) f in
    let least : 1 ≤ w = f.0 in
    e ∙ ap (λ (k : ℕ). last_digits 10 k n) (sym (places_are 19 1 n w (omega arith) (omega arith) (omega arith) f))

-- what `io::hex` writes at sixteen digits
pub hex_is : (n w : ℕ) (bytes : List ℕ) → n < 2 ^ 64 → IsDigitCount 16 16 n w → bytes ≡ last_digits 16 w n → bytes ≡ sixteen n
unfolding sixteen
hex_is n w bytes h f e =
    let most : w ≤ 16 = most_digits 16 16 16 n w (omega arith) (omega arith) (omega arith) f in
    let least : 16 ≤ w = f.0 in
    let all : w ≡ 16 = omega arith in
    e ∙ ap (λ (k : ℕ). last_digits 16 k n) all
