-- What any decimal that was read is: a number below 10 ^ 15 over a power of ten, rounded once. So it is finite, and at most 10 ^ 15 in size. Assumes nothing.
use mathlib.Core.Path.{◌≡◌, refl, sym, subst}
use mathlib.Core.Bool.{Bool, true, false, ◌&&◌, cond}
use mathlib.Core.List.{List, ◌++◌}
use Prim.Native.Nat.{ℕ, suc, ◌^◌, ◌<◌}
use native.Mathlib.Nat.{le_of_lt}
use native.Mathlib.Omega.{arith}
use lib.Dec.{T, ltb}
use lib.ListN.{length, take, drop}
use lib.Ieee.{Float, binary64, round, le}
use lib.Ieee.Fits.{and_r}
use lib.Ieee.Scale.{finite}
use Rattle.std.proofs.Common.{Ok, Err}
use Rattle.refusals.specs.declared.Refusal.TheVariants.{MalformedDecimal, LongDecimal}
use Rattle.decimals.specs.Decimals.{Decimal}
use Rattle.digits.specs.Digits.{all_digits, number, point}
use Rattle.decimals.specs.Decimals.{of_parts, unsigned_of, is_too_long, decimal_of}
use Rattle.digits.specs.Signs.{after_sign, is_negative}
use Rattle.digits.proofs.Leading.{few_below}
use Rattle.decimals.proofs.Outcomes.{few_significant}
use Rattle.decimals.proofs.Rounding.{most, size_most, quotient_finite}

pub record Read (x : Float) : Type 0 where
  pub sign : Bool
  pub digits : ℕ
  pub decimals : ℕ
  pub few : digits < 10 ^ 15
  pub value : round binary64 sign digits (10 ^ decimals) ≡ x

never : ◌≡◌ {A = ℕ} 0 1 → ⊥
never z = omega arith

parts_read : (negative : Bool) (w f : List ℕ) (x : Float) → of_parts negative w f ≡ Ok x → Read x
unfolding of_parts
parts_read negative w f x e = go (ltb 0 (length (w ++ f)) && all_digits (w ++ f)) (is_too_long w f) refl refl e
  where
    v : Float
    v = round binary64 negative (number 0 (w ++ f)) (10 ^ length f)

    go : (a b : Bool) → (ltb 0 (length (w ++ f)) && all_digits (w ++ f)) ≡ a → is_too_long w f ≡ b → ◌≡◌ {A = Decimal} (cond a (cond b (Err LongDecimal) (Ok v)) (Err MalformedDecimal)) (Ok x) → Read x
    go true false p q k = record { sign = negative; digits = number 0 (w ++ f); decimals = length f; few = few_below (w ++ f) (and_r (ltb 0 (length (w ++ f))) (all_digits (w ++ f)) (subst T (sym p) tt)) (few_significant w f q); value = cc }
    go true true p q k = absurd (let z : ◌≡◌ {A = ℕ} 0 1 = cc in never z)
    go false b p q k = absurd (let z : ◌≡◌ {A = ℕ} 0 1 = cc in never z)

pub decimal_read : (s : List ℕ) (x : Float) → decimal_of s ≡ Ok x → Read x
unfolding decimal_of unsigned_of
decimal_read s x e = let t = after_sign s in parts_read (is_negative s) (take (point t) t) (drop (suc (point t)) t) x e

pub decimal_finite : (s : List ℕ) (x : Float) → decimal_of s ≡ Ok x → T (finite x)
decimal_finite s x e =
    let r = decimal_read s x e in
    subst (λ (y : Float). T (finite y)) r.value (quotient_finite r.sign r.digits r.decimals (le_of_lt r.few))

-- the size, that is the value without its sign
pub decimal_most : (s : List ℕ) (x : Float) (e : decimal_of s ≡ Ok x) → T (le (round binary64 false (decimal_read s x e).digits (10 ^ (decimal_read s x e).decimals)) most)
decimal_most s x e = let r = decimal_read s x e in size_most r.digits r.decimals (le_of_lt r.few)
