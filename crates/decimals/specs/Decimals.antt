-- What the text of a decimal says.
use Rattle.std.specs.Prelude.{◌≡◌, ℕ, suc, ◌^◌, min, Bool, true, ◌&&◌, ◌||◌, cond, List, ◌++◌, ltb, length, take, drop, Float, Result, Ok, Err}
use Rattle.std.specs.Float.{binary64}
use Rattle.std.specs.Float.Ieee.{round}
use Rattle.refusals.specs.declared.Refusal.{Refusal}
use Rattle.refusals.specs.declared.Refusal.TheVariants.{MalformedDecimal, LongDecimal}
use Rattle.refusals.specs.Refusals.{Judgement, number_in}
use Rattle.digits.specs.Digits.{all_digits, number, significant, point}
use Rattle.digits.specs.Signs.{after_sign, is_negative}

-- what is read of a decimal: its value, or why there is none
abbrev pub Decimal : Type 0
Decimal = Result Float Refusal

-- ---- a decimal: an optional sign, then digits with at most one point and at least one digit

-- over 15 significant digits or over 22 decimals
unfoldable pub is_too_long : List ℕ → List ℕ → Bool
is_too_long w f = ltb 15 (significant (w ++ f)) || ltb 22 (length f)

-- the digits w before the point and f after it: malformed goes before too long
unfoldable pub of_parts : Bool → List ℕ → List ℕ → Decimal
unfolding is_too_long
of_parts negative w f =
    cond (ltb 0 (length (w ++ f)) && all_digits (w ++ f))
    (cond (is_too_long w f)
    (Err LongDecimal)
    (Ok (round binary64 negative (number 0 (w ++ f)) (10 ^ length f))))
    (Err MalformedDecimal)

-- w and f are digits, and d is their number, brought down to 10 ^ 15
pub record Spelled (w f : List ℕ) (d : ℕ) : Type 0 where
  pub before : all_digits w ≡ true
  pub behind : all_digits f ≡ true
  pub digits : d ≡ min (number 0 (w ++ f)) (10 ^ 15)

-- the first point parts the two
unfoldable pub unsigned_of : Bool → List ℕ → Decimal
unfolding of_parts
unsigned_of negative t = of_parts negative (take (point t) t) (drop (suc (point t)) t)

unfoldable pub decimal_of : List ℕ → Decimal
unfolding unsigned_of
decimal_of s = unsigned_of (is_negative s) (after_sign s)

-- ---- what is wrong with what was read

-- its refusal, whatever the value is
abbrev pub without_value : {A : Type 0} → Result A Refusal → Judgement
without_value (Ok value) = Ok tt
without_value (Err refusal) = Err refusal

-- the refusal number: 6 is a decimal that is malformed, 7 one with over 15 significant digits or over 22 decimals; 0 where there is a value
abbrev pub decimal_refusal : Decimal → ℕ
decimal_refusal read = number_in read
