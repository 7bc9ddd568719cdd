-- The contracts of `numeral` leave one outcome each. Assumes nothing.
use mathlib.Core.List.{List}
use mathlib.Core.Path.{◌≡◌}
use Prim.Native.Nat.{ℕ}
use lib.Ieee.{Float, to_unsigned}
use Rattle.decimals.specs.Decimals.{Decimal, decimal_of, without_value}
use Rattle.numeral.specs.Moment.{second_of}
use Rattle.numeral.specs.Spelling.{Whole, whole_of}
use Rattle.refusals.specs.Refusals.{Judgement}
use Rattle.unique.specs.Only.{OnlyOne}
use Rattle.unique.proofs.Law.{once}

pub whole_once : (text : List ℕ) → OnlyOne (λ (r : Whole). r ≡ whole_of text)
whole_once text x y p q = once p q

pub decimal_once : (text : List ℕ) → OnlyOne (λ (r : Decimal). r ≡ decimal_of text)
decimal_once text x y p q = once p q

pub judge_decimal_once : (text : List ℕ) → OnlyOne (λ (r : Judgement). r ≡ without_value (decimal_of text))
judge_decimal_once text x y p q = once p q

pub second_once : (end : Float) → OnlyOne (λ (r : ℕ). r ≡ second_of end)
second_once end x y p q = once p q

pub whole_part_once : (x : Float) → OnlyOne (λ (r : ℕ). r ≡ to_unsigned 64 x)
whole_part_once x one y p q = once p q
