-- Worked examples of the definitions: what a few texts say, by computation. Assumes nothing.
use Rattle.std.proofs.Common.{Ok, Err, ◌≡◌, true, false, [], ◌∷◌, pos, negsuc, refl}
use lib.Ieee.{fin, round}
use Rattle.refusals.specs.declared.Refusal.TheVariants.{MalformedWhole, MalformedDecimal, LongDecimal}
use Rattle.numeral.specs.Spelling.{whole_of}
use Rattle.decimals.specs.Decimals.{decimal_of}

-- -0
minus_zero : decimal_of (45 ∷ 48 ∷ []) ≡ Ok (fin true 0 (pos 0))
unfolding decimal_of round
minus_zero = refl

-- +1.5
one_and_a_half : decimal_of (43 ∷ 49 ∷ 46 ∷ 53 ∷ []) ≡ Ok (fin false 3 (negsuc 0))
unfolding decimal_of round
one_and_a_half = refl

-- .1 is 3602879701896397 / 2 ^ 55
tenth : decimal_of (46 ∷ 49 ∷ []) ≡ Ok (fin false 3602879701896397 (negsuc 54))
unfolding decimal_of round
tenth = refl

-- 5. has its digit before the point
five : decimal_of (53 ∷ 46 ∷ []) ≡ Ok (fin false 5 (pos 0))
unfolding decimal_of round
five = refl

-- a point alone, a second point, an exponent
point_alone : decimal_of (46 ∷ []) ≡ Err MalformedDecimal
unfolding decimal_of
point_alone = refl

two_points : decimal_of (49 ∷ 46 ∷ 50 ∷ 46 ∷ 51 ∷ []) ≡ Err MalformedDecimal
unfolding decimal_of
two_points = refl

exponent : decimal_of (49 ∷ 101 ∷ 53 ∷ []) ≡ Err MalformedDecimal
unfolding decimal_of
exponent = refl

-- 1.000000000000000: sixteen significant digits, since zeros that are written count
zeros_count : decimal_of (49 ∷ 46 ∷ 48 ∷ 48 ∷ 48 ∷ 48 ∷ 48 ∷ 48 ∷ 48 ∷ 48 ∷ 48 ∷ 48 ∷ 48 ∷ 48 ∷ 48 ∷ 48 ∷ 48 ∷ []) ≡ Err LongDecimal
unfolding decimal_of
zeros_count = refl

-- 0.000000000000000: none, since all are zeros
no_significant_digit : decimal_of (48 ∷ 46 ∷ 48 ∷ 48 ∷ 48 ∷ 48 ∷ 48 ∷ 48 ∷ 48 ∷ 48 ∷ 48 ∷ 48 ∷ 48 ∷ 48 ∷ 48 ∷ 48 ∷ 48 ∷ []) ≡ Ok (fin false 0 (pos 0))
unfolding decimal_of round
no_significant_digit = refl

-- +4294967295 and 4294967296
largest : whole_of (43 ∷ 52 ∷ 50 ∷ 57 ∷ 52 ∷ 57 ∷ 54 ∷ 55 ∷ 50 ∷ 57 ∷ 53 ∷ []) ≡ Ok 4294967295
unfolding whole_of
largest = refl

too_large : whole_of (52 ∷ 50 ∷ 57 ∷ 52 ∷ 57 ∷ 54 ∷ 55 ∷ 50 ∷ 57 ∷ 54 ∷ []) ≡ Err MalformedWhole
unfolding whole_of
too_large = refl

-- a plus alone
plus_alone : whole_of (43 ∷ []) ≡ Err MalformedWhole
unfolding whole_of
plus_alone = refl
