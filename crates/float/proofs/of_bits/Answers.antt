-- `float::of_bits` meets its contract: a size above an infinity's is a NaN's, which 0 / 0 is, and any other is none. Assumes nothing.
use mathlib.Core.Path.{◌≡◌, refl, sym, ◌∙◌}
use native.Mathlib.Omega.{arith}
use lib.Ieee.{nan, binary64, div, of_bits}
use Rattle.float.proofs.Patterns.{pattern_nan, pattern_no_nan}
use Rattle.float.proofs.of_bits.Goals as goal

zero_by_zero : div binary64 (of_bits binary64 0) (of_bits binary64 0) ≡ nan
unfolding div of_bits
zero_by_zero = refl

pub returns-then-size-gt9218868437227405312 : goal.returns-then-size-gt9218868437227405312
returns-then-size-gt9218868437227405312 c = zero_by_zero ∙ sym (pattern_nan _ (omega arith))

pub float_from_bits-result : goal.float_from_bits-result
float_from_bits-result c = rw (pattern_no_nan c.args.b (omega arith)) tt
