-- `numeral::quotient` meets its contract. The code's table is `tens 23 0`, by computation, and one test over that list says that each entry is exactly the power of ten of its place.
-- Assumes nothing.
use native.Mathlib.Omega.{arith}
use lib.Ieee.{of_bits, round}
use Rattle.decimals.proofs.Rounding.{negative, positive, tens}
use Rattle.decimals.proofs.inner.quotient.Goals as goal

pub returns-then-negative : goal.returns-then-negative
unfolding of_bits round
returns-then-negative c =
    let a = c.args in
    negative (tens 23 0) tt a.negative a.digits a.decimals c.if-negative.true (omega arith) (omega arith)

pub returns-else-negative : goal.returns-else-negative
unfolding of_bits round
returns-else-negative c =
    let a = c.args in
    positive (tens 23 0) tt a.negative a.digits a.decimals c.if-negative.false (omega arith) (omega arith)
