-- `numeral::too_long` meets its contract: each way out is a law of `Outcomes`. Assumes nothing.
use native.Mathlib.Omega.{arith}
use Rattle.digits.specs.Digits.{is_zero}
use Rattle.digits.proofs.Bytes.{count_le}
use Rattle.decimals.proofs.Outcomes.{many_decimals, few_digits, count_from_whole, count_from_fraction}
use Rattle.decimals.proofs.inner.too_long.Goals as goal

pub returns-then-fraction-gt-DECIMALS : goal.returns-then-fraction-gt-DECIMALS
returns-then-fraction-gt-DECIMALS c =
    let a = c.args in
    many_decimals a.whole.now a.fraction.now c.if-fraction-gt-DECIMALS.true

pub returns-then-whole-fraction-le-SIGNIFICANT : goal.returns-then-whole-fraction-le-SIGNIFICANT
returns-then-whole-fraction-le-SIGNIFICANT c =
    let a = c.args in
    few_digits a.whole.now a.fraction.now c.if-whole-fraction-le-SIGNIFICANT.true

pub overflow_sub-result-else-zeros-whole : goal.overflow_sub-result-else-zeros-whole
overflow_sub-result-else-zeros-whole c =
    let f = c.args.fraction.now in
    omega (arith, count_le is_zero f, c.leading_zeros.ensures)

pub returns-then-zeros-whole : goal.returns-then-zeros-whole
returns-then-zeros-whole c =
    let a = c.args in
    let zeros = c.leading_zeros-zeros in
    count_from_whole a.whole.now a.fraction.now zeros.result zeros.ensures c.if-zeros-whole.true (omega arith)

pub returns-else-zeros-whole : goal.returns-else-zeros-whole
returns-else-zeros-whole c =
    let a = c.args in
    let zeros = c.leading_zeros-zeros in
    let after = c.leading_zeros in
    count_from_fraction a.whole.now a.fraction.now zeros.result after.result zeros.ensures c.if-zeros-whole.false after.ensures (omega arith)
