-- `numeral::unsigned_decimal` meets its contract: each way out is a law of `Outcomes` for the digits before the point. Assumes nothing.
use mathlib.Core.Path.{◌∙◌}
use Prim.Native.Nat.{◌+◌, ◌^◌}
use native.Mathlib.Omega.{arith}
use Rattle.laws.proofs.Lists.{part}
use Rattle.digits.specs.Digits.{is_digit}
use Rattle.digits.proofs.Bytes.{count_le}
use Rattle.digits.proofs.Leading.{count_is, number_le}
use Rattle.decimals.proofs.Outcomes.{alone, no_point, other_than_point, parted, other_behind, both_parts}
use Rattle.decimals.proofs.inner.unsigned_decimal.Goals as goal

pub slice_bounds-of_digits-count : goal.slice_bounds-of_digits-count
slice_bounds-of_digits-count c =
    let t = c.args.text.now in
    omega (arith, count_le is_digit t, count_is 0 (10 ^ 15) t c.leading_digits-before.result c.leading_digits-before.ensures)

pub slice_bounds-of_digits-start : goal.slice_bounds-of_digits-start
slice_bounds-of_digits-start c =
    let t = c.args.text.now in
    omega (arith, count_le is_digit t, count_is 0 (10 ^ 15) t c.leading_digits-before.result c.leading_digits-before.ensures)

pub of_digits-requires : goal.of_digits-requires
of_digits-requires c =
    let t = c.args.text.now in
    let before = c.leading_digits-before in
    alone t before.result before.ensures _ c.if-text-point.true (part before.result.count t)

pub returns-then-text-point : goal.returns-then-text-point
returns-then-text-point c =
    let a = c.args in
    let t = a.text.now in
    let before = c.leading_digits-before in
    c.of_digits.ensures ∙ no_point a.negative t before.result.count (count_is 0 (10 ^ 15) t before.result before.ensures) _ c.if-text-point.true (part before.result.count t)

pub returns-then-text-point-ne-POINT : goal.returns-then-text-point-ne-POINT
returns-then-text-point-ne-POINT c =
    let a = c.args in
    let t = a.text.now in
    let before = c.leading_digits-before in
    other_than_point a.negative t before.result.count (count_is 0 (10 ^ 15) t before.result before.ensures) c.if-text-point.false c.if-text-point-ne-POINT.true

pub leading_digits-both-requires : goal.leading_digits-both-requires
leading_digits-both-requires c = (number_le 0 (10 ^ 15) _ c.leading_digits-before.result c.leading_digits-before.ensures, omega arith)

pub returns-then-both-fraction : goal.returns-then-both-fraction
returns-then-both-fraction c =
    let a = c.args in
    let t = a.text.now in
    let before = c.leading_digits-before in
    let both = c.leading_digits-both in
    other_behind a.negative t before.result.count (count_is 0 (10 ^ 15) t before.result before.ensures) _ c.if-text-point.false c.if-text-point-ne-POINT.false (part (before.result.count + 1) t)
    both.result.count (count_is before.result.number (10 ^ 15) _ both.result both.ensures) c.if-both-fraction.true

pub of_digits-requires-2 : goal.of_digits-requires-2
of_digits-requires-2 c =
    let t = c.args.text.now in
    let before = c.leading_digits-before in
    let both = c.leading_digits-both in
    both_parts t before.result before.ensures _ both.result both.ensures c.if-both-fraction.false

pub returns : goal.returns
returns c =
    let a = c.args in
    let t = a.text.now in
    let before = c.leading_digits-before in
    c.of_digits-2.ensures
    ∙ parted a.negative t before.result.count (count_is 0 (10 ^ 15) t before.result before.ensures) _ c.if-text-point.false c.if-text-point-ne-POINT.false (part (before.result.count + 1) t)
