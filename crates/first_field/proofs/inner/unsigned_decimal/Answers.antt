-- `numeral::front::unsigned_decimal` meets its contract: digits, a point and digits up to the end are a law of `FirstField`, the rest is read as a text of its own. Assumes nothing.
use mathlib.Core.Path.{◌≡◌, sym, ap, ◌∙◌}
use Prim.Native.Nat.{◌+◌, ◌-◌, ◌^◌, ◌≤◌}
use native.Mathlib.Omega.{arith}
use lib.ListN.{length, take, drop, length-drop}
use lib.Seq.{length-take-le}
use Rattle.laws.proofs.Lists.{part}
use Rattle.digits.specs.Digits.{is_digit, count_while}
use Rattle.first_field.specs.Front.{is_no_comma}
use Rattle.digits.proofs.Bytes.{count_le}
use Rattle.digits.proofs.Leading.{count_is, number_le}
use Rattle.first_field.proofs.FirstField.{point_length, point_parts, point_spelled}
use Rattle.first_field.proofs.inner.unsigned_decimal.Goals as goal

pub leading_digits-both-requires : goal.leading_digits-both-requires
leading_digits-both-requires c = (number_le 0 (10 ^ 15) _ c.leading_digits-before.result c.leading_digits-before.ensures, omega arith)

pub slice_bounds-of_digits-end-then-is_end : goal.slice_bounds-of_digits-end-then-is_end
slice_bounds-of_digits-end-then-is_end c =
    let t = c.args.text.now in
    let from = c.leading_digits-before.result.count + 1 in
    let f = take (length t - from) (drop from t) in
    let both = c.leading_digits-both in
    let j : both.result.count ≡ count_while is_digit f = count_is c.leading_digits-before.result.number (10 ^ 15) f both.result both.ensures in
    let h : both.result.count ≤ length f = omega (arith, count_le is_digit f, j) in
    sym (length-take-le both.result.count f h)

pub of_digits-requires : goal.of_digits-requires
of_digits-requires c =
    point_spelled c.args.text.now c.leading_digits-before.result c.leading_digits-before.ensures _ c.leading_digits-both.result c.leading_digits-both.ensures

pub overflow_add-result : goal.overflow_add-result
overflow_add-result c =
    let t = c.args.text.now in
    let from = c.leading_digits-before.result.count + 1 in
    let f = take (length t - from) (drop from t) in
    let both = c.leading_digits-both in
    let j : both.result.count ≡ count_while is_digit f = count_is c.leading_digits-before.result.number (10 ^ 15) f both.result both.ensures in
    omega (arith, count_le is_digit f, j, ap length (part from t) ∙ length-drop from t)

pub returns-then-is_end-clause-decimal : goal.returns-then-is_end-clause-decimal
returns-then-is_end-clause-decimal c = let a = c.args in
    let t = a.text.now in
    let before = c.leading_digits-before in
    let both = c.leading_digits-both in
    let from = before.result.count + 1 in
    let f = take (length t - from) (drop from t) in
    let k = count_is 0 (10 ^ 15) t before.result before.ensures in
    let j = count_is before.result.number (10 ^ 15) f both.result both.ensures in
    let ends = sym c.is_end.ensures ∙ c.if-is_end.true in c.of_digits.ensures ∙ point_parts t before.result.count k c.if-point-text.true c.if-text-point-eq46.true f (part from t) both.result.count j ends a.negative

pub returns-then-is_end-clause-length : goal.returns-then-is_end-clause-length
returns-then-is_end-clause-length c = let a = c.args in
    let t = a.text.now in
    let before = c.leading_digits-before in
    let both = c.leading_digits-both in
    let from = before.result.count + 1 in
    let f = take (length t - from) (drop from t) in
    let k = count_is 0 (10 ^ 15) t before.result before.ensures in
    let j = count_is before.result.number (10 ^ 15) f both.result both.ensures in
    let ends = sym c.is_end.ensures ∙ c.if-is_end.true in point_length t before.result.count k c.if-point-text.true c.if-text-point-eq46.true f (part from t) both.result.count j ends

pub slice_bounds-unsigned_decimal-end : goal.slice_bounds-unsigned_decimal-end
slice_bounds-unsigned_decimal-end c =
    let t = c.args.text.now in
    let n = c.field_length-length in
    let h : n.result ≤ length t = omega (arith, count_le is_no_comma t, n.ensures) in
    sym (length-take-le n.result t h)
