-- `numeral::front::judge_unsigned` meets its contract: digits, a point and digits up to the end are a law of `FirstField`, the rest is judged as a text of its own. Assumes nothing.
use mathlib.Core.Path.{sym, ap, ◌∙◌}
use mathlib.Core.Bool.{false}
use Prim.Native.Nat.{◌+◌, ◌-◌, ◌≤◌}
use native.Mathlib.Omega.{arith}
use lib.ListN.{length, take, drop, length-drop}
use lib.Seq.{length-take-le}
use Rattle.laws.proofs.Lists.{part}
use Rattle.digits.specs.Digits.{is_digit}
use Rattle.first_field.specs.Front.{is_no_comma}
use Rattle.decimals.specs.Decimals.{without_value}
use Rattle.digits.proofs.Bytes.{count_le}
use Rattle.decimals.proofs.Outcomes.{digits_before}
use Rattle.first_field.proofs.FirstField.{point_length, point_parts}
use Rattle.first_field.proofs.inner.judge_unsigned.Goals as goal

pub slice_bounds-judge_digits-end-then-is_end : goal.slice_bounds-judge_digits-end-then-is_end
slice_bounds-judge_digits-end-then-is_end c =
    let t = c.args.text.now in
    let from = c.digit_count-point.result + 1 in
    let f = take (length t - from) (drop from t) in
    let h : c.digit_count-decimals.result ≤ length f = omega (arith, count_le is_digit f, c.digit_count-decimals.ensures) in
    sym (length-take-le c.digit_count-decimals.result f h)

pub judge_digits-requires : goal.judge_digits-requires
judge_digits-requires c =
    (digits_before _ c.digit_count-point.result c.digit_count-point.ensures, digits_before _ c.digit_count-decimals.result c.digit_count-decimals.ensures)

pub overflow_add-result : goal.overflow_add-result
overflow_add-result c =
    let t = c.args.text.now in
    let from = c.digit_count-point.result + 1 in
    let f = take (length t - from) (drop from t) in
    omega (arith, count_le is_digit f, c.digit_count-decimals.ensures, ap length (part from t) ∙ length-drop from t)

pub returns-then-is_end-clause-judged : goal.returns-then-is_end-clause-judged
returns-then-is_end-clause-judged c = let t = c.args.text.now in
    let k = c.digit_count-point in
    let j = c.digit_count-decimals in
    let ends = sym c.is_end.ensures ∙ c.if-is_end.true in c.judge_digits.ensures ∙ ap without_value (point_parts t k.result k.ensures c.if-point-text.true c.if-text-point-eq46.true _ (part (k.result + 1) t) j.result j.ensures ends false)

pub returns-then-is_end-clause-length : goal.returns-then-is_end-clause-length
returns-then-is_end-clause-length c = let t = c.args.text.now in
    let k = c.digit_count-point in
    let j = c.digit_count-decimals in
    let ends = sym c.is_end.ensures ∙ c.if-is_end.true in point_length t k.result k.ensures c.if-point-text.true c.if-text-point-eq46.true _ (part (k.result + 1) t) j.result j.ensures ends

pub slice_bounds-judge_unsigned-end : goal.slice_bounds-judge_unsigned-end
slice_bounds-judge_unsigned-end c =
    let t = c.args.text.now in
    let n = c.field_length-length in
    let h : n.result ≤ length t = omega (arith, count_le is_no_comma t, n.ensures) in
    sym (length-take-le n.result t h)
