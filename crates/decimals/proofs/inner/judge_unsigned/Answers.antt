-- `numeral::judge_unsigned` meets its contract: each way out is a law of `Outcomes` for the digits before the point. Assumes nothing.
use mathlib.Core.Path.{ap, ◌∙◌}
use mathlib.Core.Bool.{false}
use Prim.Native.Nat.{◌+◌, ◌-◌}
use native.Mathlib.Omega.{arith}
use lib.ListN.{length, take, drop}
use Rattle.laws.proofs.Lists.{part}
use Rattle.digits.specs.Digits.{is_digit}
use Rattle.decimals.specs.Decimals.{without_value}
use Rattle.digits.proofs.Bytes.{count_le}
use Rattle.decimals.proofs.Outcomes.{no_point, other_than_point, parted, other_behind, digits_before, digits_all, digits_none}
use Rattle.decimals.proofs.inner.judge_unsigned.Goals as goal

pub slice_bounds-judge_digits-count : goal.slice_bounds-judge_digits-count
slice_bounds-judge_digits-count c = omega (arith, count_le is_digit c.args.text.now, c.digit_count-before.ensures)

pub slice_bounds-judge_digits-start : goal.slice_bounds-judge_digits-start
slice_bounds-judge_digits-start c = omega (arith, count_le is_digit c.args.text.now, c.digit_count-before.ensures)

pub judge_digits-requires : goal.judge_digits-requires
judge_digits-requires c =
    let t = c.args.text.now in
    let k = c.digit_count-before in
    (digits_all t k.result k.ensures c.if-text-before.true, digits_none t _ k.result c.if-text-before.true (part k.result t))

pub returns-then-text-before : goal.returns-then-text-before
returns-then-text-before c =
    let t = c.args.text.now in
    let k = c.digit_count-before in
    c.judge_digits.ensures ∙ ap without_value (no_point false t k.result k.ensures _ c.if-text-before.true (part k.result t))

pub returns-then-text-before-ne-POINT : goal.returns-then-text-before-ne-POINT
returns-then-text-before-ne-POINT c =
    let t = c.args.text.now in
    let k = c.digit_count-before in
    ap without_value (other_than_point false t k.result k.ensures c.if-text-before.false c.if-text-before-ne-POINT.true)

pub returns-then-digit_count-fraction : goal.returns-then-digit_count-fraction
returns-then-digit_count-fraction c =
    let t = c.args.text.now in
    let k = c.digit_count-before in
    let j = c.digit_count in
    ap without_value (other_behind false t k.result k.ensures _ c.if-text-before.false c.if-text-before-ne-POINT.false (part (k.result + 1) t) j.result j.ensures c.if-digit_count-fraction.true)

pub judge_digits-requires-2 : goal.judge_digits-requires-2
judge_digits-requires-2 c =
    let t = c.args.text.now in
    let k = c.digit_count-before in
    let j = c.digit_count in
    (digits_before t k.result k.ensures, digits_all (take (length t - (k.result + 1)) (drop (k.result + 1) t)) j.result j.ensures c.if-digit_count-fraction.false)

pub returns : goal.returns
returns c =
    let t = c.args.text.now in
    let k = c.digit_count-before in
    c.judge_digits-2.ensures ∙ ap without_value (parted false t k.result k.ensures _ c.if-text-before.false c.if-text-before-ne-POINT.false (part (k.result + 1) t))
