-- `first_field::judge` meets its contract: the sign is no comma, and what is wrong with a decimal is so whatever its sign. Assumes nothing.
use mathlib.Core.Path.{◌≡◌, ap, ◌∙◌}
use mathlib.Core.Bool.{false}
use mathlib.Core.List.{List}
use Prim.Native.Nat.{ℕ}
use native.Mathlib.Omega.{arith}
use lib.ListN.{length, take}
use Rattle.first_field.specs.Front.{field_length, is_no_comma}
use Rattle.decimals.specs.Decimals.{without_value, unsigned_of}
use Rattle.digits.specs.Signs.{after_sign, is_negative}
use Rattle.digits.proofs.Bytes.{count_le}
use Rattle.decimals.proofs.Outcomes.{signless}
use Rattle.first_field.proofs.FirstField.{sign_length, sign_decimal}
use Rattle.first_field.proofs.inner.judge.Goals as goal

pub overflow_add-result : goal.overflow_add-result
overflow_add-result c =
    let s = c.args.line.now in
    let t : length c.after_sign-text.result.now ≡ length (after_sign s) = ap length c.after_sign-text.ensures in
    let n : c.judge_unsigned-behind.result.length ≡ field_length (after_sign s) = c.judge_unsigned-behind.ensures.length ∙ ap field_length c.after_sign-text.ensures in
    omega (arith, sign_length s, count_le is_no_comma s, t, n)

pub returns-clause-judged : goal.returns-clause-judged
returns-clause-judged c = let s = c.args.line.now in
    let u = after_sign s in
    let text = c.after_sign-text in
    let judged = c.judge_unsigned-behind in
    let t : length text.result.now ≡ length u = ap length text.ensures in
    let n : judged.result.length ≡ field_length u = judged.ensures.length ∙ ap field_length text.ensures in judged.ensures.judged
    ∙ ap (λ (l : List ℕ). without_value (unsigned_of false (take (field_length l) l))) text.ensures
    ∙ signless false (is_negative s) (take (field_length u) u)
    ∙ ap without_value (sign_decimal s)
