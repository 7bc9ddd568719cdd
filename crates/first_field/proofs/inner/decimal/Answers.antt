-- `numeral::front::decimal` meets its contract: the sign is no comma. Assumes nothing.
use mathlib.Core.Path.{◌≡◌, ap, ◌∙◌}
use mathlib.Core.Bool.{Bool}
use mathlib.Core.List.{List}
use Prim.Native.Nat.{ℕ}
use native.Mathlib.Omega.{arith}
use lib.ListN.{length, take}
use Rattle.first_field.specs.Front.{field_length, is_no_comma}
use Rattle.digits.specs.Signs.{after_sign, is_negative}
use Rattle.decimals.specs.Decimals.{unsigned_of}
use Rattle.digits.proofs.Bytes.{count_le}
use Rattle.first_field.proofs.FirstField.{sign_length, sign_decimal}
use Rattle.first_field.proofs.inner.decimal.Goals as goal

pub overflow_add-length : goal.overflow_add-length
overflow_add-length c =
    let s = c.args.line.now in
    let t : length c.after_sign-text.result.now ≡ length (after_sign s) = ap length c.after_sign-text.ensures in
    let n : c.unsigned_decimal-read.result.length ≡ field_length (after_sign s) = c.unsigned_decimal-read.ensures.length ∙ ap field_length c.after_sign-text.ensures in
    omega (arith, sign_length s, count_le is_no_comma s, t, n)

pub returns-clause-decimal : goal.returns-clause-decimal
returns-clause-decimal c = let s = c.args.line.now in
    let u = after_sign s in
    let text = c.after_sign-text in
    let read = c.unsigned_decimal-read in
    let t : length text.result.now ≡ length u = ap length text.ensures in
    let n : read.result.length ≡ field_length u = read.ensures.length ∙ ap field_length text.ensures in read.ensures.decimal
    ∙ ap (λ (z : Bool). unsigned_of z (take (field_length text.result.now) text.result.now)) c.is_negative.ensures
    ∙ ap (λ (l : List ℕ). unsigned_of (is_negative s) (take (field_length l) l)) text.ensures
    ∙ sign_decimal s
