-- `decimals::of_digits` meets its contract: what the judge refuses is refused, whatever the sign. Assumes nothing.
use Rattle.std.proofs.Common.{rules, ◌≡◌, false, Err, ◌∙◌}
use Rattle.decimals.specs.Decimals.{without_value, of_parts}
use Rattle.decimals.proofs.Outcomes.{refused}
use Rattle.decimals.proofs.inner.of_digits.Goals as goal

pub returns-in_err-judge_digits : goal.returns-in_err-judge_digits
returns-in_err-judge_digits c =
    let a = c.args in
    let refusal = c.in_err-judge_digits.field-0.0 in
    let given : c.from_residual.result ≡ Err refusal = search rules in
    let judged : Err refusal ≡ without_value (of_parts false a.whole.now a.fraction.now) = search rules in
    given ∙ refused a.negative a.whole.now a.fraction.now refusal judged
