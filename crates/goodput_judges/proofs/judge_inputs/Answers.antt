-- `judge_inputs` meets its contract: what one pass answers says what is refused of the inputs. Assumes nothing.
use Rattle.std.proofs.Common.{rules, ◌≡◌, ◌∙◌, Err}
use Rattle.goodput_judges.proofs.Judges.{inputs_refused, inputs_answered}
use Rattle.goodput_judges.proofs.judge_inputs.Goals as goal

pub returns-in_err-pass_seconds : goal.returns-in_err-pass_seconds
returns-in_err-pass_seconds c =
    let a = c.args in
    let e = inputs_refused a.drafter a.n a.rates a.valued a.loaded.now c.requires.drafter_value c.requires.n_bound c.pass_seconds.result c.pass_seconds.ensures _ c.in_err-pass_seconds.was in
    let given : c.from_residual.result ≡ Err c.in_err-pass_seconds.field-0.0 = search rules in
    given ∙ e

pub returns : goal.returns
returns c =
    let a = c.args in
    let e = inputs_answered a.drafter a.n a.rates a.valued a.loaded.now c.requires.drafter_value c.requires.n_bound c.pass_seconds.result c.pass_seconds.ensures _ c.in_ok-pass_seconds.was in
    c.passed_if.ensures ∙ e
