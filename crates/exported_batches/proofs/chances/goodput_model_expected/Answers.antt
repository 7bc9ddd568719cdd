-- `goodput_model_expected` meets its contract: the model is that of its number, and the values are as the call left them. Assumes nothing.
use mathlib.Core.Path.{ap, ◌∙◌}
use Rattle.acceptance.specs.declared.AcceptanceModel.{AcceptanceModel}
use Rattle.goodput.specs.Expected.{model_expected}
use Rattle.exported_batches.proofs.Handed.{values_handed}
use Rattle.exported_batches.proofs.chances.goodput_model_expected.Goals as goal

pub returns : goal.returns
returns c =
    let a = c.args in
    values_handed _ _ _ _ c.of_answer.ensures (c.model_expected-answer.ensures ∙ ap (λ (m : AcceptanceModel). model_expected m a.positions.now a.gamma a.n a.out.now) c.model_of-accepts.ensures)
