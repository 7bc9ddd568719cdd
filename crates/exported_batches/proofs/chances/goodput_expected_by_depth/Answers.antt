-- `goodput_expected_by_depth` meets its contract: the values are as the call left them. Assumes nothing.
use Rattle.exported_batches.proofs.Handed.{values_handed}
use Rattle.exported_batches.proofs.chances.goodput_expected_by_depth.Goals as goal

pub returns : goal.returns
returns c = values_handed _ _ _ _ c.of_answer.ensures c.expected_by_depth-answer.ensures
