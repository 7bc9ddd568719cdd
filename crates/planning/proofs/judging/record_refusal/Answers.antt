-- `judging::record_refusal` meets its contract. Assumes nothing.
use mathlib.Core.Path.{refl, ap, ◌∙◌}
use Rattle.refusals.specs.Refusals.{number_in}
use Rattle.planning.proofs.Ways.{test_is, cond_is}
use Rattle.planning.proofs.judging.record_refusal.Goals as goal

pub returns-then-uses_record : goal.returns-then-uses_record
returns-then-uses_record c = cond_is _ _ _ _ _ (test_is _ _ _ c.uses_record.ensures c.if-uses_record.true) (c.number_in.ensures ∙ ap number_in c.judge_worker.ensures)

pub returns-else-uses_record : goal.returns-else-uses_record
returns-else-uses_record c = cond_is _ _ _ _ _ (test_is _ _ _ c.uses_record.ensures c.if-uses_record.false) refl
