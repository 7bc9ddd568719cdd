-- `judging::held_refusal` meets its contract: the first of the two refusals. Assumes nothing.
use mathlib.Core.Path.{ap, ◌∙◌}
use Rattle.refusals.specs.Refusals.{number_in}
use Rattle.refusals.proofs.First.{goes_first, goes_next}
use Rattle.ledger.specs.Calls.{step_judged}
use Rattle.planning.proofs.judging.held_refusal.Goals as goal

pub returns-then-of_record-gt0 : goal.returns-then-of_record-gt0
returns-then-of_record-gt0 c = goes_first _ _ _ c.record_refusal-of_record.ensures c.if-of_record-gt0.true

pub returns : goal.returns
returns c = c.number_in.ensures ∙ ap number_in c.judge_step.ensures ∙ ap (step_judged c.args.storage.now) c.second.ensures ∙ goes_next _ _ _ c.record_refusal-of_record.ensures c.if-of_record-gt0.false
