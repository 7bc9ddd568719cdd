-- `uses::uses_record` meets its contract. Assumes nothing.
use mathlib.Core.Path.{sym, ap, ◌∙◌}
use mathlib.Core.Bool.{not}
use Rattle.planning.specs.Steps.{put_under}
use Rattle.planning.proofs.uses.uses_record.Goals as goal

pub returns-in-GatedAggregate : goal.returns-in-GatedAggregate
returns-in-GatedAggregate c = ap not c.is_unconstrained.ensures ∙ sym (ap (put_under c.args.switch) c.in-GatedAggregate.is)
