-- `day_fields_whole_in` meets its contract. Assumes nothing.
use mathlib.Core.Path.{ap, ◌∙◌}
use Rattle.exported.specs.Spelled.{whole_told}
use Rattle.exported_days.proofs.lines.day_fields_whole_in.Goals as goal

pub returns : goal.returns
returns c = c.whole_told.ensures ∙ ap whole_told c.whole_in.ensures
