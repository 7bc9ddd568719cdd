-- `day_fields_line_judged` meets its contract. Assumes nothing.
use mathlib.Core.Path.{ap, ◌∙◌}
use Rattle.exported_days.specs.Days.{judged_told}
use Rattle.exported_days.proofs.lines.day_fields_line_judged.Goals as goal

pub returns : goal.returns
returns c = c.judged_told.ensures ∙ ap judged_told c.line_judged.ensures
