-- `day_fields_decimal_in` meets its contract. Assumes nothing.
use mathlib.Core.Path.{ap, ◌∙◌}
use Rattle.exported.specs.Spelled.{decimal_told}
use Rattle.exported_days.proofs.lines.day_fields_decimal_in.Goals as goal

pub returns : goal.returns
returns c = c.decimal_told.ensures ∙ ap decimal_told c.decimal_in.ensures
