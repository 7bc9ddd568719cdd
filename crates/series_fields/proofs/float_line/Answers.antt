-- `series_fields::float_line` meets its contract. Assumes nothing.
use Rattle.page.proofs.Adding.{both}
use Rattle.series_fields.specs.Fields.{float_line}
use Rattle.series_fields.proofs.float_line.Goals as goal

pub returns : goal.returns
unfolding float_line
returns c = both c.append_decimal-a.ensures (both c.append-b.ensures (both c.append_figure-c.ensures (both c.bits_field-d.ensures c.append.ensures)))
