-- `series_fields::bits_field` meets its contract. Assumes nothing.
use mathlib.Core.Path.{ap}
use Rattle.page.specs.Numbers.{sixteen}
use Rattle.page.proofs.Adding.{both, renamed}
use Rattle.series_fields.specs.Fields.{bits_field}
use Rattle.series_fields.proofs.bits_field.Goals as goal

pub returns : goal.returns
unfolding bits_field
returns c = both c.append-at.ensures (renamed (ap sixteen c.bits-bits.ensures) c.append_hex.ensures)
