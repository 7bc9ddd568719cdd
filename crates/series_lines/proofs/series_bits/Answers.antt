-- `series_lines::series_bits` meets its contract. Assumes nothing.
use Rattle.page.proofs.Adding.{both}
use Rattle.series_lines.specs.Lines.{series_bits}
use Rattle.series_lines.proofs.series_bits.Goals as goal

pub returns : goal.returns
unfolding series_bits
returns c = both c.append_decimal-a.ensures (both c.column-b.ensures (both c.bits_field-c.ensures (both c.bits_field-d.ensures (both c.bits_field-e.ensures c.append.ensures))))
