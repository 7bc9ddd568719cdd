-- `text::field_count` meets its contract: a line has one field more than commas. Assumes nothing.
use native.Mathlib.Omega.{arith}
use Rattle.blocks.specs.Blocks.{is_byte}
use Rattle.blocks.proofs.Tallies.{tally_le}
use Rattle.text.proofs.Laws.{fields_counted}
use Rattle.text.proofs.field_count.Goals as goal

pub overflow_add-result : goal.overflow_add-result
overflow_add-result c = omega (arith, c.count.ensures, tally_le (is_byte 44) c.args.s.now)

pub returns : goal.returns
returns c = omega (arith, c.count.ensures, fields_counted c.args.s.now)
