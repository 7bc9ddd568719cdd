-- `columns::append_number` meets its contract. Assumes nothing.
use native.Mathlib.Omega.{arith}
use Rattle.columns.proofs.Blanks.{front_length, from_front}
use Rattle.columns.proofs.Lengths.{decimal_short}
use Rattle.columns.proofs.append_number.Goals as goal

pub slice_bounds-append_padded-end : goal.slice_bounds-append_padded-end
slice_bounds-append_padded-end c = front_length c.append_decimal-k.ensures

pub returns : goal.returns
returns c = from_front _ (omega (arith, decimal_short c.args.n)) c.append_decimal-k.ensures c.append_padded.ensures
