-- `columns::append_mean` meets its contract. Assumes nothing.
use native.Mathlib.Omega.{arith}
use Rattle.columns.proofs.Blanks.{front_length, from_front}
use Rattle.columns.proofs.Lengths.{mean_short}
use Rattle.columns.proofs.append_mean.Goals as goal

pub slice_bounds-append_padded-end : goal.slice_bounds-append_padded-end
slice_bounds-append_padded-end c = front_length c.append_mean-k.ensures

pub returns : goal.returns
returns c = from_front _ (omega (arith, mean_short c.args.sum c.args.count)) c.append_mean-k.ensures c.append_padded.ensures
