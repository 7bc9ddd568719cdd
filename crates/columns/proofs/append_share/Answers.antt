-- `columns::append_share` meets its contract. Assumes nothing.
use native.Mathlib.Omega.{arith}
use Rattle.columns.proofs.Blanks.{front_length, from_front}
use Rattle.columns.proofs.Lengths.{share_short}
use Rattle.columns.proofs.append_share.Goals as goal

pub slice_bounds-append_padded-end : goal.slice_bounds-append_padded-end
slice_bounds-append_padded-end c = front_length c.append_share-k.ensures

pub returns : goal.returns
returns c = from_front _ (omega (arith, share_short c.args.part c.args.whole)) c.append_share-k.ensures c.append_padded.ensures
