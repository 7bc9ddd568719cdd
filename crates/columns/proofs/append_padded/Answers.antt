-- `columns::append_padded` meets its contract. Assumes nothing.
use native.Mathlib.Omega.{arith}
use Rattle.columns.proofs.Blanks.{padded_both}
use Rattle.columns.proofs.append_padded.Goals as goal

pub returns : goal.returns
returns c = padded_both _ _ (omega arith) c.append_blanks-at.ensures c.append.ensures
