-- `page::append` meets its contract: what fits of the bytes is put in one piece. Assumes nothing.
use Rattle.page.proofs.Adding.{nothing_fits, front_fits}
use native.Mathlib.Omega.{arith}
use Rattle.page.proofs.append.Goals as goal

pub returns-then-page-used : goal.returns-then-page-used
returns-then-page-used c = nothing_fits _ _ _ (omega arith)

pub returns : goal.returns
returns c = front_fits _ _ _ _ _ c.if-page-used.false c.min-fits.ensures c.copy_from_slice.ensures.after
