-- `page::append_decimal` meets its contract. Assumes nothing.
use native.Mathlib.Omega.{arith}
use Rattle.page.proofs.Adding.{renamed}
use Rattle.page.proofs.Spelling.{decimal_is}
use Rattle.page.proofs.append_decimal.Goals as goal

pub returns : goal.returns
returns c = renamed (decimal_is _ _ _ (omega (arith, c.ranges.n)) c.decimal-k.ensures.len c.decimal-k.ensures.digits) c.append.ensures
