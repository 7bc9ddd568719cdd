-- `page::append_hex` meets its contract. Assumes nothing.
use native.Mathlib.Omega.{arith}
use Rattle.page.proofs.Adding.{renamed}
use Rattle.page.proofs.Spelling.{hex_is}
use Rattle.page.proofs.append_hex.Goals as goal

pub returns : goal.returns
returns c = renamed (hex_is _ _ _ (omega (arith, c.ranges.n)) c.hex-k.ensures.len c.hex-k.ensures.digits) c.append.ensures
