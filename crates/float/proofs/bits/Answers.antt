-- `float::bits` meets its contract: what equals itself is no NaN, and for a NaN the library writes the pattern that is returned. Assumes nothing.
use mathlib.Core.Path.{sym}
use Rattle.float.proofs.Classes.{self_unequal}
use Rattle.float.proofs.Patterns.{nan_pattern}
use Rattle.float.proofs.bits.Goals as goal

pub returns-else-x : goal.returns-else-x
returns-else-x c = sym (nan_pattern _ (self_unequal _ c.if-x.false))
