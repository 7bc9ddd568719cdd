-- `float::is_clear` meets its contract: what equals itself is no NaN, and of no NaN the sign bit is the pattern's highest. Assumes nothing.
use mathlib.Core.Path.{sym}
use Rattle.float.proofs.Classes.{self_equal, self_unequal, nan_not_clear}
use Rattle.float.proofs.Patterns.{pattern_clear}
use Rattle.float.proofs.is_clear.Goals as goal

pub returns-then-x : goal.returns-then-x
returns-then-x c = rw c.bits.ensures (pattern_clear _ c.well_formed.0.1 (self_equal _ c.if-x.true))

pub returns-else-x : goal.returns-else-x
returns-else-x c = sym (nan_not_clear _ (self_unequal _ c.if-x.false))
