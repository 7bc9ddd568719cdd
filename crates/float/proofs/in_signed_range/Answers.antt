-- `float::in_signed_range` meets its contract: only what equals itself is no NaN, and the rest is `within`. Assumes nothing.
use mathlib.Core.Path.{sym, ◌∙◌}
use Rattle.float.proofs.Classes.{self_equal, self_unequal}
use Rattle.float.proofs.Ranges.{number_within, nan_out}
use Rattle.float.proofs.in_signed_range.Goals as goal

pub returns-then-x : goal.returns-then-x
returns-then-x c = c.within.ensures ∙ sym (number_within _ _ _ (self_equal _ c.if-x.true))

pub returns-else-x : goal.returns-else-x
returns-else-x c = sym (nan_out _ _ _ (self_unequal _ c.if-x.false))
