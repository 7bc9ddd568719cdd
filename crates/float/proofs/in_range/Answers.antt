-- `float::in_range` meets its contract: the definition's first test is `is_clear`, and the rest is `within`. Assumes nothing.
use mathlib.Core.Path.{sym, ◌∙◌}
use Rattle.float.proofs.Ranges.{clear_within, not_clear_out}
use Rattle.float.proofs.in_range.Goals as goal

pub returns-then-is_clear : goal.returns-then-is_clear
returns-then-is_clear c = c.within.ensures ∙ sym (clear_within _ _ _ (sym c.is_clear.ensures ∙ c.if-is_clear.true))

pub returns-else-is_clear : goal.returns-else-is_clear
returns-else-is_clear c = sym (not_clear_out _ _ _ (sym c.is_clear.ensures ∙ c.if-is_clear.false))
