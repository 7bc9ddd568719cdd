-- `float::in_range_or_infinite` meets its contract: the definition's first test is `in_range`, and the pattern is +infinity's. Assumes nothing.
use mathlib.Core.Path.{sym, ◌∙◌}
use lib.Ieee.{nan_bits}
use Rattle.float.proofs.Ranges.{or_range, or_else}
use Rattle.float.proofs.in_range_or_infinite.Goals as goal

pub returns-then-in_range : goal.returns-then-in_range
returns-then-in_range c = sym (or_range _ _ _ (sym c.in_range.ensures ∙ c.if-in_range.true))

pub float_from_bits-result : goal.float_from_bits-result
unfolding nan_bits
float_from_bits-result c = tt

pub returns : goal.returns
returns c = sym (or_else _ _ _ (sym c.in_range.ensures ∙ c.if-in_range.false))
