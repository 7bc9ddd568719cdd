-- `inner::worth` meets its contract. Assumes nothing.
use mathlib.Core.Path.{sym, ◌∙◌}
use lib.Ieee.{div, of_bits}
use Rattle.depths.proofs.Worths.{worth_finite, worth_none}
use Rattle.depths.proofs.inner.worth.Goals as goal

pub returns-then-is_finite : goal.returns-then-is_finite
returns-then-is_finite c = worth_finite _ _ _ _ c.divisor.ensures (sym c.is_finite.ensures ∙ c.if-is_finite.true)

pub returns-else-is_finite : goal.returns-else-is_finite
unfolding div of_bits
returns-else-is_finite c = worth_none _ _ _ (sym c.is_finite.ensures ∙ c.if-is_finite.false)
