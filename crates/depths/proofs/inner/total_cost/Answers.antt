-- `inner::total_cost` meets its contract. Assumes nothing.
use mathlib.Core.Path.{sym, ◌∙◌}
use Rattle.depths.specs.Pricing.{total_cost}
use Rattle.depths.proofs.inner.total_cost.Goals as goal

pub returns-then-is_finite : goal.returns-then-is_finite
unfolding total_cost
returns-then-is_finite c = simp (sym c.is_finite.ensures ∙ c.if-is_finite.true, c.seconds.ensures)

pub returns-else-is_finite : goal.returns-else-is_finite
unfolding total_cost
returns-else-is_finite c = simp (sym c.is_finite.ensures ∙ c.if-is_finite.false)
