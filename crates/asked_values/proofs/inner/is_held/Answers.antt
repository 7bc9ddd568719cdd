-- `is_held` meets its contract: each way out is a law of the judge. Assumes nothing.
use mathlib.Core.Path.{sym, ◌∙◌}
use Rattle.asked_values.proofs.Judges.{held_none, held_wide, held_long, held_infinite, held_tested}
use Rattle.asked_values.proofs.inner.is_held.Goals as goal

pub returns-then-past-ne2 : goal.returns-then-past-ne2
returns-then-past-ne2 c = held_none c.args.past c.if-past-ne2.true

pub returns-then-past-gt-MOST_WIDTH : goal.returns-then-past-gt-MOST_WIDTH
returns-then-past-gt-MOST_WIDTH c = held_wide c.args.past c.if-past-ne2.false c.if-past-gt-MOST_WIDTH.true

pub returns-then-past-gt-MOST_ROUNDS : goal.returns-then-past-gt-MOST_ROUNDS
returns-then-past-gt-MOST_ROUNDS c = held_long c.args.past c.if-past-ne2.false c.if-past-gt-MOST_WIDTH.false c.if-past-gt-MOST_ROUNDS.true

pub returns-then-is_finite : goal.returns-then-is_finite
returns-then-is_finite c =
    held_tested c.args.past c.if-past-ne2.false c.if-past-gt-MOST_WIDTH.false c.if-past-gt-MOST_ROUNDS.false _ c.of_bits-stall.ensures _ (sym c.is_finite.ensures ∙ c.if-is_finite.true) c.is_clear.ensures

pub returns-else-is_finite : goal.returns-else-is_finite
returns-else-is_finite c = held_infinite c.args.past c.if-past-ne2.false c.if-past-gt-MOST_WIDTH.false c.if-past-gt-MOST_ROUNDS.false _ c.of_bits-stall.ensures (sym c.is_finite.ensures ∙ c.if-is_finite.false)
