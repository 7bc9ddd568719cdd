-- `inner::first_of` meets its contract. Assumes nothing.
use mathlib.Core.Path.{sym, ◌∙◌}
use Rattle.nearest_row.proofs.Beside.{first_of_all, first_itself}
use Rattle.nearest_row.proofs.inner.first_of.Goals as goal

pub returns-then-at-lt1 : goal.returns-then-at-lt1
returns-then-at-lt1 c = first_of_all c.args.rows c.args.depths.now c.args.batches.now c.args.seconds.now c.requires.rows_in_bounds.0 c.requires.rows_in_bounds.1 c.requires.rows_in_bounds.2 c.requires.seconds_value c.args.at c.requires.at_lt_rows c.if-at-lt1.true

pub returns-then-goes_before : goal.returns-then-goes_before
returns-then-goes_before c = first_itself c.args.rows c.args.depths.now c.args.batches.now c.args.seconds.now c.requires.rows_in_bounds.0 c.requires.rows_in_bounds.1 c.requires.rows_in_bounds.2 c.requires.seconds_value c.args.at c.requires.at_lt_rows c.if-at-lt1.false (sym c.goes_before.ensures ∙ c.if-goes_before.true)
