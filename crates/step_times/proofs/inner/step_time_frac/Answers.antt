-- `inner::step_time_frac` meets its contract. Assumes nothing.
use Rattle.std.proofs.Common.{sym, ◌∙◌}
use Rattle.step_times.proofs.Fractions.{not_asked, none_below, none_above, between_both}
use Rattle.step_times.proofs.inner.step_time_frac.Goals as goal

pub returns-then-not-is_asked : goal.returns-then-not-is_asked
returns-then-not-is_asked c = not_asked c.args.rows c.args.depths.now c.args.batches.now c.args.seconds.now c.requires.rows_in_bounds c.args.batch c.args.g (sym c.is_asked.ensures ∙ c.if-not-is_asked.true)

pub returns-in_err-low : goal.returns-in_err-low
returns-in_err-low c = c.from_residual.ensures ∙ none_below c.args.rows c.args.depths.now c.args.batches.now c.args.seconds.now c.requires.rows_in_bounds c.args.batch c.args.g (sym c.is_asked.ensures ∙ c.if-not-is_asked.false) (sym c.deepest_of.ensures ∙ c.in_err-low.was)

pub returns-in_err-high : goal.returns-in_err-high
returns-in_err-high c = c.from_residual-in_err-high.ensures ∙ none_above c.args.rows c.args.depths.now c.args.batches.now c.args.seconds.now c.requires.rows_in_bounds c.args.batch c.args.g c.in_ok-low.low (sym c.is_asked.ensures ∙ c.if-not-is_asked.false) (sym c.deepest_of.ensures ∙ c.in_ok-low.was) (sym c.shallowest_of.ensures ∙ c.in_err-high.was)

pub returns : goal.returns
returns c = between_both c.args.rows c.args.depths.now c.args.batches.now c.args.seconds.now c.requires.rows_in_bounds c.args.batch c.args.g c.in_ok-low.low c.in_ok-high.high c.nearest_of-at_low.result c.nearest_of-at_high.result _ (sym c.is_asked.ensures ∙ c.if-not-is_asked.false) (sym c.deepest_of.ensures ∙ c.in_ok-low.was) (sym c.shallowest_of.ensures ∙ c.in_ok-high.was) c.nearest_of-at_low.ensures c.nearest_of-at_high.ensures c.straight_between.ensures
