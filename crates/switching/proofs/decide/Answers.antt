-- `switching::decide` meets its contract: where nothing is refused the counter and the curve are in range. Assumes nothing.
use mathlib.Core.Path.{sym, ◌∙◌}
use Rattle.switching.proofs.Steps.{decide_rounds, decide_depths}
use Rattle.switching.proofs.decide.Goals as goal

pub decided-kept-requires-clause-rounds_bound : goal.decided-kept-requires-clause-rounds_bound
decided-kept-requires-clause-rounds_bound c = let a = c.args in decide_rounds a.held a.curve.now a.constraints (sym c.judge.ensures ∙ c.in-Ok.is)

pub decided-kept-requires-clause-curve_len_bound : goal.decided-kept-requires-clause-curve_len_bound
decided-kept-requires-clause-curve_len_bound c = let a = c.args in decide_depths a.held a.curve.now a.constraints (sym c.judge.ensures ∙ c.in-Ok.is)
