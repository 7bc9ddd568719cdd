-- `frac::deepest_of` meets its contract. Assumes nothing.
use Rattle.std.proofs.Common.{sym, ◌∙◌, arith}
use Rattle.step_times.proofs.Turns.{deepest_turn, deepest_end}
use Rattle.step_times.proofs.frac.deepest_of.Goals as goal

pub loop-depth-preserved : goal.loop-depth-preserved
loop-depth-preserved c = rw c.deeper_of-best.ensures (sym (deepest_turn c.args.depths.now c.args.g c.loop-depth.best c.loop-depth.depth-index (omega arith)) ∙ c.loop-depth.invariant)

pub returns : goal.returns
returns c = sym (deepest_end c.args.depths.now c.args.g c.loop-depth.best c.loop-depth.depth-index (omega arith)) ∙ c.loop-depth.invariant
