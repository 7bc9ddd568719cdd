-- `inner::candidates_of` meets its contract: what is found and what is left to find are the candidates. Assumes nothing.
use native.Mathlib.Omega.{arith}
use Rattle.switching.proofs.Slots.{slots_turn, slots_end}
use Rattle.switching.proofs.inner.candidates_of.Goals as goal

pub loop-g-preserved : goal.loop-g-preserved
loop-g-preserved c = slots_turn c.args.curve.now c.loop-g.found _ c.loop-g.g (omega arith) c.loop-g-test.true c.with_depth-found.ensures c.loop-g.invariant

pub returns : goal.returns
returns c = slots_end c.args.curve.now c.loop-g.found c.loop-g.g (omega arith) c.loop-g-test.false c.loop-g.invariant
