-- `draws::put_front` meets its contract: each turn stores one number more. Assumes nothing.
use native.Mathlib.Omega.{arith}
use Rattle.plan_draws.proofs.Fronts.{front_next, front_all}
use Rattle.plan_draws.proofs.draws.put_front.Goals as goal

pub loop-k-preserved : goal.loop-k-preserved
loop-k-preserved c = front_next c.args.commits.now c.args.drawn.now c.loop-k.k c.loop-k.commits c.requires c.loop-k-test.true c.loop-k.invariant

pub returns : goal.returns
returns c = front_all c.args.commits.now c.args.drawn.now c.loop-k.k c.loop-k.commits (omega arith) c.loop-k-test.false c.loop-k.invariant
