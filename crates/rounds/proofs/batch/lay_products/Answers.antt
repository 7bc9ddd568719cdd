-- `batch::lay_products` meets its contract: the products are stored one after the other from a place on. Assumes nothing.
use mathlib.Core.Path.{ap}
use Rattle.float.specs.Floats.{times}
use Rattle.rounds.proofs.Multiplying.{multiplying_next, multiplying_ends}
use Rattle.rounds.proofs.batch.lay_products.Goals as goal

pub loop-d-preserved : goal.loop-d-preserved
loop-d-preserved c =
    let here = c.loop-d in
    multiplying_next _ _ _ here.chains here.s here.d _ c.loop-d-test.true (ap (times here.s) c.clamp_unit-s.ensures) here.invariant

pub returns : goal.returns
returns c = multiplying_ends _ _ _ c.loop-d.chains c.loop-d.s c.loop-d.d c.loop-d-test.false c.loop-d.invariant
