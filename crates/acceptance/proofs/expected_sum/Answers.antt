-- `acceptance::expected_sum` meets its contract: both numbers are the definitions' at each draft. Assumes nothing.
use Rattle.acceptance.proofs.Expectation.{sum_starts, sum_next}
use Rattle.acceptance.proofs.expected_sum.Goals as goal

pub loop-d-init : goal.loop-d-init
loop-d-init c = sum_starts _ _

pub loop-d-preserved : goal.loop-d-preserved
loop-d-preserved c =
    let a = c.args in
    let here = c.loop-d in
    sum_next a.model a.positions.now here.d _ _ _ here.invariant.0 here.invariant.1 c.a_d-prefix.ensures
