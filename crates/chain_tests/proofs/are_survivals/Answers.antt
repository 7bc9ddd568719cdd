-- `are_survivals` meets its contract: nothing is wrong so far, and the entries left are survivals, where all are. Assumes nothing.
use native.Mathlib.Omega.{arith}
use Rattle.chain_tests.proofs.Faults.{faults_next, faults_end}
use Rattle.chain_tests.proofs.are_survivals.Goals as goal

pub loop-x-preserved : goal.loop-x-preserved
loop-x-preserved c =
    let here = c.loop-x in (
      omega (arith, c.below_zero.ensures.upper_bound, c.past_one.ensures.upper_bound, here.invariant),
      faults_next c.args.values.now here.x-index here.faults here.invariant.1 _ _ c.loop-x-test.true c.below_zero.ensures.value c.past_one.ensures.value,
    )

pub returns : goal.returns
returns c = faults_end c.args.values.now c.loop-x.x-index c.loop-x.faults c.loop-x.invariant.1 c.loop-x-test.false
