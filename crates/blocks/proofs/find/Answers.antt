-- `blocks::find` meets its contract: blocks without the byte are passed. Assumes nothing.
use native.Mathlib.Omega.{arith}
use Rattle.blocks.proofs.Finding.{find_le, part_length}
use Rattle.blocks.proofs.Tallies.{find_further}
use Rattle.blocks.proofs.find.Goals as goal

pub overflow_add-result : goal.overflow_add-result
overflow_add-result c = omega (arith, c.find.ensures, find_le c.args.byte c.loop-rest.rest.now)

pub loop-rest-preserved : goal.loop-rest-preserved
loop-rest-preserved c =
    let r = c.loop-rest.rest.now in
    (omega (arith, part_length 64 r), find_further c.args.s.now r c.loop-rest-test.true c.args.byte c.loop-rest.passed c.count_in.result c.loop-rest.invariant.1 c.count_in.ensures (omega arith))

pub overflow_add-result-2 : goal.overflow_add-result-2
overflow_add-result-2 c = omega (arith, c.find-2.ensures, find_le c.args.byte c.loop-rest.rest.now)
