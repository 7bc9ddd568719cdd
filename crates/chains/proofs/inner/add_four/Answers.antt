-- `inner::add_four` meets its contract. The invariant: what is summed, followed by what is left with the rest of the four chains added, is the whole. Assumes nothing.
use Rattle.chains.proofs.Four.{four_next, four_ended}
use Rattle.chains.proofs.inner.add_four.Goals as goal

pub loop-d-preserved : goal.loop-d-preserved
loop-d-preserved c =
    let a = c.args in
    let here = c.loop-d in
    four_next a.width a.block.now a.sums.now here.sums here.p here.q here.r here.s here.d c.requires.block_len c.requires.width_bound here.invariant c.requires.width_in_bounds c.loop-d-test.true

pub returns : goal.returns
returns c =
    let a = c.args in
    let here = c.loop-d in
    four_ended a.width a.block.now a.sums.now here.sums here.p here.q here.r here.s here.d c.requires.block_len c.requires.width_bound here.invariant c.loop-d-test.false
