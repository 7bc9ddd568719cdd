-- `clock_reads::stands::moved` meets its contract. Assumes nothing.
use Rattle.clock_reads.proofs.Ways.{moved_on, moved_back}
use Rattle.clock_reads.proofs.stands.moved.Goals as goal

pub returns-then-back_by-eq0 : goal.returns-then-back_by-eq0
returns-then-back_by-eq0 c =
    let a = c.args in
    moved_on a.old a.last a.second c.back_by.result c.higher.result c.back_by.ensures c.if-back_by-eq0.true c.higher.ensures

pub returns : goal.returns
returns c =
    let a = c.args in
    moved_back a.old a.last a.second c.back_by.result c.higher-2.result c.back_by.ensures c.if-back_by-eq0.false c.higher-2.ensures
