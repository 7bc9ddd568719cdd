-- `clock_reads::shows::last_plan` meets its contract. Assumes nothing.
use Rattle.clock_reads.proofs.Ways.{last_few, last_many}
use Rattle.clock_reads.proofs.shows.last_plan.Goals as goal

pub returns-then-plans-kept : goal.returns-then-plans-kept
returns-then-plans-kept c =
    let a = c.args in
    last_few a.clock.now a.ring a.plans a.a a.b c.newest.result c.if-plans-kept.true c.newest.ensures

pub returns : goal.returns
returns c =
    let a = c.args in
    last_many a.clock.now a.ring a.plans a.a a.b c.newest-2.result c.if-plans-kept.false c.newest-2.ensures
