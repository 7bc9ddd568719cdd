-- `clock_reads::shows::counted_again` meets its contract. Assumes nothing.
use Rattle.clock_reads.proofs.Ways.{again_later, again_holds, again_not}
use Rattle.clock_reads.proofs.shows.counted_again.Goals as goal

pub returns-then-stand-second : goal.returns-then-stand-second
returns-then-stand-second c =
    let a = c.args in
    again_later a.clock.now a.ring a.plans a.second a.stand c.if-stand-second.true

pub returns-then-holds : goal.returns-then-holds
returns-then-holds c =
    let a = c.args in
    again_holds a.clock.now a.ring a.plans a.second a.stand c.holds.result c.if-stand-second.false c.holds.ensures c.if-holds.true

pub returns-else-holds : goal.returns-else-holds
returns-else-holds c =
    let a = c.args in
    again_not a.clock.now a.ring a.plans a.second a.stand c.holds.result c.if-stand-second.false c.holds.ensures c.if-holds.false
