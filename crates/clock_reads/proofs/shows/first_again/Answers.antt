-- `clock_reads::shows::first_again` meets its contract. Assumes nothing.
use Rattle.clock_reads.proofs.Ways.{first_not, first_is, first_past}
use Rattle.clock_reads.proofs.shows.first_again.Goals as goal

pub returns-then-counted-eq0 : goal.returns-then-counted-eq0
returns-then-counted-eq0 c =
    let a = c.args in
    first_not a.clock.now a.ring a.plans a.second a.stand a.counted c.if-counted-eq0.true

pub returns-then-stand-eq0 : goal.returns-then-stand-eq0
returns-then-stand-eq0 c =
    let a = c.args in
    first_is a.clock.now a.ring a.plans a.second a.stand a.counted c.standing.result c.if-counted-eq0.false c.if-stand-eq0.true c.standing.ensures

pub returns : goal.returns
returns c =
    let a = c.args in
    first_past a.clock.now a.ring a.plans a.second a.stand a.counted c.if-counted-eq0.false c.if-stand-eq0.false
