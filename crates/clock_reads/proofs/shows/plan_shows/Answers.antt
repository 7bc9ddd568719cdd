-- `clock_reads::shows::plan_shows` meets its contract. Assumes nothing.
use Rattle.clock_reads.proofs.Ways.{shown_plan}
use Rattle.clock_reads.proofs.shows.plan_shows.Goals as goal

pub returns : goal.returns
returns c =
    let a = c.args in
    shown_plan a.clock.now a.ring a.plans a.second a.a a.b c.last_plan-last.result c.stand_of-old.result c.shown_by.result c.last_plan-last.ensures c.stand_of-old.ensures c.shown_by.ensures
