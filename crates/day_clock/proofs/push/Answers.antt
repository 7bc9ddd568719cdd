-- `day_clock::push` meets its contract. Assumes nothing.
use Rattle.day_clock.proofs.Ways.{push_done}
use Rattle.day_clock.proofs.push.Goals as goal

pub returns : goal.returns
returns c =
    let a = c.args in
    push_done a.clock.now a.mark c.kept_by-kept.result c.kept_by.result _ c.requires c.kept_by-kept.ensures c.kept_by.ensures c.put_in.ensures
