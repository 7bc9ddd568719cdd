-- `clock_reads::shows::shown_by` meets its contract. Assumes nothing.
use Rattle.clock_reads.proofs.Ways.{shown_all}
use Rattle.clock_reads.proofs.shows.shown_by.Goals as goal

pub returns : goal.returns
returns c =
    let a = c.args in
    shown_all a.clock.now a.ring a.plans a.second a.last c.back_by-back.result c.forward_by-forward.result c.counted_again-counted.result c.first_again-doubled.result c.wrapping_add_u64-again.result a.old c.moved-new.result
    c.back_by-back.ensures c.forward_by-forward.ensures c.moved-new.ensures c.counted_again-counted.ensures c.first_again-doubled.ensures c.wrapping_add_u64-again.ensures.value
