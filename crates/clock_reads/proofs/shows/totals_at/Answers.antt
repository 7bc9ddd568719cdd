-- `clock_reads::shows::totals_at` meets its contract. Assumes nothing.
use Rattle.clock_reads.proofs.Ways.{totals_none, totals_some}
use Rattle.clock_reads.proofs.shows.totals_at.Goals as goal

pub returns-then-plans-eq0 : goal.returns-then-plans-eq0
returns-then-plans-eq0 c = totals_none c.args.clock.now c.args.ring c.args.plans c.if-plans-eq0.true

pub returns : goal.returns
returns c =
    let a = c.args in
    totals_some a.clock.now a.ring a.plans c.word_at-workers.result c.word_at-back.result c.word_at-forward.result c.word_at-doubled.result c.if-plans-eq0.false c.word_at-workers.ensures c.word_at-back.ensures c.word_at-forward.ensures c.word_at-doubled.ensures
