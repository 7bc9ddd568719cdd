-- `clock_reads::shows::stand_of` meets its contract. Assumes nothing.
use Rattle.clock_reads.proofs.Ways.{stand_none, stand_some}
use Rattle.clock_reads.proofs.shows.stand_of.Goals as goal

pub returns-then-last-eq0 : goal.returns-then-last-eq0
returns-then-last-eq0 c = stand_none c.args.clock.now c.args.ring c.args.last c.args.second c.if-last-eq0.true

pub returns : goal.returns
returns c =
    let a = c.args in
    stand_some a.clock.now a.ring a.last a.second c.word_at-high.result c.word_at-until.result c.word_at-earlier.result c.word_at-again.result c.if-last-eq0.false c.word_at-high.ensures c.word_at-until.ensures c.word_at-earlier.ensures c.word_at-again.ensures
