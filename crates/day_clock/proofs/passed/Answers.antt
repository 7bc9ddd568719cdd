-- `day_clock::passed` meets its contract: each way out is a law of its own. Assumes nothing.
use Rattle.day_clock.proofs.Ways.{passed_short, passed_done}
use Rattle.day_clock.proofs.passed.Goals as goal

pub returns-then-clock-lt-WORDS : goal.returns-then-clock-lt-WORDS
returns-then-clock-lt-WORDS c = passed_short c.args.clock.now c.args.second c.if-clock-lt-WORDS.true

pub returns : goal.returns
returns c =
    let a = c.args in
    passed_done a.clock.now c.if-clock-lt-WORDS.false a.second c.back_by-back.result c.mark_of.result _ c.back_by-back.ensures c.mark_of.ensures c.push.ensures
