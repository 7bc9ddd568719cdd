-- `day_clock::changed` meets its contract: each way out is a law of its own. Assumes nothing.
use Rattle.day_clock.proofs.Ways.{changed_short, changed_done}
use Rattle.day_clock.proofs.changed.Goals as goal

pub returns-then-clock-ge-WORDS : goal.returns-then-clock-ge-WORDS
returns-then-clock-ge-WORDS c = changed_done c.args.clock.now c.if-clock-ge-WORDS.true _ c.push.ensures

pub returns-else-clock-ge-WORDS : goal.returns-else-clock-ge-WORDS
returns-else-clock-ge-WORDS c = changed_short c.args.clock.now c.if-clock-ge-WORDS.false
