-- `day_clock::taken_back` meets its contract: each way out is a law of its own; `using` names those of a clock of enough words. Assumes nothing.
use Rattle.day_clock.proofs.Ways.{back_short}
use Rattle.day_clock.proofs.taken_back.Goals as goal

pub returns-then-clock-lt-WORDS : goal.returns-then-clock-lt-WORDS
returns-then-clock-lt-WORDS c = back_short c.args.clock.now c.if-clock-lt-WORDS.true
