-- `clock_reads::stands::back_by` meets its contract. Assumes nothing.
use Rattle.clock_reads.proofs.Ways.{back_ahead, back_late, back_far}
use Rattle.clock_reads.proofs.stands.back_by.Goals as goal

pub returns-then-high-second : goal.returns-then-high-second
returns-then-high-second c = back_ahead c.args.high c.args.second c.if-high-second.true

pub returns-then-by-lt-LATE : goal.returns-then-by-lt-LATE
returns-then-by-lt-LATE c = back_late c.args.high c.args.second c.if-by-lt-LATE.true

pub returns-else-by-lt-LATE : goal.returns-else-by-lt-LATE
returns-else-by-lt-LATE c = back_far c.args.high c.args.second c.if-by-lt-LATE.false
