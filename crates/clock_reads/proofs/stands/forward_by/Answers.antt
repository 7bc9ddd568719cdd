-- `clock_reads::stands::forward_by` meets its contract. Assumes nothing.
use Rattle.clock_reads.proofs.Ways.{forward_behind, forward_far, forward_near}
use Rattle.clock_reads.proofs.stands.forward_by.Goals as goal

pub returns-then-second-high : goal.returns-then-second-high
returns-then-second-high c = forward_behind c.args.high c.args.second c.if-second-high.true

pub returns-then-by-gt-HOUR : goal.returns-then-by-gt-HOUR
returns-then-by-gt-HOUR c = forward_far c.args.high c.args.second c.if-by-gt-HOUR.true

pub returns-else-by-gt-HOUR : goal.returns-else-by-gt-HOUR
returns-else-by-gt-HOUR c = forward_near c.args.high c.args.second c.if-by-gt-HOUR.false
