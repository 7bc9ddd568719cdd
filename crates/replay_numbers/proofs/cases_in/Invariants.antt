use Rattle.std.proofs.Common.{◌≤◌, ◌-◌, length}
use Rattle.replay_numbers.proofs.cases_in.Given as goal

abbrev pub invariant-loop-size : goal.invariant-loop-size
invariant-loop-size l = l.at ≤ length l.bytes

abbrev pub decreases-loop-size : goal.decreases-loop-size
decreases-loop-size l = length l.bytes - l.at
