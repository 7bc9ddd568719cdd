use Rattle.std.proofs.Common.{◌≡◌, length}
use Rattle.replay_gates.proofs.replay.Given as goal

abbrev pub invariant-loop : goal.invariant-loop
invariant-loop l = length l.counts ≡ 78
