use Rattle.std.proofs.Common.{◌≤◌, length}
use Rattle.replay_ledger.proofs.sequence.play_calls.Given as goal

abbrev pub invariant-loop : goal.invariant-loop
invariant-loop l = (l.from ≤ length l.calls) × (l.at ≤ length l.ours)
