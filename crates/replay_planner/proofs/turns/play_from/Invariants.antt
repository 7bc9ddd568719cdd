use Rattle.std.proofs.Common.{◌≡◌, ◌≤◌, length}
use Rattle.replay_planner.proofs.turns.play_from.Given as goal

abbrev pub invariant-loop-rest : goal.invariant-loop-rest
invariant-loop-rest l = (length l.rest ≤ length l.input) × (l.at ≤ length l.ours) × (length l.set ≡ length l.initial.set) × (length l.floats ≡ length l.initial.floats) × (length l.wholes ≡ length l.initial.wholes) × (length l.storage ≡ length l.initial.storage) × (length l.ours ≡ length l.initial.ours)

abbrev pub decreases-loop-rest : goal.decreases-loop-rest
decreases-loop-rest l = length l.rest
