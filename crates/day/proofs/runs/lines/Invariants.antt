use Rattle.std.proofs.Common.{◌≡◌, ◌≤◌, length}
use Rattle.day.proofs.runs.lines.Given as goal

abbrev pub invariant-loop-rest : goal.invariant-loop-rest
invariant-loop-rest l = (length l.rest ≤ length l.day) × (length l.set ≡ length l.initial.set) × (length l.floats ≡ length l.initial.floats) × (length l.wholes ≡ length l.initial.wholes) × (length l.storage ≡ length l.initial.storage) × (length l.clock ≡ length l.initial.clock) × (length l.file ≡ length l.initial.file) × (length l.page ≡ length l.initial.page)

abbrev pub decreases-loop-rest : goal.decreases-loop-rest
decreases-loop-rest l = length l.rest
