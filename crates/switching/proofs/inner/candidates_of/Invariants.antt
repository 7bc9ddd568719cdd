-- `inner::candidates_of` meets its contract: what is found and what is left to find are the candidates. Assumes nothing.
use Rattle.switching.proofs.Slots.{Found}
use Rattle.switching.proofs.inner.candidates_of.Given as goal

abbrev pub invariant-loop-g : goal.invariant-loop-g
invariant-loop-g l = Found l.curve l.found l.g
