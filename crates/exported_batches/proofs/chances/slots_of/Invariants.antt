-- `chances::slots_of` meets its contract: the confidences are stored one after the other over 64 zeros. Assumes nothing.
use Rattle.rounds.specs.Signals.{slots}
use Rattle.rounds.proofs.Laid.{Storing}
use Rattle.exported_batches.proofs.chances.slots_of.Given as goal

abbrev pub invariant-loop-d : goal.invariant-loop-d
invariant-loop-d l = Storing l.confidences (slots l.confidences) 64 0 l.out l.d
