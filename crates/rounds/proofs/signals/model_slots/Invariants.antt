-- `signals::model_slots` meets its contract: the model's values are stored one after the other over 64 zeros. Assumes nothing.
use Rattle.rounds.specs.Signals.{slots, values_from}
use Rattle.rounds.proofs.Laid.{Storing}
use Rattle.rounds.proofs.signals.model_slots.Given as goal

abbrev pub invariant-loop-d : goal.invariant-loop-d
invariant-loop-d l = Storing (values_from l.model l.positions 0 l.gamma) (slots (values_from l.model l.positions 0 l.gamma)) 64 0 l.out l.d
