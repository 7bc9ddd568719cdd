-- `batch::lay_products` meets its contract: the products are stored one after the other from a place on. Assumes nothing.
use Rattle.rounds.proofs.Multiplying.{Multiplying}
use Rattle.rounds.proofs.batch.lay_products.Given as goal

abbrev pub invariant-loop-d : goal.invariant-loop-d
invariant-loop-d l = Multiplying l.signal l.initial.chains l.at l.chains l.s l.d
