-- `batch::lay_rounds` meets its contract: the chains from each sequence on are laid from its slots on. Assumes nothing.
use lib.ListN.{drop}
use Rattle.rounds.specs.Signals.{round_chains}
use Rattle.rounds.proofs.Laying.{Laying}
use Rattle.rounds.proofs.batch.lay_rounds.Given as goal

abbrev pub invariant-loop-k : goal.invariant-loop-k
invariant-loop-k l = Laying (round_chains l.signals l.depth l.gamma l.indices) l.initial.chains l.chains l.k (round_chains l.signals l.depth l.gamma (drop l.k l.indices))
