-- `batch::lay_model` meets its contract: the same chain is laid for each sequence. Assumes nothing.
use Prim.Native.Nat.{◌-◌}
use Rattle.rounds.specs.Signals.{same_chains}
use Rattle.rounds.proofs.Laying.{Laying}
use Rattle.rounds.proofs.batch.lay_model.Given as goal

abbrev pub invariant-loop-k : goal.invariant-loop-k
invariant-loop-k l = Laying (same_chains l.chain l.n) l.initial.chains l.chains l.k (same_chains l.chain (l.n - l.k))
