-- `bank_values` meets its contract. Assumes nothing.
use Rattle.budgets.specs.Budget.{bank_values}
use Rattle.budgets.proofs.Copied.{Copied}
use Rattle.budgets.proofs.bank_values.Given as goal

abbrev pub invariant-loop-g : goal.invariant-loop-g
invariant-loop-g l = Copied (bank_values l.curve l.depth l.n l.gamma) l.initial.out l.out l.g
