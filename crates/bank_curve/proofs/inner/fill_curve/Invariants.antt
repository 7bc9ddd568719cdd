-- `bank_curve::inner::fill_curve` meets its contract: at each depth what is to be stored are the entries from there on. Assumes nothing.
use Prim.Native.Nat.{suc, ◌-◌}
use Rattle.bank_curve.specs.Curve.{curve_from}
use Rattle.bank_curve.proofs.Stores.{Storing}
use Rattle.bank_curve.proofs.inner.fill_curve.Given as goal

abbrev pub invariant-loop-g : goal.invariant-loop-g
invariant-loop-g l = Storing (curve_from 0 (suc l.depth) l.commits) l.initial.curve 0 l.curve l.at (curve_from l.g (suc l.depth - l.g) l.commits)
