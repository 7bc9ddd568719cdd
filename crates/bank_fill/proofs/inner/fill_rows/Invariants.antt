-- `bank_fill::inner::fill_rows` meets its contract: at each line what is to be stored is that of the lines from there on. Assumes nothing.
use lib.ListN.{length}
use Rattle.text.specs.Lines.{lines}
use Rattle.bank_fill.specs.Fill.{commits_of, signals_of}
use Rattle.bank_curve.proofs.Stores.{Storing}
use Rattle.bank_fill.proofs.inner.fill_rows.Given as goal

abbrev pub invariant-loop-rest : goal.invariant-loop-rest
invariant-loop-rest l =
    Storing (commits_of (lines l.rows)) l.initial.commits 0 l.commits l.round (commits_of (lines l.rest))
    × Storing (signals_of l.skip (lines l.rows)) l.initial.signals 0 l.signals l.at (signals_of l.skip (lines l.rest))

abbrev pub decreases-loop-rest : goal.decreases-loop-rest
decreases-loop-rest l = length l.rest
