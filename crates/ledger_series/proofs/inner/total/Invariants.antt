-- `ledger_series::inner::total` meets its contract. Assumes nothing.
use Rattle.std.proofs.Common.{◌≡◌}
use Rattle.float.specs.Floats.{f0}
use Rattle.ledger_series.specs.Series.{mean_of_drafts, up_to, added}
use Rattle.ledger_series.proofs.inner.total.Given as goal

abbrev pub invariant-loop-row : goal.invariant-loop-row
invariant-loop-row l = l.sum ≡ added f0 (up_to (mean_of_drafts l.words) l.row)
