-- `ledger_series::inner::fill` meets its contract. Assumes nothing.
use Rattle.std.proofs.Common.{◌≡◌}
use Rattle.ledger_series.specs.Series.{second_of, mean_of_drafts, mean_batch, mean_of_committed, front}
use Rattle.ledger_series.proofs.inner.fill.Given as goal

abbrev pub invariant-loop-row : goal.invariant-loop-row
invariant-loop-row l = (l.seconds ≡ front (second_of l.words) l.row l.initial.seconds) × (l.mean_drafts ≡ front (mean_of_drafts l.words) l.row l.initial.mean_drafts) × (l.mean_batches ≡ front (mean_batch l.words) l.row l.initial.mean_batches) × (l.mean_committed ≡ front (mean_of_committed l.words) l.row l.initial.mean_committed)
