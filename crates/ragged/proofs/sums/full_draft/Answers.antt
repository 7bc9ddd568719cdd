-- `sums::full_draft` meets its contract, by those of the functions that it calls. Assumes nothing.
use Rattle.trim.specs.Kept.{listed}
use Rattle.trim.proofs.Adding.{full_sums}
use Rattle.ragged.proofs.sums.full_draft.Goals as goal

pub returns-clause-counts : goal.returns-clause-counts
returns-clause-counts c = let a = c.args in c.drafting-seconds.ensures.counts

pub returns-clause-sums : goal.returns-clause-sums
returns-clause-sums c = let a = c.args in full_sums (listed a.passes.now) a.chains.now a.depth a.widths.now _ _ _ _ c.survivals-sum.ensures c.tokens-t.ensures c.drafting-seconds.ensures.sum c.starting.ensures.sums

pub returns-clause-rated : goal.returns-clause-rated
returns-clause-rated c = let a = c.args in c.starting.ensures.rated
