-- `batch::lay` meets its contract. Assumes nothing.
use Rattle.rounds.proofs.Laid.{copied_over}
use Rattle.rounds.proofs.batch.lay.Goals as goal

pub returns : goal.returns
returns c = let a = c.args in copied_over a.chains.now a.front.now _ a.at c.requires c.copy_from_slice.ensures.after
