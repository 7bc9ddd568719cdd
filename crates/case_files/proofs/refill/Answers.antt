-- `cases::refill` keeps to the room. Assumes nothing.
use Rattle.case_files.proofs.Places.{counts}
use borrow.Author.Rules.{rules}
use Rattle.case_files.proofs.refill.Goals as goal

pub returns : goal.returns
returns c = counts _ _ (search rules)
