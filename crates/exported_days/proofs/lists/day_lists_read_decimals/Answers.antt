-- `day_lists_read_decimals` meets its contract: the buffer is as the call left it. Assumes nothing.
use Rattle.exported.proofs.Handed.{handed}
use Rattle.exported_days.specs.Days.{listed_told}
use Rattle.exported_days.proofs.lists.day_lists_read_decimals.Goals as goal

pub returns : goal.returns
returns c = handed listed_told _ _ _ _ c.listed_told.ensures c.read_decimals-listed.ensures
