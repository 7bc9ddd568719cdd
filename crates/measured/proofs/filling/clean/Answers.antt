-- `measured::filling::clean` meets its contract: put in order, then cleaned. Assumes nothing.
use Rattle.measured.proofs.Accepted.{cleaned_law}
use Rattle.measured.proofs.filling.clean.Goals as goal

pub returns-clause-left : goal.returns-clause-left
returns-clause-left c = let a = c.args in (cleaned_law a.rows a.depths.now a.batches.now a.seconds.now c.arrange.new.depths c.arrange.new.batches c.arrange.new.seconds c.sanitised.result c.sanitised.new.depths c.sanitised.new.batches c.sanitised.new.seconds c.arrange.ensures c.sanitised.ensures.value c.sanitised.ensures.written).0

pub returns-clause-columns : goal.returns-clause-columns
returns-clause-columns c = let a = c.args in (cleaned_law a.rows a.depths.now a.batches.now a.seconds.now c.arrange.new.depths c.arrange.new.batches c.arrange.new.seconds c.sanitised.result c.sanitised.new.depths c.sanitised.new.batches c.sanitised.new.seconds c.arrange.ensures c.sanitised.ensures.value c.sanitised.ensures.written).1
