-- `acting::past_used` meets its contract. Assumes nothing.
use Rattle.planning.proofs.Ways.{test_is, both_tests}
use Rattle.planning.proofs.acting.past_used.Goals as goal

pub returns-then-uses_record : goal.returns-then-uses_record
returns-then-uses_record c = λ u. c.past.ensures

pub returns-else-uses_record : goal.returns-else-uses_record
returns-else-uses_record c = λ u. both_tests _ (test_is _ _ _ c.uses_record.ensures c.if-uses_record.false) u
