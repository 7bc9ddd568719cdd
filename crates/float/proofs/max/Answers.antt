-- `float::max` meets its contract: each arm returns what `max_of` picks where the tests are as the arm found them. Assumes nothing.
use mathlib.Core.Path.{sym}
use Rattle.float.proofs.Classes.{self_equal, self_unequal}
use Rattle.float.proofs.Maximum.{max_first, max_second, max_other}
use Rattle.float.proofs.max.Goals as goal

pub returns-then-a-b : goal.returns-then-a-b
returns-then-a-b c = sym (max_second _ _ c.if-a-b.true)

pub returns-then-a : goal.returns-then-a
returns-then-a c = sym (max_first _ _ c.if-a-b.false (self_equal _ c.if-a.true))

pub returns-else-a : goal.returns-else-a
returns-else-a c = sym (max_other _ _ c.if-a-b.false (self_unequal _ c.if-a.false))
