-- `unpriced` meets its contract. Assumes nothing.
use mathlib.Core.Path.{refl}
use lib.Ieee.{lt, of_bits}
use Rattle.float.specs.Floats.{f0}
use Rattle.speculative.specs.Drafter.{billion}
use Rattle.chain_tests.proofs.UpTo.{is_infinite, not_infinite}
use Rattle.chain_tests.proofs.unpriced.Goals as goal

pub outside-requires : goal.outside-requires
unfolding lt of_bits
outside-requires c = refl

pub returns-then-x : goal.returns-then-x
returns-then-x c = is_infinite f0 billion c.args.x c.if-x.true

pub returns-else-x : goal.returns-else-x
returns-else-x c = not_infinite f0 billion c.args.x _ c.if-x.false c.outside.ensures
