-- `lent::are_in_range` meets its contract. Assumes nothing.
use Rattle.std.proofs.Common.{refl, arith}
use Rattle.cost_lookup.proofs.Turns.{good_turn, good_end, seconds_row, seconds_end}
use Rattle.cost_lookup.proofs.lent.are_in_range.Goals as goal

pub loop-i-preserved : goal.loop-i-preserved
loop-i-preserved c = good_turn _ _ _ c.loop-i.are_good c.is_in_range-are_good.result _ _ c.loop-i.invariant (seconds_row c.args.n c.args.depths.now c.args.batches.now c.args.seconds.now c.requires.0 c.requires.1 c.requires.2 c.loop-i.i (omega arith)) c.is_in_range-are_good.ensures refl

pub returns : goal.returns
returns c = good_end _ _ c.loop-i.are_good c.loop-i.invariant (seconds_end c.args.n c.args.depths.now c.args.batches.now c.args.seconds.now c.requires.0 c.requires.1 c.requires.2 c.loop-i.i (omega arith))
