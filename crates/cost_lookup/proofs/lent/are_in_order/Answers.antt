-- `lent::are_in_order` meets its contract. Assumes nothing.
use Rattle.std.proofs.Common.{◌-◌, not, get_or, refl, ap, arith}
use Rattle.cost_lookup.proofs.Turns.{good_turn, good_end, after_first, order_row, order_end}
use Rattle.cost_lookup.proofs.lent.are_in_order.Goals as goal

pub loop-i-init : goal.loop-i-init
loop-i-init c = after_first c.args.n c.args.depths.now c.args.batches.now c.args.seconds.now c.requires.0 c.requires.1 c.requires.2

pub loop-i-preserved : goal.loop-i-preserved
loop-i-preserved c = good_turn _ _ _ c.loop-i.are_good (not c.goes_before.result) _ _ c.loop-i.invariant (order_row c.args.n c.args.depths.now c.args.batches.now c.args.seconds.now c.requires.0 c.requires.1 c.requires.2 c.loop-i.i (omega arith) (get_or c.args.depths.now (c.loop-i.i - 1) 0) (get_or c.args.batches.now (c.loop-i.i - 1) 0)) (ap not c.goes_before.ensures) refl

pub returns : goal.returns
returns c = good_end _ _ c.loop-i.are_good c.loop-i.invariant (order_end c.args.n c.args.depths.now c.args.batches.now c.args.seconds.now c.requires.0 c.requires.1 c.requires.2 c.loop-i.i (omega arith) (get_or c.args.depths.now (c.loop-i.i - 1) 0) (get_or c.args.batches.now (c.loop-i.i - 1) 0))
