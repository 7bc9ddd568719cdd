-- `lent::do_rise` meets its contract: where the rises so far are small, the order is that of the rows left. Assumes nothing.
use Rattle.std.proofs.Common.{arith, ltb-true}
use Rattle.cost_lookup.proofs.Rising.{none_ordered, rising_first, rising_next, rising_end}
use Rattle.cost_lookup.proofs.lent.do_rise.Goals as goal

pub returns-then-n-eq0 : goal.returns-then-n-eq0
returns-then-n-eq0 c = λ h. none_ordered c.args.n c.args.depths.now c.args.batches.now c.args.seconds.now c.if-n-eq0.true

pub loop-i-init : goal.loop-i-init
loop-i-init c = rising_first c.args.n c.args.depths.now c.args.batches.now c.args.seconds.now c.requires.n_in_bounds.0 c.requires.n_in_bounds.1 c.requires.n_in_bounds.2

pub rise-rises-requires : goal.rise-rises-requires
rise-rises-requires c = c.fall-fallen.ensures.upper_bound

pub loop-i-preserved : goal.loop-i-preserved
loop-i-preserved c = rising_next c.args.n c.args.depths.now c.args.batches.now c.args.seconds.now c.requires.n_in_bounds.0 c.requires.n_in_bounds.1 c.requires.n_in_bounds.2 c.loop-i.rises c.loop-i.i c.fall-fallen.result c.rise-rises.result c.requires.n_bound (omega arith) c.loop-i.invariant c.fall-fallen.ensures.value c.fall-fallen.ensures.upper_bound c.rise-rises.ensures

pub returns : goal.returns
returns c = λ h. rising_end c.args.n c.args.depths.now c.args.batches.now c.args.seconds.now c.requires.n_in_bounds.0 c.requires.n_in_bounds.1 c.requires.n_in_bounds.2 c.loop-i.rises c.loop-i.i (omega arith) c.loop-i.invariant (ltb-true _ _ h)
