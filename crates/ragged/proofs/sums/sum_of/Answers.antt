-- `sums::sum_of` meets its contract. The invariant: the sum of what is left, from the sum so far on, is that of the whole. Assumes nothing.
use mathlib.Core.Path.{sym, ◌∙◌}
use Rattle.trim.proofs.Adding.{sum_next, sum_ended}
use Rattle.ragged.proofs.sums.sum_of.Goals as goal

pub loop-survival-preserved : goal.loop-survival-preserved
loop-survival-preserved c = sum_next c.loop-survival.survival-index c.loop-survival.sum c.args.chain.now c.loop-survival-test.true ∙ c.loop-survival.invariant

pub returns : goal.returns
returns c = sym (sum_ended c.loop-survival.survival-index c.loop-survival.sum c.args.chain.now c.loop-survival-test.false) ∙ c.loop-survival.invariant
