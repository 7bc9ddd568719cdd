-- `sums::survivals` meets its contract. The invariant: the sum of what is left, from the sum so far on, is that of the whole. Assumes nothing.
use mathlib.Core.Path.{sym, ◌∙◌}
use native.Mathlib.Omega.{arith}
use Rattle.trim.proofs.Adding.{survivals_next, survivals_ended}
use Rattle.ragged.proofs.sums.survivals.Goals as goal

pub overflow_add-end : goal.overflow_add-end
overflow_add-end c =
    let narrow = c.requires.narrow c.loop-k.k c.loop-k-test.true in
    omega (arith, c.requires, c.well_formed)

pub loop-k-preserved : goal.loop-k-preserved
loop-k-preserved c =
    let a = c.args in
    survivals_next c.loop-k.k c.loop-k.sum _ a.widths.now a.chains.now c.loop-k-test.true c.sum_of-sum.ensures ∙ c.loop-k.invariant

pub returns : goal.returns
returns c =
    let a = c.args in
    sym (survivals_ended c.loop-k.k c.loop-k.sum a.widths.now _ c.loop-k-test.false) ∙ c.loop-k.invariant
