-- `inner::expected_over` meets its contract. The invariant: the sums of what is left, from the sums so far on, are those of the whole. Assumes nothing.
use mathlib.Core.Path.{ap, ◌∙◌}
use native.Mathlib.Omega.{arith}
use lib.ListN.{length}
use Rattle.chains.proofs.Summed.{sums_next, sums_ended, with_length}
use Rattle.chains.proofs.inner.expected_over.Goals as goal

pub loop-k-preserved : goal.loop-k-preserved
loop-k-preserved c =
    let a = c.args in (
      ap length c.add_chain.ensures ∙ with_length _ c.loop-k.sums ∙ c.loop-k.invariant.0,
      rw c.add_chain.ensures
          (sums_next a.gamma c.loop-k.k _ a.lengths.now a.chains.now c.loop-k.sums _ c.loop-k-test.true (omega (arith, c.min.ensures)) c.loop-k.invariant.1),
    )

pub returns : goal.returns
returns c =
    let a = c.args in
    sums_ended a.gamma c.loop-k.k a.lengths.now _ c.loop-k.sums _ c.loop-k-test.false c.loop-k.invariant.1
