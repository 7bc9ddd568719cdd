-- `inner::add_fours` meets its contract. The invariant: the sums of what is left, from the sums so far on, are those of the whole. Assumes nothing.
use mathlib.Core.Path.{sym, ap, ◌∙◌}
use native.Mathlib.Omega.{arith}
use lib.ListN.{length}
use Rattle.chains.proofs.Four.{fours_next, four_length}
use Rattle.chains.proofs.inner.add_fours.Goals as goal

pub loop-k-preserved : goal.loop-k-preserved
loop-k-preserved c =
    let a = c.args in
    let here = c.loop-k in (
      omega arith,
      (
        ap length c.add_four.ensures ∙ four_length a.gamma _ here.sums ∙ here.invariant.1.0,
        rw c.add_four.ensures
            (fours_next a.gamma a.lengths.now a.chains.now _ here.k _ here.sums c.requires.gamma_bound (omega arith) c.loop-k-test.true (sym c.reach_gamma.ensures ∙ c.if-reach_gamma.true) here.invariant.1.1),
      ),
    )
