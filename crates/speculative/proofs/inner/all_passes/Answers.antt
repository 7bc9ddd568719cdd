-- `inner::all_passes` meets its contract: the sum is the definition's at each depth. Assumes nothing.
use Rattle.speculative.proofs.Pricing.{no_passes, one_pass_more}
use Rattle.speculative.proofs.inner.all_passes.Goals as goal

pub loop-k-init : goal.loop-k-init
loop-k-init c = no_passes _ _ _ _

pub loop-k-preserved : goal.loop-k-preserved
loop-k-preserved c =
    let a = c.args in
    let here = c.loop-k in
    one_pass_more a.drafter a.widths.now a.rates a.loaded.now here.k _ _ _ _ here.invariant c.still_drafting-n.ensures c.loaded_at-experts.ensures c.pass_seconds-sum.ensures
