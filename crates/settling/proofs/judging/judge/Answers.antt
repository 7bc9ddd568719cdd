-- `judging::judge` meets its contract: what the values need is known of the sizes and the rooms. Assumes nothing.
use mathlib.Core.Path.{sym, ◌∙◌}
use Rattle.settling.specs.Settling.{PricesLent}
use Rattle.settling.proofs.Ways.{columns_fit_lem}
use Rattle.settling.proofs.judging.judge.Goals as goal

pub are_valued-requires : goal.are_valued-requires
are_valued-requires c =
    let a = c.args in
    let l : PricesLent = record { roofline = a.roofline.now; depths = a.depths.now; batches = a.batches.now; seconds = a.seconds.now } in
    columns_fit_lem a.settings a.ask (sym c.judge_sizes.ensures ∙ c.in_ok-judge_sizes.was) l a.room (sym c.are_roomy.ensures ∙ c.if-not-are_roomy.false)
