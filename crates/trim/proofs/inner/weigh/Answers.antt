-- `inner::weigh` meets its contract. Assumes nothing.
use Prim.Native.Nat.{◌-◌}
use mathlib.Core.Path.{ap, ◌∙◌}
use lib.Ieee.{Float}
use lib.ListN.{get_or}
use Rattle.verify_prices.specs.Rule.{rule_of}
use Rattle.verdict.specs.Decision.{removal_under}
use Rattle.verdict.specs.Tallies.{sums_of}
use Rattle.slots.specs.Slots.{survival}
use Rattle.trim.proofs.inner.weigh.Goals as goal

pub returns-clause-decided : goal.returns-clause-decided
returns-clause-decided c = let a = c.args in
    let rule = rule_of a.mode a.curve.now a.n in c.without.ensures.decided
    ∙ ap (λ (s : Float). removal_under rule (sums_of a.tally) s c.margin-cost.result) c.survival_at-s.ensures
    ∙ ap (λ (m : Float). removal_under rule (sums_of a.tally) (survival a.chains.now a.k (get_or a.widths.now a.k 0 - 1)) m) c.margin-cost.ensures

pub returns-clause-rated : goal.returns-clause-rated
returns-clause-rated c = let a = c.args in
    let rule = rule_of a.mode a.curve.now a.n in c.without.ensures.rated
