-- `weighing::weigh` meets its contract, by the price of each mode. Assumes nothing.
use mathlib.Core.Path.{ap, ◌∙◌}
use lib.Ieee.{Float}
use Rattle.float.specs.Floats.{plus, f1}
use Rattle.verify_prices.specs.Rule.{price_by}
use Rattle.verify_prices.proofs.Priced.{by_default, by_bridged}
use Rattle.verdict.specs.Decision.{slot_at}
use Rattle.verdict.specs.Tallies.{sums_of}
use Rattle.verdict.proofs.Verdicts.{slot_weighed}
use Rattle.block.proofs.weighing.weigh.Goals as goal

pub returns-in-Default-clause-decided : goal.returns-in-Default-clause-decided
returns-in-Default-clause-decided c = let a = c.args in
    let e = by_default a.mode a.curve.now a.n (plus a.tally.tokens f1) _ c.in-Default.is c.verify_cost-vn.ensures in
    let price = price_by a.mode a.curve.now a.n in
    let w = slot_weighed price a.tally c.requires.rated_2 _ _ e _ c.slot.ensures in w.0 ∙ ap (λ (s : Float). slot_at price (sums_of a.tally) s) c.survival_at-s.ensures

pub returns-in-Default-clause-rated : goal.returns-in-Default-clause-rated
returns-in-Default-clause-rated c = let a = c.args in
    let e = by_default a.mode a.curve.now a.n (plus a.tally.tokens f1) _ c.in-Default.is c.verify_cost-vn.ensures in
    let price = price_by a.mode a.curve.now a.n in
    let w = slot_weighed price a.tally c.requires.rated_2 _ _ e _ c.slot.ensures in w.1

pub returns-in-Bridged-clause-decided : goal.returns-in-Bridged-clause-decided
returns-in-Bridged-clause-decided c = let a = c.args in
    let e = by_bridged a.mode a.curve.now a.n (plus a.tally.tokens f1) _ c.in-Bridged.is c.bridged_cost-vn.ensures in
    let price = price_by a.mode a.curve.now a.n in
    let w = slot_weighed price a.tally c.requires.rated_2 _ _ e _ c.slot-in-Bridged.ensures in w.0 ∙ ap (λ (s : Float). slot_at price (sums_of a.tally) s) c.survival_at-s-in-Bridged.ensures

pub returns-in-Bridged-clause-rated : goal.returns-in-Bridged-clause-rated
returns-in-Bridged-clause-rated c = let a = c.args in
    let e = by_bridged a.mode a.curve.now a.n (plus a.tally.tokens f1) _ c.in-Bridged.is c.bridged_cost-vn.ensures in
    let price = price_by a.mode a.curve.now a.n in
    let w = slot_weighed price a.tally c.requires.rated_2 _ _ e _ c.slot-in-Bridged.ensures in w.1
