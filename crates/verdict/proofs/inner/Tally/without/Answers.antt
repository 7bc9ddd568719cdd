-- `inner::Tally::without` meets its contract. Assumes nothing.
use mathlib.Core.Path.{sym, ap, ◌∙◌}
use Rattle.float.specs.Floats.{less, f1}
use Rattle.verify_prices.specs.Rule.{rule_of, shut_by}
use Rattle.verify_prices.specs.declared.PriceMode.{PriceMode}
use Rattle.verify_prices.proofs.Priced.{by_default, by_bridged}
use Rattle.verdict.proofs.Verdicts.{removal_open}
use Rattle.verdict.proofs.inner.Tally.without.Goals as goal

pub returns-in-Default-clause-decided : goal.returns-in-Default-clause-decided
returns-in-Default-clause-decided c =
    let a = c.args in
    let h = c.in-Default.is in
    (removal_open (rule_of a.mode a.curve.now a.n) a.self a.s a.margin _
    (by_default a.mode a.curve.now a.n (less a.self.tokens f1) _ h c.verify_cost-vp.ensures) (ap (λ (m : PriceMode). shut_by m c.verify_cost-vp.result) h)
    c.requires.rated_2 _ c.removal.ensures).0

pub returns-in-Default-clause-rated : goal.returns-in-Default-clause-rated
returns-in-Default-clause-rated c =
    let a = c.args in
    let h = c.in-Default.is in
    (removal_open (rule_of a.mode a.curve.now a.n) a.self a.s a.margin _
    (by_default a.mode a.curve.now a.n (less a.self.tokens f1) _ h c.verify_cost-vp.ensures) (ap (λ (m : PriceMode). shut_by m c.verify_cost-vp.result) h)
    c.requires.rated_2 _ c.removal.ensures).1

pub returns-else-is_shut-clause-decided : goal.returns-else-is_shut-clause-decided
returns-else-is_shut-clause-decided c =
    let a = c.args in
    (removal_open (rule_of a.mode a.curve.now a.n) a.self a.s a.margin _
    (by_bridged a.mode a.curve.now a.n (less a.self.tokens f1) _ c.in-Bridged.is c.bridged_cost-vp.ensures)
    (sym c.is_shut.ensures ∙ c.if-is_shut.false) c.requires.rated_2 _ c.removal-in-Bridged.ensures).0

pub returns-else-is_shut-clause-rated : goal.returns-else-is_shut-clause-rated
returns-else-is_shut-clause-rated c =
    let a = c.args in
    (removal_open (rule_of a.mode a.curve.now a.n) a.self a.s a.margin _
    (by_bridged a.mode a.curve.now a.n (less a.self.tokens f1) _ c.in-Bridged.is c.bridged_cost-vp.ensures)
    (sym c.is_shut.ensures ∙ c.if-is_shut.false) c.requires.rated_2 _ c.removal-in-Bridged.ensures).1
