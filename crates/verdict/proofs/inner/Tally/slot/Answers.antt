-- `inner::Tally::slot` meets its contract. Assumes nothing.
use mathlib.Core.Path.{sym, ◌∙◌}
use Rattle.verdict.proofs.Verdicts.{unpriced, added, ended}
use Rattle.verdict.proofs.inner.Tally.slot.Goals as goal

pub returns-then-not-is_finite : goal.returns-then-not-is_finite
returns-then-not-is_finite c =
    let a = c.args in
    unpriced a.self a.s a.vn (sym c.is_finite.ensures ∙ c.if-not-is_finite.true)

pub returns-then-nxt-self : goal.returns-then-nxt-self
returns-then-nxt-self c =
    let a = c.args in
    added a.self a.s a.vn (sym c.is_finite.ensures ∙ c.if-not-is_finite.false) _ c.rate-nxt.ensures c.if-nxt-self.true

pub returns-else-nxt-self : goal.returns-else-nxt-self
returns-else-nxt-self c =
    let a = c.args in
    ended a.self a.s a.vn (sym c.is_finite.ensures ∙ c.if-not-is_finite.false) _ c.rate-nxt.ensures c.if-nxt-self.false
