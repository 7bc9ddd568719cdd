-- `inner::Tally::removal` meets its contract. Assumes nothing.
use Rattle.verdict.proofs.Verdicts.{removed, kept}
use Rattle.verdict.proofs.inner.Tally.removal.Goals as goal

pub returns-then-rem-self : goal.returns-then-rem-self
returns-then-rem-self c =
    let a = c.args in
    removed a.self a.s a.margin a.vp _ c.rate-rem.ensures _ c.tallied.ensures c.if-rem-self.true

pub returns-else-rem-self : goal.returns-else-rem-self
returns-else-rem-self c =
    let a = c.args in
    kept a.self a.s a.margin a.vp _ c.rate-rem.ensures c.if-rem-self.false
