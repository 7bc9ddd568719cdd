-- `by_aggregate` meets its contract. Assumes nothing.
use mathlib.Core.Path.{sym, ap, ◌∙◌}
use mathlib.Core.List.{[]}
use native.Mathlib.Omega.{arith}
use lib.ListN.{length}
use Rattle.deciding.specs.Ready.{lent_of}
use Rattle.deciding.proofs.Decisions.{drafts_stay, plain_decides, aggregate_decides}
use Rattle.deciding.proofs.by_aggregate.Goals as goal

pub returns-then-is_unconstrained : goal.returns-then-is_unconstrained
returns-then-is_unconstrained c =
    let a = c.args in
    plain_decides a.settings a.ask (lent_of a.positions.now a.loaded.now a.signals.now [] a.indices.now) a.curve.now _ _ _ _ a.drafts.now c.gamma_in-gamma.ensures c.gate_batch-gated.ensures _ a.past (c.fill.ensures.after (λ y e. e)) c.requires.batched.room (sym c.is_unconstrained.ensures ∙ c.if-is_unconstrained.true)

pub put_toward-requires-clause-drafts_len : goal.put_toward-requires-clause-drafts_len
put_toward-requires-clause-drafts_len c = let a = c.args in
    let stay = drafts_stay a.settings a.ask (lent_of a.positions.now a.loaded.now a.signals.now [] a.indices.now) a.curve.now _ _ _ _ a.drafts.now c.gamma_in-gamma.ensures c.gate_batch-gated.ensures in (ap length stay ∙ c.requires.batched.room, omega (arith, c.requires.batched.priced, c.requires.batched.shallow))

pub put_toward-requires-clause-held : goal.put_toward-requires-clause-held
put_toward-requires-clause-held c = let a = c.args in
    let stay = drafts_stay a.settings a.ask (lent_of a.positions.now a.loaded.now a.signals.now [] a.indices.now) a.curve.now _ _ _ _ a.drafts.now c.gamma_in-gamma.ensures c.gate_batch-gated.ensures in c.requires.held (sym c.is_unconstrained.ensures ∙ c.if-is_unconstrained.false)

pub returns : goal.returns
returns c =
    let a = c.args in
    aggregate_decides a.settings a.ask (lent_of a.positions.now a.loaded.now a.signals.now [] a.indices.now) a.curve.now _ _ _ _ a.drafts.now c.gamma_in-gamma.ensures c.gate_batch-gated.ensures _ a.past c.put_toward.ensures (sym c.is_unconstrained.ensures ∙ c.if-is_unconstrained.false)
