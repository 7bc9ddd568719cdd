-- `clock_marks::walks::holds` meets its contract: each turn looks at one plan. Assumes nothing.
use mathlib.Core.Path.{sym, ◌∙◌}
use Prim.Native.Nat.{◌+◌, ◌-◌}
use native.Mathlib.Omega.{arith}
use Rattle.clock_marks.proofs.Walking.{holds_none, holds_unknown, holds_found, holds_next}
use Rattle.clock_marks.proofs.walks.holds.Goals as goal

pub returns-then-not-is_known : goal.returns-then-not-is_known
returns-then-not-is_known c =
    let a = c.args in
    sym (c.loop.invariant ∙ holds_unknown a.clock.now a.ring a.plans a.second _ c.loop.plan (omega arith) (sym c.is_known.ensures ∙ c.if-not-is_known.true))

pub returns-then-word_at-second : goal.returns-then-word_at-second
returns-then-word_at-second c =
    let a = c.args in
    sym (c.loop.invariant ∙ holds_found a.clock.now a.ring a.plans a.second _ c.loop.plan (omega arith)
    (sym c.is_known.ensures ∙ c.if-not-is_known.false) (sym c.word_at.ensures ∙ c.if-word_at-second.true))

pub loop-preserved : goal.loop-preserved
loop-preserved c =
    let a = c.args in
    let k = c.loop.counter in
    c.loop.invariant ∙ holds_next a.clock.now a.ring a.plans a.second (a.most - k) (a.most - (k + 1)) c.loop.plan c.word_at-plan.result (omega arith)
    (sym c.is_known.ensures ∙ c.if-not-is_known.false) (λ e. c.if-word_at-second.false (c.word_at.ensures ∙ e)) c.word_at-plan.ensures

pub returns : goal.returns
returns c =
    let a = c.args in
    sym (c.loop.invariant ∙ holds_none a.clock.now a.ring a.plans a.second _ c.loop.plan (omega arith))
