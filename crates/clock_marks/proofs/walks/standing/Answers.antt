-- `clock_marks::walks::standing` meets its contract: each turn looks at one plan. Assumes nothing.
use mathlib.Core.Path.{sym, ◌∙◌}
use Prim.Native.Nat.{◌+◌, ◌-◌}
use native.Mathlib.Omega.{arith}
use Rattle.clock_marks.proofs.Walking.{standing_none, standing_unknown, standing_next}
use Rattle.clock_marks.proofs.walks.standing.Goals as goal

pub returns-then-not-is_known : goal.returns-then-not-is_known
returns-then-not-is_known c =
    let a = c.args in
    omega (arith, c.loop.invariant.1, standing_unknown a.clock.now a.ring a.plans a.second (a.most - c.loop.counter) c.loop.plan (omega arith) (sym c.is_known.ensures ∙ c.if-not-is_known.true))

pub loop-preserved : goal.loop-preserved
loop-preserved c =
    let a = c.args in
    let k = c.loop.counter in (
      omega (arith, c.loop.invariant.0, c.reaching-count.ensures.1),
      omega (
        arith,
        c.loop.invariant.1,
        standing_next a.clock.now a.ring a.plans a.second (a.most - k) (a.most - (k + 1)) c.loop.plan c.word_at.result c.reaching-count.result c.word_at-plan.result (omega arith)
            (sym c.is_known.ensures ∙ c.if-not-is_known.false) c.word_at.ensures c.reaching-count.ensures.0 c.word_at-plan.ensures,
      ),
    )

pub returns : goal.returns
returns c =
    let a = c.args in
    omega (arith, c.loop.invariant.1, standing_none a.clock.now a.ring a.plans a.second (a.most - c.loop.counter) c.loop.plan (omega arith))
