-- `draws::first_refusal` meets its contract: what is left is judged from the index of the sequence on. Assumes nothing.
use mathlib.Core.Path.{sym, ◌∙◌}
use Prim.Native.Nat.{◌-◌}
use Rattle.plan_draws.proofs.Late.{judge_starts, judge_absent, judge_refused, judge_next, judge_ends}
use Rattle.plan_draws.proofs.draws.first_refusal.Goals as goal

pub loop-k-init : goal.loop-k-init
loop-k-init c = let a = c.args in judge_starts a.rounds a.indices.now a.n

pub returns-then-indices-k : goal.returns-then-indices-k
returns-then-indices-k c =
    let a = c.args in
    let here = c.loop-k in
    sym (here.invariant ∙ judge_absent a.rounds a.indices.now a.n here.k c.loop-k-test.true c.if-indices-k.true)

pub returns-then-rounds-indices : goal.returns-then-rounds-indices
returns-then-rounds-indices c =
    let a = c.args in
    let here = c.loop-k in
    sym (here.invariant ∙ judge_refused a.rounds a.indices.now a.n here.k c.loop-k-test.true c.if-indices-k.false c.if-rounds-indices.true)

pub loop-k-preserved : goal.loop-k-preserved
loop-k-preserved c =
    let a = c.args in
    let here = c.loop-k in
    here.invariant ∙ judge_next a.rounds a.indices.now a.n here.k c.loop-k-test.true c.if-indices-k.false c.if-rounds-indices.false

pub returns : goal.returns
returns c =
    let a = c.args in
    let here = c.loop-k in
    sym (here.invariant ∙ judge_ends a.rounds a.indices.now a.n here.k c.loop-k-test.false)
