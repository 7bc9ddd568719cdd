-- `drawing::draw_commits` meets its contract: what is left to draw is drawn from where the sequence before stopped. Assumes nothing.
use mathlib.Core.Path.{sym, ◌∙◌}
use Prim.Native.Nat.{◌<◌}
use native.Mathlib.Omega.{arith}
use lib.ListN.{length, length-set}
use Rattle.rounds.proofs.Draws.{used_few, draws_refused, draws_next, draws_end}
use Rattle.rounds.proofs.drawing.draw_commits.Goals as goal

pub returns-in-Err : goal.returns-in-Err
returns-in-Err c =
    let a = c.args in
    let here = c.loop-k in
    sym (here.invariant.2 ∙ draws_refused a.model a.positions.now a.gamma a.draws.now (length a.commits.now) here.k here.used _ _ _ (omega (arith, c.loop-k-test.true, here.invariant.0)) (sym c.in-Err.is ∙ c.sample_from.ensures) c.number.ensures)

pub overflow_add-used : goal.overflow_add-used
overflow_add-used c =
    let a = c.args in
    let here = c.loop-k in
    let few = used_few a.model a.positions.now a.gamma a.draws.now (length a.commits.now) here.used _ (sym c.in-Ok.is ∙ c.sample_from.ensures) in
    omega (arith, few, here.invariant.1, c.requires.0, c.requires.1)

pub loop-k-preserved : goal.loop-k-preserved
loop-k-preserved c =
    let a = c.args in
    let here = c.loop-k in
    let e = sym c.in-Ok.is ∙ c.sample_from.ensures in
    let few = used_few a.model a.positions.now a.gamma a.draws.now (length a.commits.now) here.used _ e in
    let l : here.k < length a.commits.now = omega (arith, c.loop-k-test.true, here.invariant.0) in
    (length-set here.commits here.k _ ∙ here.invariant.0, omega (arith, few, here.invariant.1, c.requires.0), here.invariant.2 ∙ draws_next a.model a.positions.now a.gamma a.draws.now (length a.commits.now) here.k here.used _ _ l e)

pub returns : goal.returns
returns c =
    let a = c.args in
    let here = c.loop-k in
    sym (here.invariant.2 ∙ draws_end a.model a.positions.now a.gamma a.draws.now (length a.commits.now) here.k here.used _ (omega (arith, c.loop-k-test.false, here.invariant.0)))
