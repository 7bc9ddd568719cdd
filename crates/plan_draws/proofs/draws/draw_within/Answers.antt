-- `draws::draw_within` meets its contract: each way through it. Assumes nothing.
use mathlib.Core.Path.{sym, ap, ◌∙◌}
use mathlib.Core.List.{List, ◌++◌}
use Prim.Native.Nat.{ℕ}
use native.Mathlib.Omega.{arith}
use lib.ListN.{length, drop}
use Rattle.rounds.specs.Drawing.{Batch, analytic}
use Rattle.plan_draws.proofs.Batches.{analytic_all}
use Rattle.plan_draws.proofs.Late.{commits_all, draws_refused, late_refused, all_put}
use Rattle.plan_draws.proofs.draws.draw_within.Goals as goal

pub returns-then-late-gt0 : goal.returns-then-late-gt0
returns-then-late-gt0 c =
    let a = c.args in
    let b = analytic a.model a.positions.now a.gamma (length a.drawn.now) a.draws.now in
    late_refused a.late b a.commits.now c.draw_commits.result _ (ap (λ (x : Batch). x.answer) c.draw_commits.ensures) c.in-Used.is c.if-late-gt0.true

pub put_front-requires : goal.put_front-requires
put_front-requires c = omega (arith, c.drawn-1.given, c.requires.2)

pub returns-in-Refused : goal.returns-in-Refused
returns-in-Refused c =
    let a = c.args in
    let b = analytic a.model a.positions.now a.gamma (length a.drawn.now) a.draws.now in
    draws_refused a.late b a.commits.now c.draw_commits.result _ (ap (λ (x : Batch). x.answer) c.draw_commits.ensures) c.in-Refused.is

pub returns-else-late-gt0 : goal.returns-else-late-gt0
returns-else-late-gt0 c =
    let a = c.args in
    let b = analytic a.model a.positions.now a.gamma (length a.drawn.now) a.draws.now in
    let e = ap (λ (x : Batch). x.answer) c.draw_commits.ensures in
    let u = c.in-Used.is in
    let k = commits_all b a.drawn.now _ (ap (λ (x : Batch). x.commits) c.draw_commits.ensures) (analytic_all a.model a.positions.now a.gamma (length a.drawn.now) a.draws.now _ (sym u ∙ e)) in
    all_put a.late b a.commits.now c.draw_commits.result _ _ e u c.if-late-gt0.false (c.put_front.ensures ∙ ap (λ (xs : List ℕ). xs ++ drop (length xs) a.commits.now) k)
