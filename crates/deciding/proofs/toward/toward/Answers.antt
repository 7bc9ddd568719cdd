-- `toward::toward` meets its contract. Assumes nothing.
use mathlib.Core.Path.{sym, ap, ◌∙◌}
use mathlib.Core.Bool.{Bool, cond}
use native.Mathlib.Omega.{arith}
use borrow.Author.Tests.{eq-eqb, ne_eqb}
use Rattle.switching.specs.Deciding.{at_first, decided}
use Rattle.switching.specs.declared.Switching.{Switching}
use Rattle.asking.specs.Values.{held_of}
use Rattle.deciding.proofs.toward.toward.Goals as goal

pub held_of-held-requires : goal.held_of-held-requires
held_of-held-requires c = c.requires.held c.if-past-eq2.true

pub decided-requires-clause-rounds_bound : goal.decided-requires-clause-rounds_bound
decided-requires-clause-rounds_bound c = let h = c.requires.held c.if-past-eq2.true in
    let e = ap (λ (s : Switching). s.rounds) c.held_of-held.ensures in omega (arith, h.counted, e)

pub decided-requires-clause-curve_len_bound : goal.decided-requires-clause-curve_len_bound
decided-requires-clause-curve_len_bound c = let h = c.requires.held c.if-past-eq2.true in
    let e = ap (λ (s : Switching). s.rounds) c.held_of-held.ensures in c.requires.curve_len_bound

pub returns-then-past-eq2 : goal.returns-then-past-eq2
returns-then-past-eq2 c =
    let a = c.args in
    c.decided.ensures ∙ ap (λ (h : Switching). decided h a.curve.now a.target a.switch) c.held_of-held.ensures
    ∙ ap (λ (b : Bool). cond b (decided (held_of a.past) a.curve.now a.target a.switch) (at_first a.target)) (sym (eq-eqb a.past.kind 2 c.if-past-eq2.true))

pub returns : goal.returns
returns c =
    let a = c.args in
    ap (λ (b : Bool). cond b (decided (held_of a.past) a.curve.now a.target a.switch) (at_first a.target)) (sym (ne_eqb a.past.kind 2 c.if-past-eq2.false))
