-- `inner::sample_from` meets its contract: at each draw the answer is the drafts accepted so far and what the draws from there on bring. Assumes nothing.
use mathlib.Core.Path.{sym, ap, ◌∙◌}
use native.Mathlib.Omega.{arith}
use lib.ListN.{get_or}
use lib.Ieee.{nan, lt}
use Rattle.acceptance.proofs.Draws.{sample_starts, sample_ends, sample_absent, sample_no_draw, sample_stops, sample_next, alike}
use Rattle.acceptance.proofs.inner.sample_from.Goals as goal

pub loop-n-init : goal.loop-n-init
loop-n-init c = sample_starts c.args.model c.args.positions.now c.args.gamma c.args.draws.now c.args.from

pub returns-then-draws-at : goal.returns-then-draws-at
returns-then-draws-at c =
    let a = c.args in
    let here = c.loop-n in
    sym (here.invariant ∙ sample_absent a.model a.positions.now a.gamma a.draws.now here.at here.n c.loop-n-test.true c.if-draws-at.true)

pub returns-then-not-is_draw : goal.returns-then-not-is_draw
returns-then-not-is_draw c =
    let a = c.args in
    let here = c.loop-n in
    sym (here.invariant ∙ sample_no_draw a.model a.positions.now a.gamma a.draws.now here.at here.n c.loop-n-test.true c.if-draws-at.false (sym c.is_draw.ensures ∙ c.if-not-is_draw.true))

pub returns-then-not-is_below : goal.returns-then-not-is_below
returns-then-not-is_below c =
    let a = c.args in
    let here = c.loop-n in
    let x = get_or a.draws.now here.at nan in
    sym (here.invariant ∙ sample_stops a.model a.positions.now a.gamma a.draws.now here.at here.n c.loop-n-test.true c.if-draws-at.false (sym c.is_draw.ensures ∙ c.if-not-is_draw.false) (ap (lt x) (sym c.a_d.ensures) ∙ c.if-not-is_below.true))

pub loop-n-preserved : goal.loop-n-preserved
loop-n-preserved c =
    let a = c.args in
    let here = c.loop-n in
    let x = get_or a.draws.now here.at nan in
    here.invariant ∙ sample_next a.model a.positions.now a.gamma a.draws.now here.at here.n c.loop-n-test.true c.if-draws-at.false (sym c.is_draw.ensures ∙ c.if-not-is_draw.false) (ap (lt x) (sym c.a_d.ensures) ∙ c.if-not-is_below.false)

pub returns : goal.returns
returns c =
    let a = c.args in
    let here = c.loop-n in
    alike a.gamma a.gamma here.n here.n (omega arith) (omega arith)
    ∙ sym (here.invariant ∙ sample_ends a.model a.positions.now a.gamma a.draws.now here.at here.n c.loop-n-test.false)
