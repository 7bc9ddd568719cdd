-- `day_walks::inner::judge_list` meets its contract: at each field the answer is that of the fields from there on. Assumes nothing.
use Rattle.std.proofs.Common.{rules, Err}
use mathlib.Core.Path.{◌≡◌, refl, sym, ap, ◌∙◌}
use mathlib.Core.List.{[]}
use Prim.Native.Nat.{◌+◌}
use native.Mathlib.Omega.{arith}
use lib.ListN.{drop}
use lib.Seq.{length-take-le}
use Rattle.refusals.specs.Refusals.{Judgement}
use Rattle.text.specs.Fields.{fields}
use Rattle.blocks.proofs.Finding.{found_le, part_length}
use Rattle.text.proofs.Walk.{field_last, field_next, field_first}
use Rattle.day_walks.specs.Walks.{at_field}
use Rattle.day_walks.proofs.Turns.{walk_passes, walk_stops}
use Rattle.day_walks.proofs.inner.judge_list.Goals as goal

pub loop-place-init : goal.loop-place-init
loop-place-init g c = (omega arith, refl)

pub slice_bounds-judge-end : goal.slice_bounds-judge-end
slice_bounds-judge-end g c =
    let s = c.loop-place.rest.now in
    sym (length-take-le c.find-comma.result s (found_le 44 s c.find-comma.result c.find-comma.ensures))

pub returns-in_err-at_field : goal.returns-in_err-at_field
returns-in_err-at_field g c =
    let l = c.loop-place in
    let s = l.rest.now in
    let n = c.find-comma in
    let wrong = c.in_err-at_field.field-0.0 in
    let given : c.from_residual.result ≡ Err wrong = search rules in
    let said = c.at_field.ensures ∙ ap (λ (j : Judgement). at_field j l.place) c.judge.ensures in
    given
    ∙ walk_stops g.T.ListNumber.judged l.place s n.result c.at_field.result (drop 1 (fields s)) (field_first s n.result n.ensures) said wrong c.in_err-at_field.was
    ∙ sym l.invariant.1

pub returns-then-rest-comma : goal.returns-then-rest-comma
returns-then-rest-comma g c =
    let l = c.loop-place in
    let s = l.rest.now in
    let n = c.find-comma in
    let said = c.at_field.ensures ∙ ap (λ (j : Judgement). at_field j l.place) c.judge.ensures in
    sym (l.invariant.1 ∙ walk_passes g.T.ListNumber.judged l.place s n.result c.at_field.result [] (field_last s n.result n.ensures c.if-rest-comma.true) said _ c.in_ok-at_field.was)

pub loop-place-smaller : goal.loop-place-smaller
loop-place-smaller g c = omega (arith, part_length (c.find-comma.result + 1) c.loop-place.rest.now, c.if-rest-comma.false)

pub loop-place-preserved : goal.loop-place-preserved
loop-place-preserved g c =
    let l = c.loop-place in
    let s = l.rest.now in
    let n = c.find-comma in
    let said = c.at_field.ensures ∙ ap (λ (j : Judgement). at_field j l.place) c.judge.ensures in (
      omega (arith, part_length (n.result + 1) s, c.if-rest-comma.false),
      l.invariant.1 ∙ walk_passes g.T.ListNumber.judged l.place s n.result c.at_field.result _ (field_next s n.result n.ensures c.if-rest-comma.false) said _ c.in_ok-at_field.was,
    )
