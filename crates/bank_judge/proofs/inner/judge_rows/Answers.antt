-- `bank_judge::inner::judge_rows` meets its contract: at each line the answer is that of the lines from there on. Assumes nothing.
use Rattle.std.proofs.Common.{rules, Err}
use mathlib.Core.Path.{◌≡◌, sym, ap, ◌∙◌}
use mathlib.Core.List.{◌∷◌}
use Prim.Native.Nat.{◌+◌, ◌-◌}
use native.Mathlib.Omega.{arith}
use lib.ListN.{length, take, drop}
use lib.Seq.{length-take-le}
use Rattle.refusals.specs.Refusals.{Judgement}
use Rattle.text.specs.Lines.{lines}
use Rattle.text.specs.Fields.{fields}
use Rattle.blocks.proofs.Finding.{part_length}
use Rattle.text.proofs.Walk.{line_stop, line_next, line_first}
use Rattle.bank_judge.specs.Judge.{round_judged, at_row}
use Rattle.bank_judge.proofs.Laws.{rows_end, rows_go_on, rows_few}
use Rattle.bank_judge.proofs.inner.judge_rows.Goals.{After-at_row}
use Rattle.bank_judge.proofs.inner.judge_rows.Goals as goal

first : (c : After-at_row)
    → lines c.loop-rest.rest.now
    ≡ take c.first_line-line.result.stop c.loop-rest.rest.now
    ∷ lines (take (length c.loop-rest.rest.now - c.first_line-line.result.next) (drop c.first_line-line.result.next c.loop-rest.rest.now))
first c =
    line_first c.loop-rest.rest.now c.first_line-line.result.stop c.first_line-line.result.next c.first_line-line.ensures.stop c.first_line-line.ensures.next c.loop-rest-test.true

-- what is said of the line
said : (c : After-at_row)
    → c.at_row.result
    ≡ at_row (round_judged c.args.width c.args.skip c.args.room (fields (take c.first_line-line.result.stop c.loop-rest.rest.now)) c.loop-rest.round) (c.loop-rest.round + 2)
said c = c.at_row.ensures ∙ ap (λ (j : Judgement). at_row j (c.loop-rest.round + 2)) c.judge_round-judgement.ensures

pub slice_bounds-judge_round-end : goal.slice_bounds-judge_round-end
slice_bounds-judge_round-end c =
    let s = c.loop-rest.rest.now in
    sym (length-take-le c.first_line-line.result.stop s (line_stop s c.first_line-line.result.stop c.first_line-line.result.next c.first_line-line.ensures.stop c.first_line-line.ensures.next))

pub returns-in_err-at_row : goal.returns-in_err-at_row
returns-in_err-at_row c =
    let a = c.args in
    let l = c.loop-rest in
    let here = (goal.at.returns-in_err-at_row c).After-at_row in
    let refused = c.in_err-at_row.field-0.0 in
    let given : c.from_residual.result ≡ Err refused = search rules in
    given ∙ sym (l.invariant.1.1 ∙ rows_end a.width a.skip a.depth a.room (lines l.rest.now) _ _ l.round c.at_row.result (first here) (said here) refused c.in_err-at_row.was)

pub loop-rest-smaller : goal.loop-rest-smaller
loop-rest-smaller c =
    let s = c.loop-rest.rest.now in
    omega (arith, part_length c.first_line-line.result.next s, line_next s c.first_line-line.result.stop c.first_line-line.result.next c.first_line-line.ensures.stop c.first_line-line.ensures.next c.loop-rest-test.true)

pub loop-rest-preserved : goal.loop-rest-preserved
loop-rest-preserved c =
    let a = c.args in
    let l = c.loop-rest in
    let here = (goal.at.loop-rest-preserved c).After-at_row in
    let few = rows_few a.width a.skip a.depth a.room (lines l.rest.now) _ _ l.round c.at_row.result (first here) (said here) _ c.in_ok-at_row.was in (
      omega (arith, few),
      (
        omega (arith, part_length c.first_line-line.result.next l.rest.now),
        l.invariant.1.1 ∙ rows_go_on a.width a.skip a.depth a.room (lines l.rest.now) _ _ l.round c.at_row.result (first here) (said here) _ c.in_ok-at_row.was,
      ),
    )
