-- `measured::judging::judge` meets its contract: the first line is the header, and the lines after it the rows. Assumes nothing.
use mathlib.Core.Path.{refl, sym, ap, ◌∙◌, subst}
use mathlib.Core.List.{List}
use Prim.Native.Nat.{ℕ}
use native.Mathlib.Nat.{pos_of_ne-zero}
use lib.ListN.{drop}
use lib.Seq.{length-take-le}
use Rattle.text.specs.Lines.{lines}
use Rattle.text.proofs.Walk.{line_stop, line_first}
use Rattle.measured.specs.Judge.{judge_lines}
use Rattle.measured.specs.Fill.{rows_of, Put}
use Rattle.measured.proofs.Laws.{text_high, text_empty, text_judged}
use Rattle.measured.proofs.Accepted.{put_refused, rows_are}
use Rattle.measured.proofs.judging.judge.Goals as goal

pub returns-then-not-is_ascii-clause-rows : goal.returns-then-not-is_ascii-clause-rows
returns-then-not-is_ascii-clause-rows c = let a = c.args in
    let t = c.is_ascii in put_refused _ _ (rows_of (drop 1 (lines a.text.now))) a.depths.now a.batches.now a.seconds.now refl

pub returns-then-text-eq0-clause-answer : goal.returns-then-text-eq0-clause-answer
returns-then-text-eq0-clause-answer c = let a = c.args in sym (text_empty a.room a.text.now c.if-text-eq0.true)

pub returns-then-text-eq0-clause-rows : goal.returns-then-text-eq0-clause-rows
returns-then-text-eq0-clause-rows c = let a = c.args in put_refused _ _ (rows_of (drop 1 (lines a.text.now))) a.depths.now a.batches.now a.seconds.now refl

pub slice_bounds-judge_lines-end : goal.slice_bounds-judge_lines-end
slice_bounds-judge_lines-end c =
    let s = c.args.text.now in
    sym (length-take-le c.first_line-first.result.stop s (line_stop s c.first_line-first.result.stop c.first_line-first.result.next c.first_line-first.ensures.stop c.first_line-first.ensures.next))

pub returns-clause-rows : goal.returns-clause-rows
returns-clause-rows c = let s = c.args.text.now in
    let t = c.is_ascii in λ n e. subst (λ (l : List (List ℕ)). Put (rows_of l) c.judge_lines.new.depths c.judge_lines.new.batches c.judge_lines.new.seconds) (sym (rows_are s c.first_line-first.result.stop c.first_line-first.result.next c.first_line-first.ensures.stop c.first_line-first.ensures.next (pos_of_ne-zero c.if-text-eq0.false))) (c.judge_lines.ensures.rows n e)

pub returns-then-not-is_ascii-clause-answer : goal.returns-then-not-is_ascii-clause-answer
returns-then-not-is_ascii-clause-answer c = let a = c.args in
    let t = c.is_ascii in sym (text_high a.room a.text.now (sym t.ensures ∙ c.if-not-is_ascii.true))

pub returns-clause-answer : goal.returns-clause-answer
returns-clause-answer c = let s = c.args.text.now in
    let t = c.is_ascii in c.judge_lines.ensures.answer
    ∙ ap (judge_lines c.args.room) (sym (line_first s c.first_line-first.result.stop c.first_line-first.result.next c.first_line-first.ensures.stop c.first_line-first.ensures.next (pos_of_ne-zero c.if-text-eq0.false)))
    ∙ sym (text_judged c.args.room s (sym t.ensures ∙ c.if-not-is_ascii.false))
