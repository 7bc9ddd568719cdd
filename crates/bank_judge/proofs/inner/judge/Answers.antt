-- `bank_judge::inner::judge` meets its contract: the first line is the header, and the lines after it the rows. Assumes nothing.
use mathlib.Core.Path.{sym, ap, ◌∙◌}
use mathlib.Core.List.{List}
use Prim.Native.Nat.{ℕ}
use native.Mathlib.Nat.{pos_of_ne-zero}
use lib.Seq.{length-take-le}
use Rattle.text.proofs.Walk.{line_stop, line_first}
use Rattle.bank_judge.specs.Judge.{judge_lines}
use Rattle.bank_judge.proofs.Laws.{text_high, text_empty, text_judged}
use Rattle.bank_judge.proofs.inner.judge.Goals as goal

pub returns-then-not-is_ascii : goal.returns-then-not-is_ascii
returns-then-not-is_ascii c =
    let a = c.args in
    let t = c.is_ascii in
    sym (text_high a.text.now a.commits a.signals a.curve (sym t.ensures ∙ c.if-not-is_ascii.true))

pub returns-then-text-eq0 : goal.returns-then-text-eq0
returns-then-text-eq0 c =
    let a = c.args in
    sym (text_empty a.text.now a.commits a.signals a.curve c.if-text-eq0.true)

pub slice_bounds-judge_lines-end : goal.slice_bounds-judge_lines-end
slice_bounds-judge_lines-end c =
    let s = c.args.text.now in
    sym (length-take-le c.first_line-line.result.stop s (line_stop s c.first_line-line.result.stop c.first_line-line.result.next c.first_line-line.ensures.stop c.first_line-line.ensures.next))

pub returns : goal.returns
returns c =
    let a = c.args in
    let s = a.text.now in
    let t = c.is_ascii in
    c.judge_lines.ensures
    ∙ ap (λ (l : List (List ℕ)). judge_lines l a.commits a.signals a.curve)
    (sym (line_first s c.first_line-line.result.stop c.first_line-line.result.next c.first_line-line.ensures.stop c.first_line-line.ensures.next (pos_of_ne-zero c.if-text-eq0.false)))
    ∙ sym (text_judged s a.commits a.signals a.curve (sym t.ensures ∙ c.if-not-is_ascii.false))
