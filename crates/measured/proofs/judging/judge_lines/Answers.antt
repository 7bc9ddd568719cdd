-- `measured::judging::judge_lines` meets its contract: the header first, then the rows. Assumes nothing.
use mathlib.Core.Path.{refl, sym, ◌∙◌}
use Rattle.text.specs.Lines.{lines}
use Rattle.measured.specs.Fill.{rows_of}
use Rattle.measured.proofs.Laws.{lines_refused, lines_judged}
use Rattle.measured.proofs.Accepted.{put_refused}
use Rattle.measured.proofs.judging.judge_lines.Goals as goal

pub returns-then-not-is_header-clause-rows : goal.returns-then-not-is_header-clause-rows
returns-then-not-is_header-clause-rows c = let a = c.args in
    let h = c.is_header in put_refused _ _ (rows_of (lines a.rows.now)) a.depths.now a.batches.now a.seconds.now refl

pub returns-clause-rows : goal.returns-clause-rows
returns-clause-rows c = let a = c.args in
    let h = c.is_header in c.judge_rows.ensures.rows

pub returns-then-not-is_header-clause-answer : goal.returns-then-not-is_header-clause-answer
returns-then-not-is_header-clause-answer c = let a = c.args in
    let h = c.is_header in sym (lines_refused a.room a.header.now (lines a.rows.now) h.result h.ensures c.if-not-is_header.true)

pub returns-clause-answer : goal.returns-clause-answer
returns-clause-answer c = let a = c.args in
    let h = c.is_header in c.judge_rows.ensures.answer ∙ sym (lines_judged a.room a.header.now (lines a.rows.now) h.result h.ensures c.if-not-is_header.false)
