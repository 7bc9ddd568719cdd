-- `measured::judging::judge_rows` meets its contract: at each line the answer is that of the lines from there on. Assumes nothing.
use Rattle.std.proofs.Common.{rules, ◌≡◌, Some, None, Ok}
use mathlib.Core.Path.{refl, sym, ◌∙◌}
use Prim.Native.Nat.{◌<◌}
use native.Mathlib.Omega.{arith}
use lib.Seq.{length-take-le}
use Rattle.text.specs.Lines.{lines}
use Rattle.blocks.proofs.Finding.{part_length}
use Rattle.text.proofs.Walk.{line_stop, line_next, line_first, lines_none}
use Rattle.cost_rows.proofs.Columns.{none_done, put_row_done, all_done, head_rest}
use native.Mathlib.Numerals.{add-one}
use Rattle.measured.specs.Fill.{rows_of}
use Rattle.measured.proofs.Accepted.{put_refused, put_all}
use Rattle.measured.proofs.Laws.{of_blank, of_row, of_none, rows_none, rows_done, rows_blank, rows_wrong, rows_many, rows_full, rows_next}
use Rattle.measured.proofs.judging.judge_rows.Goals as goal

pub loop-rest-init : goal.loop-rest-init
loop-rest-init c =
    let a = c.args in
    (omega arith, (omega arith, (refl, (none_done (rows_of (lines a.text.now)) a.depths.now a.batches.now a.seconds.now, refl))))

pub slice_bounds-read_line-end : goal.slice_bounds-read_line-end
slice_bounds-read_line-end c =
    let s = c.loop-rest.rest.now in
    sym (length-take-le c.short_line-first.result.stop s (line_stop s c.short_line-first.result.stop c.short_line-first.result.next c.short_line-first.ensures.stop c.short_line-first.ensures.next))

pub loop-rest-smaller-in-Ok-None : goal.loop-rest-smaller-in-Ok-None
loop-rest-smaller-in-Ok-None c =
    let s = c.loop-rest.rest.now in
    omega (arith, part_length c.short_line-first.result.next s, line_next s c.short_line-first.result.stop c.short_line-first.result.next c.short_line-first.ensures.stop c.short_line-first.ensures.next c.loop-rest-test.true)

pub loop-rest-preserved-in-Ok-None : goal.loop-rest-preserved-in-Ok-None
loop-rest-preserved-in-Ok-None c =
    let l = c.loop-rest in
    let s = c.read_line-said in
    let is : s.result ≡ Ok None = search rules in
    let first = line_first l.rest.now c.short_line-first.result.stop c.short_line-first.result.next c.short_line-first.ensures.stop c.short_line-first.ensures.next c.loop-rest-test.true in
    let p = line_next l.rest.now c.short_line-first.result.stop c.short_line-first.result.next c.short_line-first.ensures.stop c.short_line-first.ensures.next c.loop-rest-test.true in
    let b = l.invariant.1.0 in
    (l.invariant.0, (omega (arith, part_length c.short_line-first.result.next l.rest.now, p, b), (l.invariant.1.1.0 ∙ rows_blank c.args.room (lines l.rest.now) _ _ l.next_row l.rows s.result first s.ensures is, (l.invariant.1.1.1.0, l.invariant.1.1.1.1 ∙ of_blank (lines l.rest.now) _ _ s.result first s.ensures is))))

pub returns-in-Err-clause-answer : goal.returns-in-Err-clause-answer
returns-in-Err-clause-answer c = let l = c.loop-rest in
    let s = c.read_line-said in
    let first = line_first l.rest.now c.short_line-first.result.stop c.short_line-first.result.next c.short_line-first.ensures.stop c.short_line-first.ensures.next c.loop-rest-test.true in sym (l.invariant.1.1.0 ∙ rows_wrong c.args.room (lines l.rest.now) _ _ l.next_row l.rows s.result first s.ensures _ c.in-Err.is)

pub returns-in-Err-clause-rows : goal.returns-in-Err-clause-rows
returns-in-Err-clause-rows c = let l = c.loop-rest in
    let s = c.read_line-said in
    let first = line_first l.rest.now c.short_line-first.result.stop c.short_line-first.result.next c.short_line-first.ensures.stop c.short_line-first.ensures.next c.loop-rest-test.true in put_refused _ _ (rows_of (lines c.args.text.now)) l.depths l.batches l.seconds refl

pub returns-then-rows-ge-MOST_ROWS-clause-answer : goal.returns-then-rows-ge-MOST_ROWS-clause-answer
returns-then-rows-ge-MOST_ROWS-clause-answer c = let l = c.loop-rest in
    let s = c.read_line-said in
    let is : s.result ≡ Ok (Some c.in-Ok-Some.read) = search rules in
    let first = line_first l.rest.now c.short_line-first.result.stop c.short_line-first.result.next c.short_line-first.ensures.stop c.short_line-first.ensures.next c.loop-rest-test.true in sym (l.invariant.1.1.0 ∙ rows_many c.args.room (lines l.rest.now) _ _ l.next_row l.rows s.result first s.ensures _ is c.if-rows-ge-MOST_ROWS.true)

pub returns-then-rows-ge-MOST_ROWS-clause-rows : goal.returns-then-rows-ge-MOST_ROWS-clause-rows
returns-then-rows-ge-MOST_ROWS-clause-rows c = let l = c.loop-rest in
    let s = c.read_line-said in
    let first = line_first l.rest.now c.short_line-first.result.stop c.short_line-first.result.next c.short_line-first.ensures.stop c.short_line-first.ensures.next c.loop-rest-test.true in put_refused _ _ (rows_of (lines c.args.text.now)) l.depths l.batches l.seconds refl

pub returns-then-room-rows-clause-answer : goal.returns-then-room-rows-clause-answer
returns-then-room-rows-clause-answer c = let l = c.loop-rest in
    let s = c.read_line-said in
    let is : s.result ≡ Ok (Some c.in-Ok-Some.read) = search rules in
    let first = line_first l.rest.now c.short_line-first.result.stop c.short_line-first.result.next c.short_line-first.ensures.stop c.short_line-first.ensures.next c.loop-rest-test.true in sym (l.invariant.1.1.0 ∙ rows_full c.args.room (lines l.rest.now) _ _ l.next_row l.rows s.result first s.ensures _ is c.if-rows-ge-MOST_ROWS.false c.if-room-rows.true)

pub returns-then-room-rows-clause-rows : goal.returns-then-room-rows-clause-rows
returns-then-room-rows-clause-rows c = let l = c.loop-rest in
    let s = c.read_line-said in
    let first = line_first l.rest.now c.short_line-first.result.stop c.short_line-first.result.next c.short_line-first.ensures.stop c.short_line-first.ensures.next c.loop-rest-test.true in put_refused _ _ (rows_of (lines c.args.text.now)) l.depths l.batches l.seconds refl

pub put_row-requires : goal.put_row-requires
put_row-requires c =
    let l = c.loop-rest in
    let w : l.rows < 4096 = c.if-rows-ge-MOST_ROWS.false in
    let i = l.invariant.1.1.1.0.depths_length in
    let j = l.invariant.1.1.1.0.batches_length in
    let k = l.invariant.1.1.1.0.seconds_length in
    (omega (arith, w, c.requires.0, i), omega (arith, w, c.requires.1, j), omega (arith, w, c.requires.2, k))

pub loop-rest-smaller : goal.loop-rest-smaller
loop-rest-smaller c =
    let s = c.loop-rest.rest.now in
    omega (arith, part_length c.short_line-first.result.next s, line_next s c.short_line-first.result.stop c.short_line-first.result.next c.short_line-first.ensures.stop c.short_line-first.ensures.next c.loop-rest-test.true)

pub loop-rest-preserved : goal.loop-rest-preserved
loop-rest-preserved c =
    let l = c.loop-rest in
    let a = c.args in
    let s = c.read_line-said in
    let is : s.result ≡ Ok (Some c.in-Ok-Some.read) = search rules in
    let first = line_first l.rest.now c.short_line-first.result.stop c.short_line-first.result.next c.short_line-first.ensures.stop c.short_line-first.ensures.next c.loop-rest-test.true in
    let p = line_next l.rest.now c.short_line-first.result.stop c.short_line-first.result.next c.short_line-first.ensures.stop c.short_line-first.ensures.next c.loop-rest-test.true in
    let b = l.invariant.1.0 in
    let w : l.rows < 4096 = c.if-rows-ge-MOST_ROWS.false in
    let e = l.invariant.1.1.1.1 ∙ of_row (lines l.rest.now) _ _ s.result first s.ensures _ is in (
      omega (arith, c.if-rows-ge-MOST_ROWS.false),
      (
        omega (arith, part_length c.short_line-first.result.next l.rest.now, p, b),
        (
          l.invariant.1.1.0 ∙ rows_next c.args.room (lines l.rest.now) _ _ l.next_row l.rows s.result first s.ensures _ is c.if-rows-ge-MOST_ROWS.false c.if-room-rows.false,
          (
            put_row_done (rows_of (lines a.text.now)) l.rows a.depths.now a.batches.now a.seconds.now l.depths l.batches l.seconds l.invariant.1.1.1.0 _ _ e (omega (arith, w, c.requires.0)) (omega (arith, w, c.requires.1)) (omega (arith, w, c.requires.2)) c.put_row.new.depths c.put_row.new.batches c.put_row.new.seconds c.put_row.ensures.0 c.put_row.ensures.1 c.put_row.ensures.2,
            rw (add-one l.rows) (head_rest (rows_of (lines a.text.now)) l.rows _ _ e),
          ),
        ),
      ),
    )

pub returns-then-rows-eq0-clause-answer : goal.returns-then-rows-eq0-clause-answer
returns-then-rows-eq0-clause-answer c = let l = c.loop-rest in sym (l.invariant.1.1.0 ∙ rows_none c.args.room (lines l.rest.now) l.next_row l.rows (lines_none l.rest.now c.loop-rest-test.false) c.if-rows-eq0.true)

pub returns-then-rows-eq0-clause-rows : goal.returns-then-rows-eq0-clause-rows
returns-then-rows-eq0-clause-rows c = let l = c.loop-rest in put_refused _ _ (rows_of (lines c.args.text.now)) l.depths l.batches l.seconds refl

pub returns-clause-answer : goal.returns-clause-answer
returns-clause-answer c = let l = c.loop-rest in
    let a = c.args in sym (l.invariant.1.1.0 ∙ rows_done c.args.room (lines l.rest.now) l.next_row l.rows (lines_none l.rest.now c.loop-rest-test.false) c.if-rows-eq0.false)

pub returns-clause-rows : goal.returns-clause-rows
returns-clause-rows c = let l = c.loop-rest in
    let a = c.args in λ n e. put_all (rows_of (lines a.text.now)) a.depths.now a.batches.now a.seconds.now l.depths l.batches l.seconds
    (all_done (rows_of (lines a.text.now)) l.rows a.depths.now a.batches.now a.seconds.now l.depths l.batches l.seconds l.invariant.1.1.1.0 (l.invariant.1.1.1.1 ∙ of_none (lines l.rest.now) (lines_none l.rest.now c.loop-rest-test.false)))
