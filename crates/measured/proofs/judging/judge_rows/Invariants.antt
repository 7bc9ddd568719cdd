-- `measured::judging::judge_rows` meets its contract: at each line the answer is that of the lines from there on. Assumes nothing.
use mathlib.Core.Path.{◌≡◌}
use Prim.Native.Nat.{◌≤◌, ◌+◌}
use lib.ListN.{length, drop}
use Rattle.text.specs.Lines.{lines}
use Rattle.measured.specs.Judge.{judge_rows}
use Rattle.cost_rows.proofs.Columns.{Done}
use Rattle.measured.specs.Fill.{rows_of}
use Rattle.measured.proofs.judging.judge_rows.Given as goal

abbrev pub invariant-loop-rest : goal.invariant-loop-rest
invariant-loop-rest l =
    (l.rows ≤ 4096) × ((l.next_row + length l.rest ≤ length l.text + 2) × ((judge_rows l.room (lines l.text) 2 0 ≡ judge_rows l.room (lines l.rest) l.next_row l.rows) × (Done (rows_of (lines l.text)) l.rows l.initial.depths l.initial.batches l.initial.seconds l.depths l.batches l.seconds × (drop l.rows (rows_of (lines l.text)) ≡ rows_of (lines l.rest)))))

abbrev pub decreases-loop-rest : goal.decreases-loop-rest
decreases-loop-rest l = length l.rest
