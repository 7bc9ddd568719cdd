-- `bank::judging::judge_rows` meets its contract: at each line the answer is that of the lines from there on. Assumes nothing.
use mathlib.Core.Path.{◌≡◌}
use Prim.Native.Nat.{◌≤◌}
use lib.ListN.{length}
use Rattle.text.specs.Lines.{lines}
use Rattle.bank_judge.specs.Judge.{judge_rows}
use Rattle.bank_judge.proofs.inner.judge_rows.Given as goal

abbrev pub invariant-loop-rest : goal.invariant-loop-rest
invariant-loop-rest l = (l.round ≤ 65536) × ((length l.rest ≤ length l.rows) × (judge_rows l.width l.skip l.depth l.room (lines l.rows) 0 ≡ judge_rows l.width l.skip l.depth l.room (lines l.rest) l.round))

abbrev pub decreases-loop-rest : goal.decreases-loop-rest
decreases-loop-rest l = length l.rest
