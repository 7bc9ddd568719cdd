-- `reader::line_at` meets its contract: there is no line at the text's end, and else it is the first line of what is left. Assumes nothing.
use Prim.Native.Nat.{◌-◌}
use native.Mathlib.Omega.{arith}
use lib.ListN.{length, take, drop}
use Rattle.reader.proofs.Reading.{no_line_at, line_found}
use Rattle.blocks.proofs.Finding.{part_length}
use Rattle.text.proofs.Walk.{line_stop}
use Rattle.reader.proofs.line_at.Goals as goal

pub returns-then-text-at : goal.returns-then-text-at
returns-then-text-at c = no_line_at c.args.text.now c.args.at c.if-text-at.true

pub overflow_add-result : goal.overflow_add-result
overflow_add-result c =
    let a = c.args in
    let text = a.text.now in
    omega (arith, part_length a.at text, line_stop (take (length text - a.at) (drop a.at text)) c.first_line-line.result.stop c.first_line-line.result.next c.first_line-line.ensures.stop c.first_line-line.ensures.next)

pub returns : goal.returns
returns c =
    let a = c.args in
    line_found a.text.now a.at c.first_line-line.result.stop c.first_line-line.result.next c.if-text-at.false c.first_line-line.ensures.stop c.first_line-line.ensures.next
