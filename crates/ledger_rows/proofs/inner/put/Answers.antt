-- `inner::put` meets its contract: each turn stores one value more. Assumes nothing.
use native.Mathlib.Omega.{arith}
use Rattle.ledger_rows.proofs.Shift.{paste_turn, stored_paste}
use Rattle.ledger_rows.proofs.inner.put.Goals as goal

pub loop-i-preserved : goal.loop-i-preserved
loop-i-preserved c =
    let a = c.args in
    paste_turn a.words.now a.at a.values.now c.loop-i.i c.loop-i.words c.requires c.loop-i-test.true c.loop-i.invariant

pub returns : goal.returns
returns c =
    let a = c.args in
    stored_paste a.words.now a.at a.values.now c.loop-i.i c.loop-i.words (omega arith) c.loop-i-test.false c.loop-i.invariant
