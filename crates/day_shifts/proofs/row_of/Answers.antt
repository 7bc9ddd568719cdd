-- `day_shifts::row_of` meets its contract: each turn looks at one row. Assumes nothing.
use mathlib.Core.Path.{sym, ◌∙◌}
use Prim.Native.Nat.{◌+◌, ◌-◌}
use native.Mathlib.Omega.{arith}
use Rattle.day_shifts.proofs.Ways.{row_ended, row_found, row_next}
use Rattle.day_shifts.proofs.row_of.Goals as goal

pub returns-then-is_of : goal.returns-then-is_of
returns-then-is_of c =
    let a = c.args in
    (sym (c.loop-row.invariant ∙ row_found a.shifts.now a.a a.b _ c.loop-row.row (omega arith) (sym c.is_of.ensures ∙ c.if-is_of.true)), omega arith)

pub loop-row-preserved : goal.loop-row-preserved
loop-row-preserved c =
    let a = c.args in
    c.loop-row.invariant ∙ row_next a.shifts.now a.a a.b _ (a.rows - (c.loop-row.row + 1)) c.loop-row.row (omega arith) (sym c.is_of.ensures ∙ c.if-is_of.false)

pub returns : goal.returns
returns c =
    let a = c.args in
    (row_ended a.shifts.now a.a a.b a.rows c.loop-row.row (omega arith) c.loop-row.invariant, omega arith)
