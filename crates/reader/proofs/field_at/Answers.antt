-- `reader::field_at` meets its contract: the first comma of what is left stands no later than the line's end. Assumes nothing.
use native.Mathlib.Omega.{arith}
use Rattle.reader.proofs.Reading.{field_stops}
use Rattle.reader.proofs.field_at.Goals as goal

pub overflow_add-comma : goal.overflow_add-comma
overflow_add-comma c =
    let a = c.args in
    omega (arith, field_stops a.text.now a.at a.stop c.find.result c.if-at-stop.true c.if-stop-text.true c.find.ensures)

pub overflow_add-result : goal.overflow_add-result
overflow_add-result c =
    let a = c.args in
    omega (arith, field_stops a.text.now a.at a.stop c.find.result c.if-at-stop.true c.if-stop-text.true c.find.ensures)
