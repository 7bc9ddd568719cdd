-- `measured::read` meets its contract: a refusal writes nothing, and an accepted text fills the columns, which are then put in order and cleaned. Assumes nothing.
use mathlib.Core.Path.{◌≡◌, sym, ap, ◌∙◌}
use Rattle.std.proofs.Common.{rules, Ok, Err}
use native.Mathlib.Omega.{arith}
use lib.Seq.{length-take-le}
use Rattle.measured.proofs.Accepted.{read_refused, few, rows_fit, put_written, left_few, read_filled}
use Rattle.measured.specs.Judge.{Answer}
use Rattle.measured.specs.Fill.{Outcome}
use Rattle.measured.proofs.read.Goals as goal

pub returns-in_err-rows : goal.returns-in_err-rows
returns-in_err-rows c =
    let a = c.args in
    let why = c.in_err-rows.field-0.0 in
    let given : c.from_residual.result ≡ Err why = search rules in
    let is : c.judge.result ≡ Err why = search rules in
    ap {B = Outcome} (λ (x : Answer). record { answer = x; depths = a.depths.now; batches = a.batches.now; seconds = a.seconds.now }) (given ∙ sym is)
    ∙ read_refused a.text.now a.depths.now a.batches.now a.seconds.now c.min.result c.min-room.result c.min.ensures c.min-room.ensures c.judge.result c.judge.ensures.answer why is

pub slice_bounds-read_depths-end : goal.slice_bounds-read_depths-end
slice_bounds-read_depths-end c =
    let a = c.args in
    let is : c.judge.result ≡ Ok c.in_ok-rows.rows = search rules in
    let h = few a.text.now a.depths.now a.batches.now a.seconds.now c.min.result c.min-room.result c.min.ensures c.min-room.ensures c.judge.result c.judge.ensures.answer _ is in
    omega (arith, h)

pub slice_bounds-put-end : goal.slice_bounds-put-end
slice_bounds-put-end c =
    let a = c.args in
    let is : c.judge.result ≡ Ok c.in_ok-rows.rows = search rules in
    let h = few a.text.now a.depths.now a.batches.now a.seconds.now c.min.result c.min-room.result c.min.ensures c.min-room.ensures c.judge.result c.judge.ensures.answer _ is in
    sym (length-take-le _ c.judge.new.depths (omega (arith, h)))

pub slice_bounds-read_batches-end : goal.slice_bounds-read_batches-end
slice_bounds-read_batches-end c =
    let a = c.args in
    let is : c.judge.result ≡ Ok c.in_ok-rows.rows = search rules in
    let h = few a.text.now a.depths.now a.batches.now a.seconds.now c.min.result c.min-room.result c.min.ensures c.min-room.ensures c.judge.result c.judge.ensures.answer _ is in
    omega (arith, h)

pub slice_bounds-put-end-2 : goal.slice_bounds-put-end-2
slice_bounds-put-end-2 c =
    let a = c.args in
    let is : c.judge.result ≡ Ok c.in_ok-rows.rows = search rules in
    let h = few a.text.now a.depths.now a.batches.now a.seconds.now c.min.result c.min-room.result c.min.ensures c.min-room.ensures c.judge.result c.judge.ensures.answer _ is in
    sym (length-take-le _ c.judge.new.batches (omega (arith, h)))

pub slice_bounds-read_seconds-end : goal.slice_bounds-read_seconds-end
slice_bounds-read_seconds-end c =
    let a = c.args in
    let is : c.judge.result ≡ Ok c.in_ok-rows.rows = search rules in
    let h = few a.text.now a.depths.now a.batches.now a.seconds.now c.min.result c.min-room.result c.min.ensures c.min-room.ensures c.judge.result c.judge.ensures.answer _ is in
    omega (arith, h)

pub slice_bounds-put-end-3 : goal.slice_bounds-put-end-3
slice_bounds-put-end-3 c =
    let a = c.args in
    let is : c.judge.result ≡ Ok c.in_ok-rows.rows = search rules in
    let h = few a.text.now a.depths.now a.batches.now a.seconds.now c.min.result c.min-room.result c.min.ensures c.min-room.ensures c.judge.result c.judge.ensures.answer _ is in
    sym (length-take-le _ c.judge.new.seconds (omega (arith, h)))

pub put-requires : goal.put-requires
put-requires c =
    let a = c.args in
    let is : c.judge.result ≡ Ok c.in_ok-rows.rows = search rules in
    rows_fit a.text.now a.depths.now a.batches.now a.seconds.now c.min.result c.min-room.result c.min.ensures c.min-room.ensures c.judge.result c.judge.ensures.answer _ is c.judge.new.depths c.judge.new.batches c.judge.new.seconds

pub cleaned-requires : goal.cleaned-requires
cleaned-requires c =
    let a = c.args in
    let is : c.judge.result ≡ Ok c.in_ok-rows.rows = search rules in
    let w = put_written a.text.now a.depths.now a.batches.now a.seconds.now c.min.result c.min-room.result c.min.ensures c.min-room.ensures c.judge.result c.judge.ensures.answer _ is c.judge.new.depths c.judge.new.batches c.judge.new.seconds (c.judge.ensures.rows _ is) c.put.new.depths c.put.new.batches c.put.new.seconds c.put.ensures.depths c.put.ensures.batches c.put.ensures.seconds in
    left_few a.text.now a.depths.now a.batches.now a.seconds.now c.min.result c.min-room.result c.min.ensures c.min-room.ensures c.judge.result c.judge.ensures.answer _ is c.put.new.depths c.put.new.batches c.put.new.seconds w c.clean-left.result c.clean-left.ensures.left

pub returns : goal.returns
returns c =
    let a = c.args in
    let is : c.judge.result ≡ Ok c.in_ok-rows.rows = search rules in
    let o = c.cleaned in
    let w = put_written a.text.now a.depths.now a.batches.now a.seconds.now c.min.result c.min-room.result c.min.ensures c.min-room.ensures c.judge.result c.judge.ensures.answer _ is c.judge.new.depths c.judge.new.batches c.judge.new.seconds (c.judge.ensures.rows _ is) c.put.new.depths c.put.new.batches c.put.new.seconds c.put.ensures.depths c.put.ensures.batches c.put.ensures.seconds in
    read_filled a.text.now a.depths.now a.batches.now a.seconds.now c.min.result c.min-room.result c.min.ensures c.min-room.ensures c.judge.result c.judge.ensures.answer _ is c.put.new.depths c.put.new.batches c.put.new.seconds w c.clean-left.result c.clean-left.ensures.left
    o.result c.clean-left.new.depths c.clean-left.new.batches c.clean-left.new.seconds o.ensures c.clean-left.ensures.columns
