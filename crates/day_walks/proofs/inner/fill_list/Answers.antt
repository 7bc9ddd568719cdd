-- `day_walks::inner::fill_list` meets its contract: at each field what is to be stored is that of the fields from there on. Assumes nothing.
use mathlib.Core.Path.{sym}
use mathlib.Core.List.{[]}
use Prim.Native.Nat.{◌+◌}
use native.Mathlib.Omega.{arith}
use lib.Seq.{length-take-le}
use Rattle.text.specs.Fields.{fields}
use Rattle.blocks.proofs.Finding.{found_le, part_length}
use Rattle.text.proofs.Walk.{field_last, field_next}
use Rattle.bank_curve.proofs.Stores.{storing_begins, storing_ends}
use Rattle.day_walks.specs.Walks.{each}
use Rattle.day_walks.proofs.Turns.{walk_stores}
use Rattle.day_walks.proofs.inner.fill_list.Goals as goal

pub loop-rest-init : goal.loop-rest-init
loop-rest-init g c = (omega arith, storing_begins (each g.T.ListNumber.read_of (fields c.args.list.now)) c.args.out.now 0 (omega arith))

pub slice_bounds-read-end : goal.slice_bounds-read-end
slice_bounds-read-end g c =
    let s = c.loop-rest.rest.now in
    sym (length-take-le c.find-comma.result s (found_le 44 s c.find-comma.result c.find-comma.ensures))

pub returns-then-rest-comma : goal.returns-then-rest-comma
returns-then-rest-comma g c =
    let l = c.loop-rest in
    let s = l.rest.now in
    let n = c.find-comma in
    let a = c.args in
    let all = each g.T.ListNumber.read_of (fields a.list.now) in
    (storing_ends all a.out.now 0 _ c.put-at.result
    (walk_stores g.T.ListNumber.read_of all a.out.now l.out l.at _ c.put-at.result c.read-value.result s n.result []
    (field_last s n.result n.ensures c.if-rest-comma.true) c.read-value.ensures c.put-at.ensures.stored c.put-at.ensures.next l.invariant.1)).1

pub loop-rest-smaller : goal.loop-rest-smaller
loop-rest-smaller g c = omega (arith, part_length (c.find-comma.result + 1) c.loop-rest.rest.now, c.if-rest-comma.false)

pub loop-rest-preserved : goal.loop-rest-preserved
loop-rest-preserved g c =
    let l = c.loop-rest in
    let s = l.rest.now in
    let n = c.find-comma in
    let a = c.args in (
      omega (arith, part_length (n.result + 1) s, c.if-rest-comma.false),
      walk_stores g.T.ListNumber.read_of (each g.T.ListNumber.read_of (fields a.list.now)) a.out.now l.out l.at _ c.put-at.result c.read-value.result s n.result _
          (field_next s n.result n.ensures c.if-rest-comma.false) c.read-value.ensures c.put-at.ensures.stored c.put-at.ensures.next l.invariant.1,
    )
