-- `cost_rows::inner::sanitised` meets its contract. Assumes nothing.
use mathlib.Core.Path.{◌≡◌, sym, ◌∙◌}
use Prim.Native.Nat.{◌≤◌, ◌<◌}
use native.Mathlib.Omega.{arith}
use lib.ListN.{length, drop}
use mathlib.Core.Bool.{true, false}
use mathlib.Core.List.{[]}
use Rattle.cost_rows.specs.Table.{zip}
use Rattle.cost_rows.specs.Prune.{kept}
use Rattle.cost_rows.specs.Inner.{dropped_at}
use Rattle.cost_rows.proofs.Columns.{all_done, all_count}
use Rattle.cost_rows.proofs.Keeping.{keep_row, keep_left, drop_left, kept_none}
use Rattle.cost_rows.proofs.Rows.{table_is}
use Rattle.cost_rows.proofs.Rows.{zip_length}
use Rattle.cost_rows.proofs.inner.sanitised.Goals.{then-not-is_dropped, else-not-is_dropped}
use Rattle.cost_rows.proofs.inner.sanitised.Goals as goal

pub loop-i-preserved : goal.loop-i-preserved
loop-i-preserved c =
    let a = c.args in
    let v = c.loop-i.invariant in
    let d = a.depths.now in
    let b = a.batches.now in
    let s = a.seconds.now in
    let n = c.count-n.result in
    let l = c.loop-i in
    let K = kept (zip n d b s) in
    let p : n ≤ length d = omega arith in
    let q : n ≤ length b = omega arith in
    let r : n ≤ length s = omega arith in
    let h : l.i < n = omega arith in
    elim c.if-not-is_dropped.branch [
      | then-not-is_dropped w ↦
          let e : dropped_at l.depths l.seconds n l.i ≡ false = sym c.is_dropped.ensures ∙ w.if-not-is_dropped.true in
          let depths_are = w.put_row.ensures.0 in
          let batches_are = w.put_row.ensures.1 in
          let seconds_are = w.put_row.ensures.2 in (
            omega arith,
            v.1,
            rw (w.depths-is, w.batches-is, w.seconds-is, w.left-is, depths_are, batches_are, seconds_are) (keep_row K l.left d b s l.depths l.batches l.seconds v.2 n l.i p q r h v.0 v.3 e),
            rw w.left-is (keep_left K l.left d b s l.depths l.batches l.seconds v.2 n l.i p q r h v.0 v.3 e),
          )
      | else-not-is_dropped w ↦
          let e : dropped_at l.depths l.seconds n l.i ≡ true = sym c.is_dropped.ensures ∙ w.if-not-is_dropped.false in (
            omega arith,
            v.1,
            rw (w.depths-is, w.batches-is, w.seconds-is, w.left-is) v.2,
            rw w.left-is (drop_left K l.left d b s l.depths l.batches l.seconds v.2 n l.i p q r h v.0 v.3 e),
          )
    ]

pub returns-clause-value : goal.returns-clause-value
returns-clause-value c =
    let a = c.args in
    let v = c.loop-i.invariant in
    let d = a.depths.now in
    let b = a.batches.now in
    let s = a.seconds.now in
    let n = c.count-n.result in
    let K = kept (zip n d b s) in
    let rest : drop c.loop-i.left K ≡ [] = v.3 ∙ kept_none (zip n d b s) c.loop-i.i (omega (arith, zip_length n d b s (omega arith) (omega arith) (omega arith))) in
    rw (← table_is a.rows n d b s v.1) (all_count K c.loop-i.left d b s c.loop-i.depths c.loop-i.batches c.loop-i.seconds v.2 rest)

pub returns-clause-written : goal.returns-clause-written
returns-clause-written c =
    let a = c.args in
    let v = c.loop-i.invariant in
    let d = a.depths.now in
    let b = a.batches.now in
    let s = a.seconds.now in
    let n = c.count-n.result in
    let K = kept (zip n d b s) in
    let rest : drop c.loop-i.left K ≡ [] = v.3 ∙ kept_none (zip n d b s) c.loop-i.i (omega (arith, zip_length n d b s (omega arith) (omega arith) (omega arith))) in
    rw (← table_is a.rows n d b s v.1) (all_done K c.loop-i.left d b s c.loop-i.depths c.loop-i.batches c.loop-i.seconds v.2 rest)
