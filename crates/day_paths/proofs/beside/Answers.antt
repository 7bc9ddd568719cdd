-- `day_paths::beside` meets its contract: each way out is a law of its own. Assumes nothing.
use mathlib.Core.Path.{sym}
use lib.Seq.{length-take-le}
use Rattle.day_paths.proofs.Ways.{kept_le, folder_too_long, path_too_long, path_done}
use Rattle.day_paths.proofs.beside.Goals as goal
use Rattle.day_paths.proofs.beside.Goals.{then-out-kept-via-then-out-kept, then-out-kept-via-else-out-kept+then-out-kept-2}

pub returns-then-out-kept : goal.returns-then-out-kept
returns-then-out-kept c =
    let a = c.args in
    let k = c.kept_of-kept in
    elim c.then-out-kept.branch [
      | then-out-kept-via-then-out-kept w ↦ folder_too_long a.day.now a.name.now a.out.now k.result k.ensures w.if-out-kept.true
      | then-out-kept-via-else-out-kept+then-out-kept-2 w ↦ path_too_long a.day.now a.name.now a.out.now k.result k.ensures w.if-out-kept.false w.if-out-kept-2.true
    ]

pub slice_bounds-put_both-end : goal.slice_bounds-put_both-end
slice_bounds-put_both-end c =
    let a = c.args in
    sym (length-take-le c.kept_of-kept.result a.day.now (kept_le a.day.now a.name.now c.kept_of-kept.result c.kept_of-kept.ensures))

pub returns : goal.returns
returns c =
    let a = c.args in
    path_done a.day.now a.name.now a.out.now c.kept_of-kept.result c.kept_of-kept.ensures c.if-out-kept.false c.if-out-kept-2.false c.put_both.result _ c.put_both.ensures.long c.put_both.ensures.put
