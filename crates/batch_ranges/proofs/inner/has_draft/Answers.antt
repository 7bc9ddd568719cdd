-- `inner::has_draft` meets its contract. Assumes nothing.
use Rattle.std.proofs.Common.{◌∙◌}
use Rattle.batch_ranges.proofs.Turns.{measured_any}
use Rattle.batch_ranges.proofs.inner.has_draft.Goals as goal

pub returns : goal.returns
returns c =
    let p = c.requires.rows_in_bounds in
    c.contains.ensures.value ∙ measured_any c.args.depth c.args.rows c.args.depths.now c.args.batches.now c.args.seconds.now p.0 p.1 p.2
