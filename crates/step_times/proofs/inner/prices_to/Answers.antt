-- `inner::prices_to` meets its contract. Assumes nothing.
use Rattle.std.proofs.Common.{arith, ap, ◌∙◌}
use Rattle.step_times.specs.Prices.{price_of, prices}
use Rattle.nearest_row.proofs.Placed.{place_next}
use Rattle.step_times.proofs.Filled.{fill_none, fill_turn, fill_ended}
use Rattle.step_times.proofs.inner.prices_to.Goals as goal

pub loop-g-init : goal.loop-g-init
loop-g-init c = (omega arith, fill_none _ _)

pub loop-g-preserved : goal.loop-g-preserved
loop-g-preserved c =
    let v = c.loop-g.invariant in
    let p = c.requires.rows_in_bounds in
    let next = place_next c.args.rows c.args.depths.now c.args.batches.now c.args.seconds.now p.0 p.1 p.2 c.requires.seconds_value c.loop-g.g c.args.batch in
    (omega (arith, next, c.place_from-at.ensures), fill_turn _ c.loop-g.g _ _ c.price_of.result v.1 (c.price_of.ensures ∙ ap (price_of c.args.kv_delta) c.beside-near.ensures))

pub returns : goal.returns
unfolding prices
returns c = fill_ended _ c.loop-g.g 65 _ c.loop-g.invariant.1 (omega arith) (omega arith)
