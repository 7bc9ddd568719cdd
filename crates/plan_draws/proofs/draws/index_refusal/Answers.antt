-- `draws::index_refusal` meets its contract: where all are below the round count nothing is refused. Assumes nothing.
use Rattle.plan_draws.proofs.Late.{none_above}
use Rattle.plan_draws.proofs.draws.index_refusal.Goals as goal

pub returns-then-are_below : goal.returns-then-are_below
returns-then-are_below c =
    let a = c.args in
    none_above a.rounds a.n a.indices.now c.if-n-indices.true (c.are_below.ensures c.if-are_below.true)
