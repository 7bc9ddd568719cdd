-- `weighing::verify_within` meets its contract, by those of the functions that it calls. Assumes nothing.
use lib.ListN.{length}
use Rattle.verify_prices.specs.Rule.{price_by}
use Rattle.block.proofs.Whole.{block_started}
use Rattle.block.proofs.weighing.verify_within.Goals as goal

pub weigh_all-requires-clause-holds : goal.weigh_all-requires-clause-holds
weigh_all-requires-clause-holds c = let room = c.requires.lengths_in_bounds in record { stands = c.heapify.ensures.same _ c.fill-live.ensures.1; order = c.heapify.ensures.order }

pub returns : goal.returns
returns c =
    let a = c.args in
    block_started (price_by a.mode a.curve.now (length a.lengths.now)) a.chains.now a.depth a.draft a.lengths.now _ _ c.starting-start.ensures.sums c.weigh_all.ensures
