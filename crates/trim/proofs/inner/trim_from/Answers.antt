-- `inner::trim_from` meets its contract, by those of the functions that it calls. Assumes nothing.
use Rattle.trim.proofs.inner.trim_from.Goals as goal

pub weigh_all-requires-clause-holds : goal.weigh_all-requires-clause-holds
weigh_all-requires-clause-holds c = let room = c.requires.widths_in_bounds_2 in record { stands = c.heapify.ensures.same _ c.fill_deepest-live.ensures.1; order = c.heapify.ensures.order }
