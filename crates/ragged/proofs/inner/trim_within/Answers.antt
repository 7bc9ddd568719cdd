-- `inner::trim_within` meets its contract, by those of the functions that it calls. Assumes nothing.
use lib.ListN.{length}
use Rattle.verify_prices.specs.Rule.{rule_of}
use Rattle.trim.specs.Ragged.{pass_of}
use Rattle.ragged.proofs.Listing.{from_listed}
use Rattle.ragged.proofs.inner.trim_within.Goals as goal

pub trim_from-requires-clause-at_most : goal.trim_from-requires-clause-at_most
trim_from-requires-clause-at_most c = (c.requires.at_most.0, c.requires.at_most.1, c.full_draft-start.ensures.counts)

pub returns : goal.returns
returns c =
    let a = c.args in
    from_listed (pass_of a.kind a.rates a.loaded.now) (rule_of a.mode a.curve.now (length a.widths.now)) a.chains.now a.depth a.widths.now c.trim_from.ensures c.fill_passes.ensures
