-- `acting::act` meets its contract: the worker's record is read where it is used, and what is decided is kept. Assumes nothing.
use mathlib.Core.Path.{ap, ◌∙◌}
use Rattle.ledger.specs.Calls.{step_judged}
use Rattle.planning.specs.Acting.{lent_to_act}
use Rattle.planning.proofs.Writing.{has_room, still_priced, few_drafts, all_committed, change_judged_lem, all_shallow, acted_is}
use Rattle.planning.proofs.acting.act.Goals as goal

pub past_used-past-requires : goal.past_used-past-requires
past_used-past-requires c =
    let a = c.args in
    has_room a.storage.now _ c.requires.judged.step

pub decide_priced-choice-requires : goal.decide_priced-choice-requires
decide_priced-choice-requires c =
    let a = c.args in
    let l = lent_to_act a.positions.now a.roofline.now a.depths.now a.batches.now a.seconds.now a.loaded.now a.signals.now a.bank_curve.now a.indices.now in
    still_priced a.settings a.ask l a.storage.now a.drafts.now c.requires.judged c.past_used-past.result c.past_used-past.ensures

pub count-counts-requires : goal.count-counts-requires
count-counts-requires c =
    let a = c.args in
    let l = lent_to_act a.positions.now a.roofline.now a.depths.now a.batches.now a.seconds.now a.loaded.now a.signals.now a.bank_curve.now a.indices.now in
    (few_drafts a.settings a.ask l a.storage.now a.drafts.now c.requires.judged _ c.drafts-1.given, all_committed a.settings a.ask l a.storage.now a.drafts.now c.requires.judged _ c.drafts-1.given _ c.requires.sequences_in_bounds, all_shallow a.settings a.ask l a.storage.now a.drafts.now c.requires.judged c.past_used-past.result c.past_used-past.ensures _ c.decide_priced-choice.ensures)

pub keep-requires : goal.keep-requires
keep-requires c =
    let a = c.args in
    let l = lent_to_act a.positions.now a.roofline.now a.depths.now a.batches.now a.seconds.now a.loaded.now a.signals.now a.bank_curve.now a.indices.now in
    (ap (step_judged a.storage.now) c.second.ensures ∙ c.requires.judged.step, change_judged_lem a.settings a.ask l a.storage.now a.drafts.now c.requires.judged c.past_used-past.result c.past_used-past.ensures _ c.decide_priced-choice.ensures)

pub returns : goal.returns
returns c =
    let a = c.args in
    let l = lent_to_act a.positions.now a.roofline.now a.depths.now a.batches.now a.seconds.now a.loaded.now a.signals.now a.bank_curve.now a.indices.now in
    acted_is a.settings a.ask l a.storage.now a.drafts.now c.requires.judged c.past_used-past.result c.past_used-past.ensures _ c.decide_priced-choice.ensures a.commits.now c.second.result c.count-counts.result _ c.second.ensures c.count-counts.ensures c.keep.ensures
