-- `inner::plan_judged` meets its contract: each way through it. Assumes nothing.
use mathlib.Core.Path.{sym}
use lib.Seq.{length-take-le}
use Rattle.asking.specs.Asked.{Lent}
use Rattle.asking.proofs.Passed.{gamma_small, sequences_few, drafts_room, commits_room}
use Rattle.judged_plans.proofs.Facts.{bank_held, is_judged}
use Rattle.judged_plans.proofs.Ways.{draw_refused, used_is, none_late, as_many_lent, commits_long, plan_made}
use Rattle.judged_plans.proofs.inner.plan_judged.Goals as goal

pub draw-requires-clause-gamma_bound : goal.draw-requires-clause-gamma_bound
draw-requires-clause-gamma_bound c = let a = c.args in
    let l : Lent = record { positions = a.positions.now; roofline = a.roofline.now; depths = a.depths.now; batches = a.batches.now; seconds = a.seconds.now; loaded = a.loaded.now; bank_commits_of = a.bank_commits.now; signals = a.signals.now; bank_curve_of = a.bank_curve.now; draws = a.draws.now; indices = a.indices.now } in
    let e = c.requires.commits_value in (gamma_small a.settings a.ask l _ _ _ e, sequences_few a.settings a.ask l _ _ _ e, commits_room a.settings a.ask l _ _ _ e)

pub draw-requires-clause-rounds_in_bounds : goal.draw-requires-clause-rounds_in_bounds
draw-requires-clause-rounds_in_bounds c = let a = c.args in
    let l : Lent = record { positions = a.positions.now; roofline = a.roofline.now; depths = a.depths.now; batches = a.batches.now; seconds = a.seconds.now; loaded = a.loaded.now; bank_commits_of = a.bank_commits.now; signals = a.signals.now; bank_curve_of = a.bank_curve.now; draws = a.draws.now; indices = a.indices.now } in
    let e = c.requires.commits_value in bank_held a.settings a.ask l a.storage.now a.drafts.now a.commits.now e

pub slice_bounds-act-end : goal.slice_bounds-act-end
slice_bounds-act-end c =
    let a = c.args in
    let l : Lent = record { positions = a.positions.now; roofline = a.roofline.now; depths = a.depths.now; batches = a.batches.now; seconds = a.seconds.now; loaded = a.loaded.now; bank_commits_of = a.bank_commits.now; signals = a.signals.now; bank_curve_of = a.bank_curve.now; draws = a.draws.now; indices = a.indices.now } in
    commits_long a.settings a.ask l a.storage.now a.drafts.now a.commits.now c.requires.commits_value c.late_refusal-late.result c.late_refusal-late.ensures c.draw.result _ c.draw.ensures _ c.in-Used.is

pub slice_bounds-act-end-in-Used : goal.slice_bounds-act-end-in-Used
slice_bounds-act-end-in-Used c =
    let a = c.args in
    let l : Lent = record { positions = a.positions.now; roofline = a.roofline.now; depths = a.depths.now; batches = a.batches.now; seconds = a.seconds.now; loaded = a.loaded.now; bank_commits_of = a.bank_commits.now; signals = a.signals.now; bank_curve_of = a.bank_curve.now; draws = a.draws.now; indices = a.indices.now } in
    sym (length-take-le a.ask.sequences _ (commits_long a.settings a.ask l a.storage.now a.drafts.now a.commits.now c.requires.commits_value c.late_refusal-late.result c.late_refusal-late.ensures c.draw.result _ c.draw.ensures _ c.in-Used.is))

pub slice_bounds-act-end-in-Used-2 : goal.slice_bounds-act-end-in-Used-2
slice_bounds-act-end-in-Used-2 c =
    let a = c.args in
    let l : Lent = record { positions = a.positions.now; roofline = a.roofline.now; depths = a.depths.now; batches = a.batches.now; seconds = a.seconds.now; loaded = a.loaded.now; bank_commits_of = a.bank_commits.now; signals = a.signals.now; bank_curve_of = a.bank_curve.now; draws = a.draws.now; indices = a.indices.now } in
    drafts_room a.settings a.ask l _ _ _ c.requires.commits_value

pub slice_bounds-act-end-in-Used-3 : goal.slice_bounds-act-end-in-Used-3
slice_bounds-act-end-in-Used-3 c =
    let a = c.args in
    let l : Lent = record { positions = a.positions.now; roofline = a.roofline.now; depths = a.depths.now; batches = a.batches.now; seconds = a.seconds.now; loaded = a.loaded.now; bank_commits_of = a.bank_commits.now; signals = a.signals.now; bank_curve_of = a.bank_curve.now; draws = a.draws.now; indices = a.indices.now } in
    sym (length-take-le a.ask.sequences a.drafts.now (drafts_room a.settings a.ask l _ _ _ c.requires.commits_value))

pub act-weighed-requires-clause-sequences_in_bounds : goal.act-weighed-requires-clause-sequences_in_bounds
act-weighed-requires-clause-sequences_in_bounds c = let a = c.args in
    let l : Lent = record { positions = a.positions.now; roofline = a.roofline.now; depths = a.depths.now; batches = a.batches.now; seconds = a.seconds.now; loaded = a.loaded.now; bank_commits_of = a.bank_commits.now; signals = a.signals.now; bank_curve_of = a.bank_curve.now; draws = a.draws.now; indices = a.indices.now } in as_many_lent a.settings a.ask l a.storage.now a.drafts.now a.commits.now c.requires.commits_value c.late_refusal-late.result c.late_refusal-late.ensures c.draw.result _ c.draw.ensures _ c.in-Used.is

pub act-weighed-requires-clause-judged : goal.act-weighed-requires-clause-judged
act-weighed-requires-clause-judged c = let a = c.args in
    let l : Lent = record { positions = a.positions.now; roofline = a.roofline.now; depths = a.depths.now; batches = a.batches.now; seconds = a.seconds.now; loaded = a.loaded.now; bank_commits_of = a.bank_commits.now; signals = a.signals.now; bank_curve_of = a.bank_curve.now; draws = a.draws.now; indices = a.indices.now } in is_judged a.settings a.ask l a.storage.now a.drafts.now a.commits.now c.requires.commits_value _ (used_is a.settings a.ask l a.storage.now a.drafts.now a.commits.now c.requires.commits_value c.late_refusal-late.result c.late_refusal-late.ensures c.draw.result _ c.draw.ensures _ c.in-Used.is) (none_late a.settings a.ask l a.storage.now a.drafts.now a.commits.now c.requires.commits_value c.late_refusal-late.result c.late_refusal-late.ensures c.draw.result _ c.draw.ensures _ c.in-Used.is)

pub returns-in-Refused : goal.returns-in-Refused
returns-in-Refused c =
    let a = c.args in
    let l : Lent = record { positions = a.positions.now; roofline = a.roofline.now; depths = a.depths.now; batches = a.batches.now; seconds = a.seconds.now; loaded = a.loaded.now; bank_commits_of = a.bank_commits.now; signals = a.signals.now; bank_curve_of = a.bank_curve.now; draws = a.draws.now; indices = a.indices.now } in
    draw_refused a.settings a.ask l a.storage.now a.drafts.now a.commits.now c.requires.commits_value c.late_refusal-late.result c.late_refusal-late.ensures c.draw.result _ c.draw.ensures _ c.in-Refused.is

pub returns-in-Used : goal.returns-in-Used
returns-in-Used c =
    let a = c.args in
    let l : Lent = record { positions = a.positions.now; roofline = a.roofline.now; depths = a.depths.now; batches = a.batches.now; seconds = a.seconds.now; loaded = a.loaded.now; bank_commits_of = a.bank_commits.now; signals = a.signals.now; bank_curve_of = a.bank_curve.now; draws = a.draws.now; indices = a.indices.now } in
    plan_made a.settings a.ask l a.storage.now a.drafts.now a.commits.now c.requires.commits_value c.late_refusal-late.result c.late_refusal-late.ensures c.draw.result _ c.draw.ensures _ c.in-Used.is c.requires.positions_value c.act-weighed.result _ _ c.act-weighed.ensures
