-- `settles` meets its contract: refused, or answered by the candidates. Assumes nothing.
use mathlib.Core.Path.{sym, ◌∙◌}
use Rattle.switching.proofs.Slots.{slots_room, slots_taken}
use Rattle.settling.specs.Settling.{PricesLent}
use Rattle.settling.proofs.Ways.{shallow, widths_fit, tabled, refused, ready, answered}
use Rattle.settling.proofs.settles.Goals as goal

pub candidates-found-requires-clause-tabled : goal.candidates-found-requires-clause-tabled
candidates-found-requires-clause-tabled c = let a = c.args in
    let l : PricesLent = record { roofline = a.roofline.now; depths = a.depths.now; batches = a.batches.now; seconds = a.seconds.now } in
    tabled a.settings a.ask l a.width _ (sym c.judge.ensures ∙ c.in-Ok.is)

pub candidates-found-requires-clause-ask_bound : goal.candidates-found-requires-clause-ask_bound
candidates-found-requires-clause-ask_bound c = let a = c.args in
    let l : PricesLent = record { roofline = a.roofline.now; depths = a.depths.now; batches = a.batches.now; seconds = a.seconds.now } in
    shallow a.settings a.ask l a.width _ (sym c.judge.ensures ∙ c.in-Ok.is)

pub slice_bounds-list-end : goal.slice_bounds-list-end
slice_bounds-list-end c = slots_room _ c.candidates-found.result c.candidates-found.ensures

pub slice_bounds-settled-end : goal.slice_bounds-settled-end
slice_bounds-settled-end c = slots_taken _ c.candidates-found.result c.candidates-found.ensures

pub settled-requires : goal.settled-requires
settled-requires c =
    let a = c.args in
    let l : PricesLent = record { roofline = a.roofline.now; depths = a.depths.now; batches = a.batches.now; seconds = a.seconds.now } in
    let z = sym c.judge.ensures ∙ c.in-Ok.is in
    ready a.settings a.ask l c.candidates-found.result _ c.candidates-found.ensures (shallow a.settings a.ask l a.width _ z) (widths_fit a.settings a.ask l a.width _ z)

pub returns-in-Ok : goal.returns-in-Ok
returns-in-Ok c =
    let a = c.args in
    let l : PricesLent = record { roofline = a.roofline.now; depths = a.depths.now; batches = a.batches.now; seconds = a.seconds.now } in
    answered a.settings a.ask l a.width a.target _ c.candidates-found.result _ _ (sym c.judge.ensures ∙ c.in-Ok.is) c.candidates-found.ensures c.settled.ensures

pub returns-in-Err : goal.returns-in-Err
returns-in-Err c =
    let a = c.args in
    let l : PricesLent = record { roofline = a.roofline.now; depths = a.depths.now; batches = a.batches.now; seconds = a.seconds.now } in
    let e = refused a.settings a.ask l a.width a.target _ _ (sym c.judge.ensures ∙ c.in-Err.is) in rw c.number.ensures e
