-- `measuring::candidates` meets its contract. Assumes nothing.
use mathlib.Core.Path.{ap, ◌∙◌}
use Rattle.switching.specs.Deciding.{candidate_slots}
use Rattle.settling.specs.Settling.{PricesLent}
use Rattle.settling.proofs.Ways.{curve_short, in_force_lem}
use Rattle.settling.proofs.measuring.candidates.Goals as goal

pub candidates_of-requires : goal.candidates_of-requires
candidates_of-requires c =
    let a = c.args in
    let l : PricesLent = record { roofline = a.roofline.now; depths = a.depths.now; batches = a.batches.now; seconds = a.seconds.now } in
    curve_short a.settings a.ask l _ (in_force_lem a.settings a.ask l _ _ _ c.depth_in-depth.ensures c.measured-measured.ensures c.curve-curve.ensures) c.requires.ask_bound

pub returns : goal.returns
returns c =
    let a = c.args in
    let l : PricesLent = record { roofline = a.roofline.now; depths = a.depths.now; batches = a.batches.now; seconds = a.seconds.now } in
    c.candidates_of.ensures ∙ ap candidate_slots (in_force_lem a.settings a.ask l _ _ _ c.depth_in-depth.ensures c.measured-measured.ensures c.curve-curve.ensures)
