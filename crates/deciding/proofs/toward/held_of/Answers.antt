-- `toward::held_of` meets its contract. Assumes nothing.
use mathlib.Core.Path.{ap}
use lib.Ieee.{Float}
use Rattle.deciding.proofs.toward.held_of.Goals as goal

pub returns : goal.returns
returns c =
    let a = c.args in
    ap (λ (x : Float). record { width = a.past.width; rounds = a.past.rounds; stall = x }) c.of_bits.ensures
