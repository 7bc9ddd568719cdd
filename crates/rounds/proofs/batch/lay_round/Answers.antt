-- `batch::lay_round` meets its contract: where all confidences are there, they are the signal. Assumes nothing.
use mathlib.Core.Path.{◌≡◌, sym, ap, ◌∙◌}
use mathlib.Core.List.{List}
use native.Mathlib.Omega.{arith}
use lib.ListN.{length, take}
use lib.Seq.{sets, length-take-le, take_at}
use lib.Ieee.{Float}
use Rattle.float.specs.Floats.{f1}
use Rattle.chains.specs.Survival.{products}
use Rattle.rounds.proofs.Laying.{slots_length}
use Rattle.rounds.proofs.batch.lay_round.Goals as goal

pub slice_bounds-lay_products-end : goal.slice_bounds-lay_products-end
slice_bounds-lay_products-end c =
    let a = c.args in
    let m : length c.slots_of-signal.result ≡ 64 = ap length c.slots_of-signal.ensures ∙ slots_length a.confidences.now (omega (arith, c.requires.0, c.requires.1)) in
    sym (length-take-le a.width c.slots_of-signal.result (omega (arith, m, c.requires.1)))

pub lay_products-requires : goal.lay_products-requires
lay_products-requires c =
    let a = c.args in
    let m : length c.slots_of-signal.result ≡ 64 = ap length c.slots_of-signal.ensures ∙ slots_length a.confidences.now (omega (arith, c.requires.0, c.requires.1)) in
    omega (arith, length-take-le a.width c.slots_of-signal.result (omega (arith, m, c.requires.1)), c.requires.1, c.requires.2)

pub returns-then-confidences-width : goal.returns-then-confidences-width
returns-then-confidences-width c =
    let a = c.args in
    c.lay_products.ensures ∙ ap (λ (s : List Float). sets a.chains.now a.at (products f1 (take a.width s))) c.slots_of-signal.ensures

pub returns-else-confidences-width : goal.returns-else-confidences-width
returns-else-confidences-width c =
    let a = c.args in
    let n : length a.confidences.now ≡ a.width = omega (arith, c.if-confidences-width.false, c.requires.0) in
    c.lay_products-else-confidences-width.ensures ∙ ap (λ (s : List Float). sets a.chains.now a.at (products f1 s)) (sym (take_at a.confidences.now _ a.width n))
