-- `left::slot_pays` meets its contract. Assumes nothing.
use Prim.Native.Nat.{◌-◌}
use mathlib.Core.Path.{◌≡◌, ap, ◌∙◌}
use mathlib.Core.Bool.{Bool, true, false, cond}
use lib.Ieee.{Float, lt}
use lib.ListN.{get_or}
use Rattle.float.specs.Floats.{plus, less}
use Rattle.verdict.specs.Decision.{rate_of}
use Rattle.slots.specs.Slots.{survival}
use Rattle.trim.proofs.left.slot_pays.Goals as goal

shut_never : (shut r : Bool) → shut ≡ true → false ≡ cond shut false r
shut_never shut r e = rw e

open_as : (shut r : Bool) → shut ≡ false → r ≡ cond shut false r
open_as shut r e = rw e

pub returns-then-shut : goal.returns-then-shut
returns-then-shut c = shut_never c.args.shut _ c.if-shut.true

pub returns : goal.returns
returns c =
    let a = c.args in
    let t = a.tally in
    c.pays.ensures
    ∙ ap (λ (s : Float). lt t.rate (rate_of (less t.expected s) (less (plus a.vp t.drafter) c.margin-cost.result))) c.survival_at-s.ensures
    ∙ ap (λ (m : Float). lt t.rate (rate_of (less t.expected (survival a.chains.now a.k (get_or a.widths.now a.k 0 - 1))) (less (plus a.vp t.drafter) m))) c.margin-cost.ensures
    ∙ open_as a.shut _ c.if-shut.false
