-- `inner::deepest` meets its contract. Assumes nothing.
use Prim.Native.Nat.{ℕ, ◌-◌, ◌*◌}
use mathlib.Core.Path.{sym, ap, ◌∙◌}
use mathlib.Core.Option.{Option, some}
use lib.Ieee.{nan}
use lib.ListN.{drop}
use lib.Seq.{get_or-drop}
use Rattle.slots.specs.Slots.{bits, flipped}
use Rattle.slots.proofs.Stacked.{down_more, down_over}
use Rattle.slots.proofs.inner.deepest.Goals as goal

pub returns-then-w-gt0 : goal.returns-then-w-gt0
returns-then-w-gt0 c =
    let a = c.args in
    ap {B = Option ℕ} some
    (c.flip.ensures ∙ ap flipped (c.bits.ensures ∙ ap bits (c.survival_at.ensures ∙ sym (get_or-drop (a.k * 64) a.chains.now (a.w - 1) nan))))
    ∙ down_more a.w (drop (a.k * 64) a.chains.now) c.if-w-gt0.true

pub returns-else-w-gt0 : goal.returns-else-w-gt0
returns-else-w-gt0 c =
    let a = c.args in
    down_over a.w (drop (a.k * 64) a.chains.now) c.if-w-gt0.false
