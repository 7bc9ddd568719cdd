-- `weighing::slot_at` meets its contract. Assumes nothing.
use Prim.Native.Nat.{ℕ, ◌*◌, ◌≤◌, ◌<◌, min}
use mathlib.Core.Path.{sym, ap, ◌∙◌}
use mathlib.Core.List.{List}
use mathlib.Core.Option.{Option, some}
use native.Mathlib.Omega.{arith}
use lib.Ieee.{Float, nan}
use lib.ListN.{length, get_or, drop, length-drop}
use lib.Seq.{get_or-drop}
use Rattle.slots.specs.Slots.{bits, Fits}
use Rattle.slots.proofs.Stacked.{up_more, up_over}
use Rattle.block.proofs.weighing.slot_at.Goals as goal

room : (c : List Float) (lengths : List ℕ) (k depth : ℕ) → Fits c lengths (length lengths) → k < length lengths
    → min depth (get_or lengths k 0) ≤ length (drop (k * 64) c)
room c lengths k depth f l = omega (arith, length-drop (k * 64) c, f.narrow k l, f.room)

pub returns-then-w-min : goal.returns-then-w-min
returns-then-w-min c =
    let a = c.args in
    let x = drop (a.k * 64) a.chains.now in
    let cap = min a.depth (get_or a.lengths.now a.k 0) in
    ap {B = Option ℕ} some (c.bits.ensures ∙ ap bits (c.survival_at.ensures ∙ sym (get_or-drop (a.k * 64) a.chains.now a.w nan)))
    ∙ up_more cap x (room a.chains.now a.lengths.now a.k a.depth c.requires.fits c.requires.k_in_bounds) a.w
    (omega (arith, c.min.ensures, c.if-w-min.true))

pub returns-else-w-min : goal.returns-else-w-min
returns-else-w-min c =
    let a = c.args in
    let x = drop (a.k * 64) a.chains.now in
    let cap = min a.depth (get_or a.lengths.now a.k 0) in
    up_over cap x (room a.chains.now a.lengths.now a.k a.depth c.requires.fits c.requires.k_in_bounds) a.w
    (omega (arith, c.min.ensures, c.if-w-min.false))
