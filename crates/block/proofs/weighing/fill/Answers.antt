-- `weighing::fill` meets its contract. The loop's invariant is `Opening`: the entries stand for the sequences passed. Assumes nothing.
use Prim.Native.Nat.{ℕ, ◌*◌, ◌<◌, min}
use mathlib.Core.Path.{◌≡◌, sym, ap, ◌∙◌}
use mathlib.Core.List.{List}
use mathlib.Core.Option.{Option}
use mathlib.Core.Bool.{Bool}
use native.Mathlib.Omega.{arith}
use lib.Ieee.{Float}
use lib.ListN.{length, get_or, drop}
use Rattle.heap.specs.Heap.{candidate}
use Rattle.heap.specs.Greedy.{head_of}
use Rattle.slots.specs.Slots.{up_to, starts}
use Rattle.slots.proofs.Stacked.{opening_start, opening_more, opening_none, opening_end, starts_length, starts_at}
use Rattle.block.proofs.weighing.fill.Goals as goal
use Rattle.block.proofs.weighing.fill.Goals.{then-slot, else-slot}

head : (depth : ℕ) (lengths : List ℕ) (c : List Float) (k : ℕ) (o : Option ℕ) → k < length lengths
    → o ≡ head_of (drop 0 (up_to (min depth (get_or lengths k 0)) (drop (k * 64) c)))
    → o ≡ head_of (up_to (get_or (starts depth lengths) k 0) (drop (k * 64) c))
head depth lengths c k o l e = e ∙ ap (λ (w : ℕ). head_of (up_to w (drop (k * 64) c))) (sym (starts_at depth lengths k l))

pub loop-k-init : goal.loop-k-init
loop-k-init c =
    let a = c.args in
    opening_start up_to a.chains.now (starts a.depth a.lengths.now) a.rank.now a.seq.now

pub loop-k-preserved : goal.loop-k-preserved
loop-k-preserved c =
    let a = c.args in
    let at = c.loop-k in
    let rank = c.slot_at-slot.result.rank in
    let wide = starts_length a.depth a.lengths.now in
    let in_range = c.requires.lengths_in_bounds in
    let few = c.requires.fits.few in
    let e = head a.depth a.lengths.now a.chains.now at.k (candidate c.slot_at-slot.result.more rank) c.loop-k-test.true c.slot_at-slot.ensures in
    elim c.if-slot.branch [
      | then-slot w ↦
          rw (w.rank-is, w.seq-is, w.m-is)
          (opening_more at.invariant rank (omega (arith, c.loop-k-test.true, wide)) (omega (arith, in_range.0, wide, few)) (omega (arith, in_range.1, wide, few))
          (ap (λ (b : Bool). candidate b rank) (sym w.if-slot.true) ∙ e))
      | else-slot w ↦
          rw (w.rank-is, w.seq-is, w.m-is)
          (opening_none at.invariant (omega (arith, c.loop-k-test.true, wide)) (ap (λ (b : Bool). candidate b rank) (sym w.if-slot.false) ∙ e))
    ]

pub returns : goal.returns
returns c =
    let a = c.args in
    let at = c.loop-k in
    let wide = starts_length a.depth a.lengths.now in
    (omega (arith, at.invariant.few, at.invariant.passed, wide), opening_end at.invariant (omega (arith, c.loop-k-test.false, wide)))
