-- `weighing::weigh_all` meets its contract. The loop's invariant is `Growing`: the code is in step with the definition; and the tally's rate is that of
-- its sums. The measure is the number of slots that are not weighed yet, at most. Assumes nothing.
use Prim.Native.Nat.{ℕ, ◌+◌, ◌*◌, ◌<◌, min}
use native.Mathlib.Omega.{arith}
use mathlib.Core.Path.{◌≡◌, sym, ap, ◌∙◌}
use mathlib.Core.List.{List}
use lib.Ieee.{Float}
use lib.ListN.{length, get_or, drop}
use Rattle.heap.specs.Greedy.{head_of, takes}
use Rattle.heap.proofs.Turns.{going_done, going_stops, going_takes}
use Rattle.verify_prices.specs.Rule.{price_by}
use Rattle.verdict.specs.Tallies.{sums_of, decision_of}
use Rattle.verdict.specs.declared.inner.Verdict.{Verdict}
use Rattle.verdict.proofs.Verdicts.{take_rated}
use Rattle.slots.specs.Slots.{starts, up_to}
use Rattle.slots.specs.Gate.{judged, chosen_by}
use Rattle.block.specs.Block.{block_from}
use Rattle.slots.proofs.Stacked.{starts_at, up_short}
use Rattle.block.proofs.Growing.{growing_starts, growing, growing_over, further, slot_judged, top_room}
use Rattle.slots.proofs.Rooms.{fits_sized, fits_starts, few, live_few, k_low, weighed_room}
use Rattle.block.proofs.weighing.weigh_all.Invariants.{state_of}
use Rattle.block.proofs.weighing.weigh_all.Goals as goal

head : (depth : ℕ) (lengths : List ℕ) (c : List Float) (k w t : ℕ) → k < length lengths → w ≡ t + 1
    → head_of (drop w (up_to (min depth (get_or lengths k 0)) (drop (k * 64) c))) ≡ head_of (further (starts depth lengths) c k t)
head depth lengths c k w t l e =
    ap (λ (d : ℕ). head_of (drop d (up_to (min depth (get_or lengths k 0)) (drop (k * 64) c)))) e
    ∙ ap (λ (m : ℕ). head_of (drop (t + 1) (up_to m (drop (k * 64) c)))) (sym (starts_at depth lengths k l))

pub loop-live-init : goal.loop-live-init
loop-live-init c =
    let a = c.args in (
      rw c.requires.widths_value
          (growing_starts (price_by c.args.mode c.args.curve.now c.args.n) a.chains.now a.lengths.now a.depth a.n (sums_of a.start)
          a.rank.now a.seq.now a.first c.requires.fits.count c.requires.n_in_bounds.2 c.requires.holds),
      c.requires.rated,
    )

pub bounds-seq-0 : goal.bounds-seq-0
bounds-seq-0 c = omega (arith, c.loop-live.invariant.0.seqs_kept, c.requires.n_in_bounds, live_few (fits_sized up_to up_short (fits_starts c.args.depth c.requires.fits)) c.loop-live.invariant.0, c.loop-live-test.true)

pub overflow_add-weighed : goal.overflow_add-weighed
overflow_add-weighed c = omega (arith, weighed_room (fits_sized up_to up_short (fits_starts c.args.depth c.requires.fits)) c.loop-live.invariant.0 c.loop-live-test.true, c.requires.fits.few)

pub weigh-verdict-requires-clause-k_in_bounds : goal.weigh-verdict-requires-clause-k_in_bounds
weigh-verdict-requires-clause-k_in_bounds c = top_room c.args.depth c.requires.fits (fits_sized up_to up_short (fits_starts c.args.depth c.requires.fits)) c.loop-live.invariant.0 c.loop-live-test.true

pub weigh-verdict-requires-clause-priced : goal.weigh-verdict-requires-clause-priced
weigh-verdict-requires-clause-priced c = c.requires.priced

pub weigh-verdict-requires-clause-rated_2 : goal.weigh-verdict-requires-clause-rated_2
weigh-verdict-requires-clause-rated_2 c = c.loop-live.invariant.1

pub returns-in-Stop : goal.returns-in-Stop
unfolding block_from
returns-in-Stop c =
    let a = c.args in
    let at = c.loop-live in
    let k = get_or at.seq 0 0 in
    let state = state_of at.tally at.widths in
    let same = slot_judged (price_by c.args.mode c.args.curve.now c.args.n) a.chains.now state k (get_or at.rank 0 0) _ c.weigh-verdict.ensures.decided in
    let e = same ∙ ap (λ (v : Verdict). judged state k (get_or at.widths k 0 + 1) (decision_of v)) c.in-Stop.is in
    rw c.requires.fits.count (sym (ap chosen_by (going_stops at.invariant.0 c.loop-live-test.true (few (fits_sized up_to up_short (fits_starts c.args.depth c.requires.fits)) at.invariant.0) e)))

pub overflow_add-result : goal.overflow_add-result
overflow_add-result c = omega (arith, weighed_room (fits_sized up_to up_short (fits_starts c.args.depth c.requires.fits)) c.loop-live.invariant.0 c.loop-live-test.true, live_few (fits_sized up_to up_short (fits_starts c.args.depth c.requires.fits)) c.loop-live.invariant.0, c.requires.fits.few)

pub returns-in-Pass : goal.returns-in-Pass
unfolding block_from
returns-in-Pass c =
    let a = c.args in
    let over = growing_over (price_by a.mode a.curve.now a.n) a.chains.now (starts a.depth a.lengths.now) a.n c.loop-live.invariant.0 c.loop-live-test.true in
    rw c.requires.fits.count (sym (ap chosen_by (over (ap decision_of (sym c.in-Pass.is) ∙ c.weigh-verdict.ensures.decided))))

pub grow-w-requires : goal.grow-w-requires
grow-w-requires c =
    let t = top_room c.args.depth c.requires.fits (fits_sized up_to up_short (fits_starts c.args.depth c.requires.fits)) c.loop-live.invariant.0 c.loop-live-test.true in
    (t.1, t.2)

pub slot_at-slot-requires-clause-fits : goal.slot_at-slot-requires-clause-fits
slot_at-slot-requires-clause-fits c = rw (sym c.requires.fits.count) at c.requires.fits

pub slot_at-slot-requires-clause-k_in_bounds : goal.slot_at-slot-requires-clause-k_in_bounds
slot_at-slot-requires-clause-k_in_bounds c = omega (arith, k_low (fits_sized up_to up_short (fits_starts c.args.depth c.requires.fits)) c.loop-live.invariant.0 c.loop-live-test.true, c.requires.fits.count)

pub settle-live-requires-clause-n_in_bounds : goal.settle-live-requires-clause-n_in_bounds
settle-live-requires-clause-n_in_bounds c = omega (arith, c.loop-live.invariant.0.ranks_kept, c.loop-live.invariant.0.seqs_kept, live_few (fits_sized up_to up_short (fits_starts c.args.depth c.requires.fits)) c.loop-live.invariant.0, c.requires.n_in_bounds)

pub settle-live-requires-clause-ordered : goal.settle-live-requires-clause-ordered
settle-live-requires-clause-ordered c = c.loop-live.invariant.0.in_step.holds.order

pub loop-live-smaller : goal.loop-live-smaller
loop-live-smaller c = omega (arith, weighed_room (fits_sized up_to up_short (fits_starts c.args.depth c.requires.fits)) c.loop-live.invariant.0 c.loop-live-test.true)

pub returns : goal.returns
unfolding block_from
returns c =
    let count = c.requires.fits.count in
    rw count (sym (ap chosen_by (going_done c.loop-live.invariant.0 (omega arith))))

pub loop-live-preserved : goal.loop-live-preserved
loop-live-preserved c =
    let a = c.args in
    let at = c.loop-live in
    let k = get_or at.seq 0 0 in
    let state = state_of at.tally at.widths in
    let same = slot_judged (price_by c.args.mode c.args.curve.now c.args.n) a.chains.now state k (get_or at.rank 0 0) _ c.weigh-verdict.ensures.decided in
    let t = get_or at.widths k 0 + 1 in
    let low = k_low (fits_sized up_to up_short (fits_starts c.args.depth c.requires.fits)) at.invariant.0 c.loop-live-test.true in
    let e = same ∙ ap (λ (v : Verdict). judged state k t (decision_of v)) c.in-Take.is ∙ ap (λ (l : List ℕ). takes (state_of c.in-Take.next l)) (sym c.grow-w.ensures.1) in (
      going_takes at.invariant.0 c.loop-live-test.true (few (fits_sized up_to up_short (fits_starts c.args.depth c.requires.fits)) at.invariant.0) c.settle-live.auto.rank c.settle-live.auto.seq t e c.grow-w.ensures.1
          (growing (starts a.depth a.lengths.now) a.chains.now k (get_or at.widths k 0))
          (c.slot_at-slot.ensures ∙ head a.depth a.lengths.now a.chains.now k _ (get_or at.widths k 0) (omega (arith, low, c.requires.fits.count)) c.grow-w.ensures.0) c.settle-live.ensures,
      take_rated (price_by c.args.mode c.args.curve.now c.args.n) _ _ c.in-Take.is c.weigh-verdict.ensures.rated,
    )
