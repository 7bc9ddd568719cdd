-- `inner::weigh_all` meets its contract. The loop's invariant is `Trimming`, that the code is in step with the definition, `Counts`, that the
-- passes' counts are those of the widths, and that the tally's rate is that of its sums. The measure is the number of slots that are not weighed yet, at
-- most. Assumes nothing.
use Prim.Native.Nat.{ℕ, ◌*◌, ◌-◌}
use native.Mathlib.Omega.{arith}
use mathlib.Core.Path.{◌≡◌, refl, sym, ap, ◌∙◌}
use mathlib.Core.Bool.{Bool, true, false, cond}
use mathlib.Core.List.{List}
use lib.Dec.{leb}
use lib.ListN.{get_or, drop}
use lib.Seq.{length-take-le}
use Rattle.float.proofs.Classes.{clash}
use Rattle.heap.specs.Greedy.{head_of, takes}
use Rattle.heap.proofs.Turns.{going_done, going_stops, going_leaves, going_takes}
use Rattle.verify_prices.specs.Rule.{price_by, rule_of}
use Rattle.verdict.specs.Tallies.{sums_of, decision_of}
use Rattle.verdict.specs.declared.inner.Verdict.{Verdict}
use Rattle.verdict.proofs.Verdicts.{take_rated}
use Rattle.slots.specs.Slots.{down_from}
use Rattle.slots.specs.Gate.{judged, chosen_by}
use Rattle.trim.specs.Ragged.{ragged_widths}
use Rattle.trim.specs.Kept.{listed}
use Rattle.slots.proofs.Stacked.{down_short}
use Rattle.trim.proofs.Adding.{still_few}
use Rattle.slots.proofs.Rooms.{fits_sized, few, live_few, widths_count, weighed_room}
use Rattle.trim.proofs.Trimming.{trimming_starts, trimming, drop_judged, count_here, count_some, counts_less, chain_room, width_room, top_open}
use Rattle.trim.proofs.Rest.{weighable, over_here}
use Rattle.trim.proofs.inner.weigh_all.Invariants.{state_of}
use Rattle.trim.proofs.inner.weigh_all.Goals as goal

none_looked : (look b : Bool) → cond look b false ≡ true → b ≡ true
none_looked true b e = e
none_looked false b e = clash e

pub loop-live-init : goal.loop-live-init
loop-live-init c =
    let a = c.args in (
      trimming_starts (listed c.args.passes.now) (rule_of c.args.mode c.args.curve.now c.args.n) a.chains.now a.depth a.n a.widths.now a.rank.now a.seq.now a.first (sums_of a.start)
          c.requires.fits c.requires.at_most.0 c.requires.n_in_bounds_2.2 c.requires.start_value c.requires.holds,
      (c.requires.at_most.2, c.requires.rated),
    )

pub bounds-seq-0 : goal.bounds-seq-0
bounds-seq-0 c = omega (arith, c.loop-live.invariant.0.seqs_kept, c.requires.n_in_bounds_2, live_few (fits_sized down_from down_short c.requires.fits) c.loop-live.invariant.0, c.loop-live-test.true)

pub overflow_add-weighed : goal.overflow_add-weighed
overflow_add-weighed c = omega (arith, weighed_room (fits_sized down_from down_short c.requires.fits) c.loop-live.invariant.0 c.loop-live-test.true, c.requires.fits.few)

pub weigh-verdict-requires-clause-k_in_bounds : goal.weigh-verdict-requires-clause-k_in_bounds
weigh-verdict-requires-clause-k_in_bounds c = let at = c.loop-live in
    let k = get_or at.seq 0 0 in
    let h = c.loop-live-test.true in
    let wide = width_room c.requires.fits (fits_sized down_from down_short c.requires.fits) at.invariant.0 h in
    let top = top_open c.requires.fits (fits_sized down_from down_short c.requires.fits) at.invariant.0 h in
    let here = count_here at.invariant.1.0 k wide top.0 top.1 in (chain_room c.requires.fits (fits_sized down_from down_short c.requires.fits) at.invariant.0 h, wide)

pub weigh-verdict-requires-clause-nonzero : goal.weigh-verdict-requires-clause-nonzero
weigh-verdict-requires-clause-nonzero c = let at = c.loop-live in
    let k = get_or at.seq 0 0 in
    let h = c.loop-live-test.true in
    let wide = width_room c.requires.fits (fits_sized down_from down_short c.requires.fits) at.invariant.0 h in
    let top = top_open c.requires.fits (fits_sized down_from down_short c.requires.fits) at.invariant.0 h in
    let here = count_here at.invariant.1.0 k wide top.0 top.1 in (top.0, omega (arith, top.1, c.requires.at_most.1))

pub weigh-verdict-requires-clause-nk_len : goal.weigh-verdict-requires-clause-nk_len
weigh-verdict-requires-clause-nk_len c = let at = c.loop-live in
    let k = get_or at.seq 0 0 in
    let h = c.loop-live-test.true in
    let wide = width_room c.requires.fits (fits_sized down_from down_short c.requires.fits) at.invariant.0 h in
    let top = top_open c.requires.fits (fits_sized down_from down_short c.requires.fits) at.invariant.0 h in
    let here = count_here at.invariant.1.0 k wide top.0 top.1 in (
      at.invariant.1.0.room,
      count_some at.invariant.1.0 k wide top.0 top.1,
      omega (arith, here, still_few at.widths (get_or at.widths k 0), widths_count (fits_sized down_from down_short c.requires.fits) at.invariant.0, c.requires.n_in_bounds),
    )

pub returns-in-Stop : goal.returns-in-Stop
unfolding ragged_widths
returns-in-Stop c =
    let a = c.args in
    let at = c.loop-live in
    let k = get_or at.seq 0 0 in
    let w = get_or at.widths k 0 in
    let h = c.loop-live-test.true in
    let state = state_of at.tally at.widths in
    let wide = width_room c.requires.fits (fits_sized down_from down_short c.requires.fits) at.invariant.0 h in
    let top = top_open c.requires.fits (fits_sized down_from down_short c.requires.fits) at.invariant.0 h in
    let here = count_here at.invariant.1.0 k wide top.0 top.1 in
    let same = drop_judged (listed c.args.passes.now) (rule_of c.args.mode c.args.curve.now c.args.n) a.chains.now state k (get_or at.rank 0 0) (get_or at.nk (w - 1) 0) _ _ c.weigh-verdict.ensures.decided refl here in
    let e = same ∙ ap (λ (v : Verdict). judged state k (w - 1) (decision_of v)) c.in-Stop.is in
    sym (ap chosen_by (going_stops at.invariant.0 h (few (fits_sized down_from down_short c.requires.fits) at.invariant.0) e))

pub slice_bounds-rest-end : goal.slice_bounds-rest-end
slice_bounds-rest-end c = omega (arith, c.loop-live.invariant.0.seqs_kept, live_few (fits_sized down_from down_short c.requires.fits) c.loop-live.invariant.0, c.requires.n_in_bounds_2)

pub slice_bounds-rest-end-in-Pass : goal.slice_bounds-rest-end-in-Pass
slice_bounds-rest-end-in-Pass c = sym (length-take-le c.loop-live.live c.loop-live.seq (omega (arith, c.loop-live.invariant.0.seqs_kept, live_few (fits_sized down_from down_short c.requires.fits) c.loop-live.invariant.0, c.requires.n_in_bounds_2)))

pub none_pays-requires-clause-nk_len : goal.none_pays-requires-clause-nk_len
none_pays-requires-clause-nk_len c = let a = c.args in
    let at = c.loop-live in (
      at.invariant.1.0.room,
      weighable a.passes.now a.chains.now (rule_of a.mode a.curve.now a.n) a.depth a.n a.widths.now at.nk at.widths at.tally
          c.requires.fits c.requires.at_most.1 c.requires.n_in_bounds at.invariant.1.0 at.invariant.0
          (omega (arith, at.invariant.0.seqs_kept, live_few (fits_sized down_from down_short c.requires.fits) at.invariant.0, c.requires.n_in_bounds_2)),
    )

pub overflow_add-result : goal.overflow_add-result
overflow_add-result c = omega (arith, weighed_room (fits_sized down_from down_short c.requires.fits) c.loop-live.invariant.0 c.loop-live-test.true, live_few (fits_sized down_from down_short c.requires.fits) c.loop-live.invariant.0, c.requires.fits.few)

pub returns-then-none_pays : goal.returns-then-none_pays
unfolding ragged_widths
returns-then-none_pays c =
    let a = c.args in
    let at = c.loop-live in
    over_here a.passes.now a.chains.now (rule_of a.mode a.curve.now a.n) a.depth a.n a.widths.now at.nk at.widths at.tally
    c.requires.fits c.requires.at_most.1 c.requires.n_in_bounds at.invariant.1.0 at.invariant.0
    (omega (arith, at.invariant.0.seqs_kept, live_few (fits_sized down_from down_short c.requires.fits) at.invariant.0, c.requires.n_in_bounds_2))
    c.loop-live-test.true at.invariant.1.1 (none_looked (leb at.live at.due) _ (sym c.none_pays.ensures ∙ c.if-none_pays.true))

pub settle-live-requires-clause-n_in_bounds : goal.settle-live-requires-clause-n_in_bounds
settle-live-requires-clause-n_in_bounds c = omega (arith, c.loop-live.invariant.0.ranks_kept, c.loop-live.invariant.0.seqs_kept, live_few (fits_sized down_from down_short c.requires.fits) c.loop-live.invariant.0, c.requires.n_in_bounds_2)

pub settle-live-requires-clause-ordered : goal.settle-live-requires-clause-ordered
settle-live-requires-clause-ordered c = c.loop-live.invariant.0.in_step.holds.order

pub loop-live-smaller-in-Pass : goal.loop-live-smaller-in-Pass
loop-live-smaller-in-Pass c = omega (arith, weighed_room (fits_sized down_from down_short c.requires.fits) c.loop-live.invariant.0 c.loop-live-test.true)

pub less_one-w-requires : goal.less_one-w-requires
less_one-w-requires c =
    (width_room c.requires.fits (fits_sized down_from down_short c.requires.fits) c.loop-live.invariant.0 c.loop-live-test.true, (top_open c.requires.fits (fits_sized down_from down_short c.requires.fits) c.loop-live.invariant.0 c.loop-live-test.true).0)

pub less_one-requires : goal.less_one-requires
less_one-requires c =
    let at = c.loop-live in
    let h = c.loop-live-test.true in
    let wide = width_room c.requires.fits (fits_sized down_from down_short c.requires.fits) at.invariant.0 h in
    let top = top_open c.requires.fits (fits_sized down_from down_short c.requires.fits) at.invariant.0 h in
    rw c.less_one-w.ensures.0
    (omega (arith, at.invariant.1.0.room, top, c.requires.at_most.1), count_some at.invariant.1.0 (get_or at.seq 0 0) wide top.0 top.1)

pub deepest-slot-requires : goal.deepest-slot-requires
deepest-slot-requires c =
    let top = top_open c.requires.fits (fits_sized down_from down_short c.requires.fits) c.loop-live.invariant.0 c.loop-live-test.true in
    (chain_room c.requires.fits (fits_sized down_from down_short c.requires.fits) c.loop-live.invariant.0 c.loop-live-test.true, omega (arith, c.less_one-w.ensures.0, top, c.requires.at_most.1))

pub loop-live-smaller : goal.loop-live-smaller
loop-live-smaller c = omega (arith, weighed_room (fits_sized down_from down_short c.requires.fits) c.loop-live.invariant.0 c.loop-live-test.true)

pub returns : goal.returns
unfolding ragged_widths
returns c = sym (ap chosen_by (going_done c.loop-live.invariant.0 (omega arith)))

pub loop-live-preserved-in-Pass : goal.loop-live-preserved-in-Pass
loop-live-preserved-in-Pass c =
    let a = c.args in
    let at = c.loop-live in
    let k = get_or at.seq 0 0 in
    let w = get_or at.widths k 0 in
    let h = c.loop-live-test.true in
    let state = state_of at.tally at.widths in
    let wide = width_room c.requires.fits (fits_sized down_from down_short c.requires.fits) at.invariant.0 h in
    let top = top_open c.requires.fits (fits_sized down_from down_short c.requires.fits) at.invariant.0 h in
    let here = count_here at.invariant.1.0 k wide top.0 top.1 in
    let same = drop_judged (listed c.args.passes.now) (rule_of c.args.mode c.args.curve.now c.args.n) a.chains.now state k (get_or at.rank 0 0) (get_or at.nk (w - 1) 0) _ _ c.weigh-verdict.ensures.decided refl here in
    let e = same ∙ ap (λ (v : Verdict). judged state k (w - 1) (decision_of v)) c.in-Pass.is in
    (going_leaves at.invariant.0 h (few (fits_sized down_from down_short c.requires.fits) at.invariant.0) c.settle-live.auto.rank c.settle-live.auto.seq e refl c.settle-live.ensures, at.invariant.1)

pub loop-live-preserved : goal.loop-live-preserved
loop-live-preserved c =
    let a = c.args in
    let at = c.loop-live in
    let k = get_or at.seq 0 0 in
    let w = get_or at.widths k 0 in
    let h = c.loop-live-test.true in
    let state = state_of at.tally at.widths in
    let wide = width_room c.requires.fits (fits_sized down_from down_short c.requires.fits) at.invariant.0 h in
    let top = top_open c.requires.fits (fits_sized down_from down_short c.requires.fits) at.invariant.0 h in
    let here = count_here at.invariant.1.0 k wide top.0 top.1 in
    let same = drop_judged (listed c.args.passes.now) (rule_of c.args.mode c.args.curve.now c.args.n) a.chains.now state k (get_or at.rank 0 0) (get_or at.nk (w - 1) 0) _ _ c.weigh-verdict.ensures.decided refl here in
    let e = same ∙ ap (λ (v : Verdict). judged state k (w - 1) (decision_of v)) c.in-Take.is ∙ ap (λ (l : List ℕ). takes (state_of c.in-Take.next l)) (sym c.less_one-w.ensures.1) in (
      going_takes at.invariant.0 h (few (fits_sized down_from down_short c.requires.fits) at.invariant.0) c.settle-live-in-Take.auto.rank c.settle-live-in-Take.auto.seq (w - 1) e c.less_one-w.ensures.1
          (trimming a.chains.now a.depth k w top.1)
          (c.deepest-slot.ensures ∙ ap (λ (g : ℕ). head_of (down_from g (drop (k * 64) a.chains.now))) c.less_one-w.ensures.0) c.settle-live-in-Take.ensures,
      (
        counts_less at.invariant.1.0 k wide top.0 top.1 _ _ _ c.requires.at_most.1 c.less_one-w.ensures.0 c.less_one.ensures.1 c.less_one-w.ensures.1,
        take_rated (price_by c.args.mode c.args.curve.now c.args.n) _ _ c.in-Take.is c.weigh-verdict.ensures.rated,
      ),
    )
