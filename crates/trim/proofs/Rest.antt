-- The sequences that are left: each has a slot that can be weighed, and where none of these pays the gate is over. Assumes nothing.
use Prim.Native.Nat.{ℕ, ◌+◌, ◌-◌, ◌≤◌, ◌<◌}
use mathlib.Core.Path.{◌≡◌, refl, sym, ap, ◌∙◌}
use mathlib.Core.Bool.{Bool, true, false, not, cond}
use mathlib.Core.List.{List, []}
use native.Mathlib.Omega.{arith}
use borrow.Author.Tests.{not-true}
use lib.ListN.{length, get_or, take, get_or-map, length-map}
use lib.Seq.{get_or-take, length-take-le}
use lib.Ieee.{Float, lt}
use Rattle.float.specs.Floats.{plus, less, f1}
use Rattle.chains.proofs.Tested.{all_says}
use Rattle.heap.specs.Greedy.{head_of, tail_of, frontier, leaves, greedy}
use Rattle.heap.proofs.Frontiers.{in_frontier}
use Rattle.heap.proofs.Steps.{on_head}
use Rattle.heap.proofs.Passing.{going_over}
use Rattle.verify_prices.specs.Rule.{Rule}
use Rattle.verdict.specs.Decision.{Sums, Decision, passed, taken, taken_if, rate_of, removal_at, removal_under}
use Rattle.verdict.specs.Tallies.{sums_of, Rated}
use Rattle.verdict.specs.declared.inner.Tally.{Tally}
use Rattle.slots.specs.Slots.{Fits, down_from, stacks}
use Rattle.slots.specs.Gate.{chosen_by}
use Rattle.slots.proofs.Stacked.{down_short}
use Rattle.slots.proofs.Rooms.{Sized, fits_sized, widths_count}
use Rattle.trim.specs.Ragged.{full_draft, drop_slot}
use Rattle.trim.specs.Kept.{Counts, listed, pays_under, none_of, Weighable}
use Rattle.trim.proofs.Adding.{still_few}
use Rattle.trim.proofs.Trimming.{Open, Trimming, drop_judged, count_here, count_some}

-- a slot that does not pay is passed over
pass_over :
    (rule : Rule) (t : Tally) (s cost : Float) → Rated rule.price t
    → cond (rule.shut (rule.price (less t.tokens f1))) false
    (lt t.rate (rate_of (less t.expected s) (less (plus (rule.price (less t.tokens f1)) t.drafter) cost)))
    ≡ false
    → passed ≡ removal_under rule (sums_of t) s cost
unfolding taken_if
pass_over rule t s cost rated e =
    let rem = rate_of (less t.expected s) (less (plus (rule.price (less t.tokens f1)) t.drafter) cost) in
    let sums : Sums = record { expected = less t.expected s; tokens = less t.tokens f1; drafter = less t.drafter cost } in
    let open_as : lt t.rate rem ≡ false → passed ≡ removal_at rule.price (sums_of t) s cost =
    λ h. sym (ap (λ (r : Float). cond (lt r rem) (taken sums) passed) (sym rated) ∙ ap (λ (b : Bool). cond b (taken sums) passed) h) in
    go (rule.shut (rule.price (less t.tokens f1))) (lt t.rate rem) (removal_at rule.price (sums_of t) s cost) open_as e
  where
    go : (b x : Bool) (d : Decision) → (x ≡ false → passed ≡ d) → cond b false x ≡ false → passed ≡ cond b passed d
    go true x d f h = refl
    go false x d f h = f h

module _ (passes c : List Float) (rule : Rule) (depth n : ℕ) (ws nk widths : List ℕ) (t : Tally) {R₀ S₀ R S : List ℕ} {live w : ℕ} (fits : Fits c ws n) (deep : depth ≤ 64)
    (room : n < length passes) (counts : Counts nk widths depth)
    (at : Trimming (listed passes) rule c depth ws R₀ S₀ R S (record { sums = sums_of t; widths = widths }) live w) where
  sized : Sized (stacks down_from ws c) n
  sized = fits_sized down_from down_short fits

  wide : length widths ≡ n
  wide = widths_count sized at

  -- an entry's sequence has a place and a slot
  module _ (i : ℕ) (l : i < live) where
    k : ℕ
    k = get_or S i 0

    inside : k < length at.stacks
    unfolding k
    inside = omega (arith, in_frontier (frontier at.stacks) (get_or S i 0) (get_or R i 0) (at.in_step.holds.stands.each i l), length-map at.stacks head_of)

    low : k < n
    low = omega (arith, inside, at.in_step.count, sized.count)

    opened : Open depth k (get_or widths k 0)
    unfolding k
    opened =
        let head = sym (get_or-map head_of at.stacks (get_or S i 0) []) ∙ at.in_step.holds.stands.each i l in
        (at.left (get_or S i 0) (get_or R i 0) (tail_of (get_or at.stacks (get_or S i 0) [])) inside (on_head (get_or at.stacks (get_or S i 0) []) (get_or R i 0) head)).1

    place : k < length widths
    place = omega (arith, low, wide)

  pub weighable : live ≤ length S → Weighable c passes nk widths (take live S)
  unfolding k
  weighable long j h =
      let l : j < live = omega (arith, length-take-le live S long) in
      let o = opened j l in
      let here = count_here counts (k j l) (place j l) o.0 o.1 in
      rw (get_or-take live S j 0 l) (
        omega (arith, low j l, fits.room),
        (
          place j l,
          (
            o.0,
            (omega (arith, o.1), (count_some counts (k j l) (place j l) o.0 o.1, omega (arith, here, still_few widths (get_or widths (k j l) 0), wide))),
          ),
        ),
      )

  pub over_here :
      live ≤ length S → 0 < live → Rated rule.price t → none_of (pays_under rule t c passes nk widths) (take live S) ≡ true
      → record { widths = widths; weighed = w + 1 + (live - 1) }
      ≡ chosen_by (greedy (drop_slot (listed passes) rule c) (full_draft (listed passes) c depth ws) (stacks down_from ws c))
  unfolding k
  over_here long some rated e =
      let count : w + live ≡ w + 1 + (live - 1) = omega arith in
      sym (ap chosen_by (going_over at left) ∙ ap (λ (m : ℕ). record { widths = widths; weighed = m }) count)
    where
      left : (i : ℕ) → i < live → drop_slot (listed passes) rule c (record { sums = sums_of t; widths = widths }) (get_or S i 0) (get_or R i 0) ≡ leaves (record { sums = sums_of t; widths = widths })
      left i l =
          let o = opened i l in
          let here = count_here counts (get_or S i 0) (place i l) o.0 o.1 in
          let not : pays_under rule t c passes nk widths (get_or S i 0) ≡ false =
          ap (pays_under rule t c passes nk widths) (sym (get_or-take live S i 0 l))
          ∙ not-true _ (all_says (λ (k : ℕ). not (pays_under rule t c passes nk widths k)) 0 (take live S) e i (omega (arith, length-take-le live S long))) in
          drop_judged (listed passes) rule c (record { sums = sums_of t; widths = widths }) (get_or S i 0) (get_or R i 0) (get_or nk (get_or widths (get_or S i 0) 0 - 1) 0) _ passed
          (pass_over rule t _ _ rated not) refl here
