-- Bridged, the block gate passes no slot over: where the price of depth 0 and that of the batch's depth are measured, every price that it weighs lies inside
-- the measured depths, so each slot is taken or ends the gate. Assumes nothing.
use Prim.Native.Nat.{ℕ, zero, suc, ◌+◌, ◌-◌, ◌*◌, ◌^◌, ◌≤◌, ◌<◌}
use mathlib.Core.Path.{◌≡◌, refl, sym, ap, ◌∙◌, subst}
use mathlib.Core.Bool.{Bool, true, false, not, cond}
use mathlib.Core.List.{List, [], ◌∷◌}
use native.Mathlib.Nat.{add-mul, one-mul, mul-le-mul}
use native.Mathlib.Omega.{arith}
use borrow.Author.Tests.{ne_eqb}
use lib.Dec.{eqb}
use lib.ListN.{length, get_or, set, replicate}
use lib.Ieee.{Float, nan, lt}
use Rattle.laws.proofs.Choices.{second}
use Rattle.float.specs.Floats.{plus, whole, f1, is_finite}
use Rattle.speculative.specs.Drafter.{drafter_seconds, loaded_at, is_drafter, is_streamed}
use Rattle.speculative.specs.declared.drafter.Rates.{Rates}
use Rattle.speculative.specs.declared.drafter.DrafterCost.{DrafterCost}
use Rattle.speculative.specs.declared.drafter.DrafterCost.TheVariants.{BlockParallel}
use Rattle.heap.specs.Frontier.{chosen, next}
use Rattle.heap.specs.Greedy.{Stacks, tail_of, frontier}
use Rattle.verify_prices.specs.Bridge.{is_measured, bridged_cost}
use Rattle.verify_prices.specs.Rule.{rule_of}
use Rattle.verify_prices.specs.declared.PriceMode.TheVariants.{Bridged}
use Rattle.verdict.specs.Decision.{Sums, passed, stopped, taken, taken_if, rate_now, rate_of, next_seconds, slot_at}
use Rattle.slots.specs.Slots.{starts, up_to, stacks, survival, sum}
use Rattle.slots.specs.Gate.{State, judged, chosen_by}
use Rattle.slots.proofs.Stacked.{starts_length}
use Rattle.block.specs.Block.{add_slot, block_from, block_widths, block_gate}
use Rattle.gates_laws.specs.Entries.{Curve}
use Rattle.gates_laws.proofs.Sizes.{sized_finite}
use Rattle.gates_laws.proofs.Powers.{Within, within_more, within_plus}
use Rattle.gates_laws.proofs.Bridged.{bridged_within}
use Rattle.gates_laws.proofs.Widths.{Shared, shared_takes, shared_starts}
use Rattle.bridged_laws.specs.Paying.{paying_at, add_paying, paying_widths}
use Rattle.bridged_laws.proofs.Walking.{chosen_place, Turned, greedy_alike, sum_set, sum_under, whole_more}
use Rattle.bridged_laws.proofs.Within.{drafts_inside}
use Rattle.bridged_laws.proofs.Heads.{block_within}

zeros : (n : ℕ) → sum (replicate n 0) ≡ 0
zeros zero = refl
zeros (suc n) = omega (arith, zeros n)

starts_most : (depth : ℕ) (lengths : List ℕ) → sum (starts depth lengths) ≤ length lengths * depth
starts_most depth [] = omega arith
starts_most depth (x ∷ xs) = omega (arith, starts_most depth xs, add-mul 1 (length xs) depth, one-mul depth)

module _ (curve : List Float) (at : Curve curve) (first : is_measured curve 0 ≡ true) (depth : ℕ) (on_curve : depth ≤ length curve - 1) (best : is_measured curve depth ≡ true)
    (n : ℕ) (small : n ≤ 2 ^ 40) where
  abbrev price : Float → Float
  price t = bridged_cost curve n t

  most : n * depth ≤ 2 ^ 40 * 64
  most = mul-le-mul small (let few = at.few in let z : depth ≤ 64 = omega arith in z)

  -- the price of any W drafts over n sequences, up to n times the batch's depth, is finite, also with the drafter's seconds
  pub drafts_finite : (W : ℕ) (draft : Float) → 0 < n → W ≤ n * depth → Within 1000 draft → is_finite (plus (bridged_cost curve n (whole (n + W))) draft) ≡ true
  drafts_finite W draft some reach d =
      let inside = drafts_inside curve n W depth some (omega (arith, most, small)) reach on_curve at.few first best in
      let p = bridged_within curve at n (whole (n + W)) inside in
      sized_finite (2 ^ 1001) (plus (price (whole (n + W))) draft) (within_plus 1000 (price (whole (n + W))) draft (omega arith) (within_more 66 1000 (price (whole (n + W))) (omega arith) p) d)

  -- so a slot that is weighed with fewer drafts is taken or ends the gate
  pub slot_weighed : (W : ℕ) (sums : Sums) (s : Float) → 0 < n → W + 1 ≤ n * depth → sums.tokens ≡ whole (n + W) → Within 1000 sums.drafter
      → (slot_at price sums s ≡ paying_at price sums s) × (plus sums.tokens f1 ≡ whole (n + (W + 1)))
  slot_weighed W sums s some reach e d =
      let more : plus sums.tokens f1 ≡ whole (n + (W + 1)) =
      ap (λ (t : Float). plus t f1) e ∙ whole_more (n + W) (omega (arith, most, small)) ∙ ap whole (let z : n + W + 1 ≡ n + (W + 1) = omega arith in z) in
      let finite : is_finite (next_seconds price sums) ≡ true = ap (λ (t : Float). is_finite (plus (price t) sums.drafter)) more ∙ drafts_finite (W + 1) sums.drafter some reach d in
      (ap (λ (b : Bool). cond b (paying_at price sums s) passed) finite, more)

  -- ---- the gate
  module _ (chains : List Float) (lengths : List ℕ) (count : length lengths ≡ n) where
    abbrev caps : List ℕ
    caps = starts depth lengths

    record Adding (a : State) (s : Stacks) : Type 0 where
      tokens_are : a.sums.tokens ≡ whole (n + sum a.widths)
      drafter_in : Within 1000 a.sums.drafter
      shared : Shared caps a.widths s

    caps_long : length caps ≡ n
    caps_long = starts_length depth lengths ∙ count

    caps_most : sum caps ≤ n * depth
    caps_most = subst (λ (m : ℕ). sum caps ≤ m * depth) count (starts_most depth lengths)

    module _ (a : State) (s : Stacks) (k r : ℕ) (e : next (frontier s) ≡ chosen k r) (p : Adding a s) where
      here : k < n
      here = omega (arith, chosen_place s k r e, p.shared.stacked, caps_long)

      abbrev wider : List ℕ
      wider = set a.widths k (get_or a.widths k 0 + 1)

      next_shared : Shared caps wider (set s k (tail_of (get_or s k [])))
      next_shared = shared_takes caps a.widths s k r e p.shared

      one_more : sum wider ≡ sum a.widths + 1
      one_more = omega (arith, sum_set a.widths k (get_or a.widths k 0 + 1) (omega (arith, here, p.shared.long, caps_long)))

      reach : sum a.widths + 1 ≤ n * depth
      reach = omega (arith, one_more, caps_most, sum_under wider caps next_shared.long (λ j l. omega (arith, next_shared.each j l)))

      abbrev S : Float
      S = survival chains k (get_or a.widths k 0)

      weighed : (slot_at price a.sums S ≡ paying_at price a.sums S) × (plus a.sums.tokens f1 ≡ whole (n + (sum a.widths + 1)))
      weighed = slot_weighed (sum a.widths) a.sums S (omega (arith, here)) reach p.tokens_are p.drafter_in

      same : add_slot price chains a k r ≡ add_paying price chains a k r
      unfolding add_slot
      same = ap (judged a k (get_or a.widths k 0 + 1)) weighed.0

      paid : Turned Adding (add_slot price chains) (add_paying price chains) s k (add_paying price chains a k r)
      unfolding taken_if
      paid = go (lt (rate_now price a.sums) (rate_of (plus a.sums.expected S) (next_seconds price a.sums)))
        where
          go : (c : Bool)
              → Turned Adding (add_slot price chains) (add_paying price chains) s k (judged a k (get_or a.widths k 0 + 1)
              (cond c (taken (record { expected = plus a.sums.expected S; tokens = plus a.sums.tokens f1; drafter = a.sums.drafter })) stopped))
          go false = tt
          go true = record {
            tokens_are = weighed.1 ∙ ap (λ (i : ℕ). whole (n + i)) (sym one_more);
            drafter_in = p.drafter_in;
            shared = next_shared;
          }

      turn : Turned Adding (add_slot price chains) (add_paying price chains) s k (add_slot price chains a k r)
      turn = subst (Turned Adding (add_slot price chains) (add_paying price chains) s k) (sym same) paid

    from_same : (draft : Float) → Within 1000 draft → block_widths price chains depth draft lengths ≡ paying_widths price chains depth draft lengths
    unfolding block_widths block_from
    from_same draft d =
        ap chosen_by (greedy_alike Adding (add_slot price chains) (add_paying price chains) same turn _ (stacks up_to caps chains) (record {
          tokens_are = ap whole (let z : length lengths ≡ n + sum (replicate (length lengths) 0) = omega (arith, zeros (length lengths), count) in z);
          drafter_in = d;
          shared = rw (starts_length depth lengths) at (shared_starts caps chains);
        }))

-- ---- the whole gate, at a depth above 0
module _ (curve : List Float) (at : Curve curve) (first : is_measured curve 0 ≡ true) (depth : ℕ) (some : 0 < depth) (on_curve : depth ≤ length curve - 1) (best : is_measured curve depth ≡ true)
    (chains : List Float) (lengths : List ℕ) (rates : Rates) (loaded : List Float) where
  abbrev draft_of : DrafterCost → Float
  draft_of kind = drafter_seconds kind depth (length lengths) rates (get_or curve depth nan) (loaded_at kind loaded (length lengths))

  -- the gate is the one that takes each slot that pays and stops at the first that does not
  pub never_passes : (kind : DrafterCost) → length lengths ≤ 2 ^ 40 → Within 1000 (draft_of kind)
      → block_gate (rule_of Bridged curve (length lengths)) chains lengths curve depth kind rates loaded ≡ paying_widths (bridged_cost curve (length lengths)) chains depth (draft_of kind) lengths
  unfolding block_gate
  never_passes kind small d =
      let deep : eqb depth 0 ≡ false = ne_eqb depth 0 (λ z. omega arith) in
      sym (second (eqb depth 0) _ _ deep) ∙ sym (second (not (is_finite (get_or curve 0 nan))) _ _ (ap not first))
      ∙ from_same curve at first depth on_curve best (length lengths) small chains lengths refl (draft_of kind) d

  -- for a judged block head and judged rates, and up to 1,024 sequences, nothing more is asked of the drafter
  pub never_passes_judged : (params : Float) (block : ℕ) → length lengths ≤ 1024 → is_drafter (BlockParallel params block) ≡ true → is_streamed rates ≡ true
      → block_gate (rule_of Bridged curve (length lengths)) chains lengths curve depth (BlockParallel params block) rates loaded
      ≡ paying_widths (bridged_cost curve (length lengths)) chains depth (draft_of (BlockParallel params block)) lengths
  never_passes_judged params block few judged streamed =
      never_passes (BlockParallel params block) (omega arith)
      (within_more 91 1000 (draft_of (BlockParallel params block)) (omega arith) (block_within params block (length lengths) depth rates (get_or curve depth nan) (loaded_at (BlockParallel params block) loaded (length lengths)) few judged streamed))
