-- Passes that stand in a list make the same gate as the passes themselves: none is over more sequences than there are. Assumes nothing.
use Prim.Native.Nat.{ℕ, ◌-◌, ◌≤◌}
use mathlib.Core.Path.{◌≡◌, ap, ◌∙◌}
use mathlib.Core.List.{List}
use native.Mathlib.Omega.{arith}
use lib.ListN.{length, get_or, length-set}
use lib.Ieee.{Float}
use Rattle.speculative.specs.Drafter.{still_drafting}
use Rattle.heap.specs.Greedy.{greedy}
use Rattle.heap.proofs.Steps.{Kept, greedy_same}
use Rattle.verify_prices.specs.Rule.{Rule}
use Rattle.verdict.specs.Decision.{Decision, passed, stopped, taken, removal_under}
use Rattle.slots.specs.Slots.{down_from, stacks, survival}
use Rattle.slots.specs.Gate.{State, judged, Chosen, chosen_by}
use Rattle.trim.specs.Ragged.{margin_of, full_draft, drop_slot, ragged_widths}
use Rattle.trim.specs.Kept.{listed, Passes}
use Rattle.trim.proofs.Adding.{still_few, margin_listed, passes_listed}

-- the widths are those of n sequences at most
abbrev Few : ℕ → State → Type 0
Few n a = length a.widths ≤ n

kept_judged : (n : ℕ) (a : State) (k w : ℕ) → Few n a → (d : Decision) → Kept (Few n) (judged a k w d)
unfolding Kept
kept_judged n a k w h passed = h
kept_judged n a k w h stopped = tt
kept_judged n a k w h (taken sums) = simp length-set h

module _ (pass : ℕ → Float) (passes : List Float) (n : ℕ) (at : Passes pass passes n) (rule : Rule) (chains : List Float) where
  drop_same : (a : State) (k r : ℕ) → Few n a → drop_slot (listed passes) rule chains a k r ≡ drop_slot pass rule chains a k r
  unfolding drop_slot
  drop_same a k r h =
      let w = get_or a.widths k 0 in
      ap (λ (x : Float). judged a k (w - 1) (removal_under rule a.sums (survival chains k (w - 1)) x))
      (margin_listed pass passes n at (still_drafting a.widths w) (omega (arith, still_few a.widths w)))

  drop_keeps : (a : State) (k r : ℕ) → Few n a → Kept (Few n) (drop_slot (listed passes) rule chains a k r)
  unfolding drop_slot
  drop_keeps a k r h =
      let w = get_or a.widths k 0 in
      kept_judged n a k (w - 1) h (removal_under rule a.sums (survival chains k (w - 1)) (margin_of (listed passes) (still_drafting a.widths w)))

  draft_same : (depth : ℕ) (ws : List ℕ) → length ws ≤ n → full_draft (listed passes) chains depth ws ≡ full_draft pass chains depth ws
  unfolding full_draft
  draft_same depth ws h = rw (passes_listed pass passes n at ws depth h)

  draft_few : (depth : ℕ) (ws : List ℕ) → length ws ≤ n → Few n (full_draft pass chains depth ws)
  unfolding full_draft
  draft_few depth ws h = h

  ragged_listed : (depth : ℕ) (ws : List ℕ) → length ws ≤ n → ragged_widths (listed passes) rule chains depth ws ≡ ragged_widths pass rule chains depth ws
  unfolding ragged_widths
  ragged_listed depth ws h =
      ap (λ (a : State). chosen_by (greedy (drop_slot (listed passes) rule chains) a (stacks down_from ws chains))) (draft_same depth ws h)
      ∙ ap chosen_by
      (greedy_same (Few n) (drop_slot (listed passes) rule chains) (drop_slot pass rule chains) drop_same drop_keeps (full_draft pass chains depth ws)
      (stacks down_from ws chains) (draft_few depth ws h))

-- what the code made of the list is what the passes make
pub from_listed :
    (pass : ℕ → Float) (rule : Rule) (chains : List Float) (depth : ℕ) (ws : List ℕ) {passes : List Float} {answer : Chosen}
    → answer ≡ ragged_widths (listed passes) rule chains depth ws → Passes pass passes (length ws) → answer ≡ ragged_widths pass rule chains depth ws
from_listed pass rule chains depth ws {passes} e at = e ∙ ragged_listed pass passes (length ws) at rule chains depth ws (omega arith)
