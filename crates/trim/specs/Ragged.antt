-- The ragged gate: every sequence drafts to the batch's depth, and the deepest slots are given back, the smallest bits first, while that pays.
-- Assumes nothing.
use Rattle.std.specs.Prelude.{ℕ, zero, suc, ◌+◌, ◌-◌, cond, List, [], ◌∷◌, eqb, length, get_or, take, drop, replicate, Float}
use Rattle.float.specs.Floats.{plus, less, f0, whole}
use Rattle.speculative.specs.Drafter.{still_drafting, pass_seconds, loaded_at}
use Rattle.speculative.specs.declared.drafter.Rates.{Rates}
use Rattle.speculative.specs.declared.drafter.DrafterCost.{DrafterCost}
use Rattle.heap.specs.Greedy.{Verdict, greedy}
use Rattle.verify_prices.specs.Rule.{Rule}
use Rattle.verdict.specs.Decision.{removal_under}
use Rattle.slots.specs.Slots.{starts, down_from, stacks, survival}
use Rattle.slots.specs.Gate.{State, judged, Chosen, chosen_by}

-- ---- the sums at the start, each from 0.0. The Rust's start from minus zero, which shows nowhere in the gate: `starts_alike` of gates_laws

-- the terms added in order to what there is
unfoldable pub sum_from : Float → List Float → Float
sum_from acc [] = acc
sum_from acc (s ∷ chain) = sum_from (plus acc s) chain

-- the survivals of each chain's first w slots are added first, and then the chains' sums
unfoldable pub survivals_from : Float → List ℕ → List Float → Float
survivals_from acc [] c = acc
survivals_from acc (w ∷ ws) c = survivals_from (plus acc (sum_from f0 (take w c))) ws (drop 64 c)

-- a sequence of width w verifies w + 1 tokens
unfoldable pub tokens_from : Float → List ℕ → Float
tokens_from acc [] = acc
tokens_from acc (w ∷ ws) = tokens_from (plus acc (whole (w + 1))) ws

-- ---- `pass m` is what one pass of the drafter over m sequences takes
module _ (pass : ℕ → Float) where
  -- what the last of m sequences adds to a pass
  unfoldable pub margin_of : ℕ → Float
  margin_of m = less (pass m) (pass (m - 1))

  -- the passes of depths 1 to d, each over the sequences that are so wide, added in order
  unfoldable pub passes_of : List ℕ → ℕ → Float
  passes_of ws zero = f0
  passes_of ws (suc d) = plus (passes_of ws d) (pass (still_drafting ws (suc d)))

  -- everything is drafted
  unfoldable pub full_draft : List Float → ℕ → List ℕ → State
  full_draft chains depth ws = record {
    sums = record {
      expected = plus (whole (length ws)) (survivals_from f0 ws chains);
      tokens = tokens_from f0 ws;
      drafter = passes_of ws depth;
    };
    widths = ws;
  }

  -- `rule` prices the verify
  module _ (rule : Rule) (chains : List Float) where
    -- the deepest slot of sequence k is given back, or the sequence is passed over where that does not pay. A sequence that is weighed has a slot, so
    -- the Rust's test for a width of 0 is never met
    unfoldable pub drop_slot : State → ℕ → ℕ → Verdict State
    drop_slot a k rank =
        let w = get_or a.widths k 0 in
        judged a k (w - 1) (removal_under rule a.sums (survival chains k (w - 1)) (margin_of (still_drafting a.widths w)))

    -- from the widths ws, none above `depth`
    unfoldable pub ragged_widths : ℕ → List ℕ → Chosen
    ragged_widths depth ws = chosen_by (greedy drop_slot (full_draft chains depth ws) (stacks down_from ws chains))

-- one pass over m sequences, with the experts that these load
abbrev pub pass_of : DrafterCost → Rates → List Float → ℕ → Float
pass_of kind rates loaded m = pass_seconds kind m rates (loaded_at kind loaded m)

-- the whole gate, where `depth` is the batch's best. At depth 0 nothing is weighed
unfoldable pub ragged_gate : Rule → List Float → List ℕ → ℕ → DrafterCost → Rates → List Float → Chosen
ragged_gate rule chains lengths depth kind rates loaded =
    cond (eqb depth 0) (record { widths = replicate (length lengths) 0; weighed = 0 })
    (ragged_widths (pass_of kind rates loaded) rule chains depth (starts depth lengths))
