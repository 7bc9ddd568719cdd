-- The ragged gate over sums that start from any number z. The rules add terms in order and name no start: the definition adds from 0.0, the Rust's `sum` from
-- minus zero. Assumes nothing.
use Rattle.std.specs.Prelude.{ℕ, zero, suc, cond, List, [], ◌∷◌, eqb, length, take, drop, replicate, Float}
use Rattle.std.specs.Float.{binary64}
use Rattle.std.specs.Float.Ieee.{of_bits}
use Rattle.float.specs.Floats.{plus, whole}
use Rattle.speculative.specs.Drafter.{still_drafting}
use Rattle.speculative.specs.declared.drafter.Rates.{Rates}
use Rattle.speculative.specs.declared.drafter.DrafterCost.{DrafterCost}
use Rattle.verify_prices.specs.Rule.{Rule}
use Rattle.heap.specs.Greedy.{greedy}
use Rattle.slots.specs.Slots.{starts, down_from, stacks}
use Rattle.slots.specs.Gate.{State, Chosen, chosen_by}
use Rattle.trim.specs.Ragged.{sum_from, tokens_from, drop_slot, pass_of}

abbrev pub minus_zero : Float
minus_zero = of_bits binary64 0x8000_0000_0000_0000

module _ (z : Float) where
  -- both each chain's sum and the sum of these start from z
  unfoldable pub survivals_over : Float → List ℕ → List Float → Float
  survivals_over acc [] c = acc
  survivals_over acc (w ∷ ws) c = survivals_over (plus acc (sum_from z (take w c))) ws (drop 64 c)

  module _ (pass : ℕ → Float) where
    unfoldable pub passes_over : List ℕ → ℕ → Float
    passes_over ws zero = z
    passes_over ws (suc d) = plus (passes_over ws d) (pass (still_drafting ws (suc d)))

    unfoldable pub draft_over : List Float → ℕ → List ℕ → State
    draft_over chains depth ws = record {
      sums = record {
        expected = plus (whole (length ws)) (survivals_over z ws chains);
        tokens = tokens_from z ws;
        drafter = passes_over ws depth;
      };
      widths = ws;
    }

  unfoldable pub ragged_over : Rule → List Float → List ℕ → ℕ → DrafterCost → Rates → List Float → Chosen
  ragged_over rule chains lengths depth kind rates loaded =
      let pass = pass_of kind rates loaded in
      let ws = starts depth lengths in
      cond (eqb depth 0) (record { widths = replicate (length lengths) 0; weighed = 0 })
      (chosen_by (greedy (drop_slot pass rule chains) (draft_over pass chains depth ws) (stacks down_from ws chains)))
