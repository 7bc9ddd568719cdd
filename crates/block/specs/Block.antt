-- The block gate: the drafter's block is paid for, and slots are added to the verify, the largest bits first, while each pays. Assumes nothing.
use Rattle.std.specs.Prelude.{ℕ, ◌+◌, cond, List, eqb, length, get_or, replicate, Float}
use Rattle.std.specs.Float.{nan}
use Rattle.float.specs.Floats.{whole}
use Rattle.speculative.specs.Drafter.{drafter_seconds, loaded_at}
use Rattle.speculative.specs.declared.drafter.Rates.{Rates}
use Rattle.speculative.specs.declared.drafter.DrafterCost.{DrafterCost}
use Rattle.heap.specs.Greedy.{Verdict, greedy}
use Rattle.verify_prices.specs.Rule.{Rule}
use Rattle.verdict.specs.Decision.{Sums, slot_at}
use Rattle.slots.specs.Slots.{starts, up_to, stacks, survival}
use Rattle.slots.specs.Gate.{State, judged, Chosen, chosen_by}

-- `price t` is the verify price of t tokens in all
module _ (price : Float → Float) (chains : List Float) where
  -- one slot more of sequence k
  unfoldable pub add_slot : State → ℕ → ℕ → Verdict State
  add_slot a k rank = let w = get_or a.widths k 0 in judged a k (w + 1) (slot_at price a.sums (survival chains k w))

  -- from no slot at all, within blocks of the given depth
  unfoldable pub block_from : ℕ → Sums → List ℕ → Chosen
  block_from depth sums lengths =
      chosen_by (greedy add_slot (record { sums = sums; widths = replicate (length lengths) 0 }) (stacks up_to (starts depth lengths) chains))

  -- every sequence verifies its one sure token; the blocks cost `draft` to make
  unfoldable pub block_widths : ℕ → Float → List ℕ → Chosen
  block_widths depth draft lengths =
      let n = whole (length lengths) in
      block_from depth (record { expected = n; tokens = n; drafter = draft }) lengths

-- the whole gate under a pricing rule, where `depth` is the batch's best. At depth 0 nothing is weighed; where the price of depth 0 is shut, nothing is
-- weighed either, and every sequence has the block's depth or its chain's length
unfoldable pub block_gate : Rule → List Float → List ℕ → List Float → ℕ → DrafterCost → Rates → List Float → Chosen
block_gate rule chains lengths curve depth kind rates loaded =
    let n = length lengths in
    cond (eqb depth 0) (record { widths = replicate n 0; weighed = 0 })
    (cond (rule.shut (get_or curve 0 nan)) (record { widths = starts depth lengths; weighed = 0 })
    (block_widths rule.price chains depth (drafter_seconds kind depth n rates (get_or curve depth nan) (loaded_at kind loaded n)) lengths))
