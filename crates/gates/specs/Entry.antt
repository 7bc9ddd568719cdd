-- The gates as entry points: what is lent is judged first, and nothing is written where it is refused. Assumes nothing.
use Rattle.std.specs.Prelude.{ℕ, ◌+◌, List, ◌++◌, leb, length, take, drop, Float, Result, Ok, Err}
use Rattle.refusals.specs.declared.Refusal.{Refusal}
use Rattle.refusals.specs.declared.Refusal.TheVariants.{ShortBuffer}
use Rattle.refusals.specs.Refusals.{Judgement, passed_if, and_then, number_in}
use Rattle.speculative.specs.declared.drafter.Rates.{Rates}
use Rattle.speculative.specs.declared.drafter.DrafterCost.{DrafterCost}
use Rattle.goodput_judges.specs.Refusals.{sizes_judged, aggregate_judged}
use Rattle.chains.specs.Expected.{expected_over}
use Rattle.goodput.specs.Depth.{best_priced}
use Rattle.verify_prices.specs.Rule.{rule_of}
use Rattle.verify_prices.specs.declared.PriceMode.{PriceMode}
use Rattle.slots.specs.Gate.{Chosen}
use Rattle.block.specs.Block.{block_gate}
use Rattle.trim.specs.Ragged.{ragged_gate}

-- how many slots were weighed, or the refusal; and the widths at exit
pub record Left : Type 0 where
  pub answer : Result ℕ Refusal
  pub widths : List ℕ

-- 12 and 11; 16: there is no room for a width of each of n sequences
unfoldable pub room_judged : DrafterCost → ℕ → ℕ → ℕ → Judgement
room_judged kind gamma n room = and_then (sizes_judged kind gamma n) (passed_if (leb n room) ShortBuffer)

-- what the gate chose stands at the front of the n widths; a refusal writes nothing
abbrev pub left_unless : Judgement → ℕ → Chosen → List ℕ → Left
left_unless (Ok tt) n g W = record { answer = Ok g.weighed; widths = g.widths ++ drop n W }
left_unless (Err refusal) n g W = record { answer = Err refusal; widths = W }

module _ (chains : List Float) (lengths : List ℕ) (curve : List Float) (gamma : ℕ) (kind : DrafterCost) (rates : Rates) (loaded : List Float) where
  -- the prices of the depths 0 to gamma
  abbrev pub prices : List Float
  prices = take (gamma + 1) curve

  -- the batch's best depth
  abbrev pub depth_of : ℕ
  depth_of = best_priced kind (length lengths) rates loaded (take (gamma + 1) (expected_over gamma lengths chains)) prices

  -- 12, 11, 16 of the widths; then what is refused of the best depth, which is 16 and 15 by now
  unfoldable pub gate_judged : ℕ → Judgement
  gate_judged room = and_then (room_judged kind gamma (length lengths) room) (aggregate_judged chains lengths curve gamma kind rates loaded)

  -- its number, 0 where nothing is refused
  abbrev pub gate_refusal : ℕ → ℕ
  gate_refusal room = number_in (gate_judged room)

  unfoldable pub ragged_chosen : PriceMode → Chosen
  ragged_chosen mode = ragged_gate (rule_of mode prices (length lengths)) chains lengths depth_of kind rates loaded

  unfoldable pub block_chosen : PriceMode → Chosen
  block_chosen mode = block_gate (rule_of mode prices (length lengths)) chains lengths prices depth_of kind rates loaded

  unfoldable pub ragged_answer : PriceMode → List ℕ → Left
  ragged_answer mode W = left_unless (gate_judged (length W)) (length lengths) (ragged_chosen mode) W

  unfoldable pub block_answer : PriceMode → List ℕ → Left
  block_answer mode W = left_unless (gate_judged (length W)) (length lengths) (block_chosen mode) W

-- the refusal number of each answer, 0 where slots were weighed, and how many were
abbrev pub gated_number : Result ℕ Refusal → ℕ
gated_number answer = number_in answer

abbrev pub weighed_by : Result ℕ Refusal → ℕ
weighed_by (Ok w) = w
weighed_by (Err refusal) = 0

-- the number of the room's refusal
abbrev pub room_refusal : DrafterCost → ℕ → ℕ → ℕ → ℕ
room_refusal kind gamma n room = number_in (room_judged kind gamma n room)
