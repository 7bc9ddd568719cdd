-- What the chains of a batch give: its depth by the loop, and, where each sequence has a draft of its own, the drafts. Assumes nothing.
use Rattle.std.specs.Prelude.{ℕ, ◌+◌, ◌≤◌, ◌≡◌, Bool, true, false, cond, List, length, Float}
use Rattle.speculative.specs.declared.drafter.Rates.{Rates}
use Rattle.speculative.specs.declared.drafter.DrafterCost.{DrafterCost}
use Rattle.speculative.specs.Drafter.{is_block, loaded_at}
use Rattle.depths.specs.Pricing.{depth_over}
use Rattle.verify_prices.specs.Rule.{rule_of}
use Rattle.verify_prices.specs.declared.PriceMode.{PriceMode}
use Rattle.slots.specs.Gate.{Chosen}
use Rattle.block.specs.Block.{block_gate}
use Rattle.trim.specs.Ragged.{ragged_gate}
use Rattle.settings.specs.declared.Settings.{Settings}
use Rattle.settings.specs.Settings.{is_trace}
use Rattle.asked_rooms.specs.declared.Ask.{Ask}
use Rattle.gating.specs.Chains.{chains_expected, gate_at}

-- the batch's depth, the slots weighed, and the drafts
pub record Gate : Type 0 where
  pub depth : ℕ
  pub weighed : ℕ
  pub drafts : List ℕ

-- `own`: each sequence has a draft of its own; else the drafts stay
abbrev pub gate_by : Bool → ℕ → Chosen → List ℕ → Gate
gate_by true depth c drafts = record { depth = depth; weighed = c.weighed; drafts = c.widths }
gate_by false depth c drafts = record { depth = depth; weighed = 0; drafts = drafts }

-- over chains that are as long as gamma
unfoldable pub gate_over : Bool → PriceMode → DrafterCost → Rates → List Float → List Float → ℕ → ℕ → List Float → List ℕ → Gate
gate_over own mode kind rates loaded curve n gamma chains drafts =
    let depth = depth_over kind n rates (loaded_at kind loaded n) (chains_expected n gamma chains) curve in
    gate_by own depth (gate_at mode kind rates loaded curve n gamma chains depth) drafts

-- the gate of the drafter, over chains that each have their own length
abbrev pub gate_of : PriceMode → DrafterCost → Rates → List Float → List Float → List ℕ → List Float → ℕ → Chosen
gate_of mode kind rates loaded curve lengths chains depth =
    let rule = rule_of mode curve (length lengths) in
    cond (is_block kind) (block_gate rule chains lengths curve depth kind rates loaded) (ragged_gate rule chains lengths depth kind rates loaded)

-- what is known of a gated batch
pub record Batched (s : Settings) (a : Ask) (gamma : ℕ) (indices : List ℕ) (curve : List Float) (drafts : List ℕ) : Type 0 where
  pub shallow : gamma ≤ 64
  pub few : a.sequences ≤ 1024
  pub room : length drafts ≡ a.sequences
  pub priced : length curve ≡ gamma + 1
  pub indexed : is_trace s.model ≡ true → a.sequences ≤ length indices
