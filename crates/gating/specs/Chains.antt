-- The survival chains of a batch, what is expected of them at each depth, and each sequence's own draft by them. Assumes nothing.
use Rattle.std.specs.Prelude.{ℕ, ◌+◌, cond, List, take, replicate, Float}
use Rattle.acceptance.specs.declared.AcceptanceModel.{AcceptanceModel}
use Rattle.acceptance.specs.declared.AcceptanceModel.TheVariants.{Constant, PerPosition, Trace}
use Rattle.speculative.specs.Drafter.{is_block}
use Rattle.speculative.specs.declared.drafter.Rates.{Rates}
use Rattle.speculative.specs.declared.drafter.DrafterCost.{DrafterCost}
use Rattle.chains.specs.Expected.{expected_over}
use Rattle.verify_prices.specs.Rule.{rule_of}
use Rattle.verify_prices.specs.declared.PriceMode.{PriceMode}
use Rattle.slots.specs.Gate.{Chosen}
use Rattle.block.specs.Block.{block_gate}
use Rattle.trim.specs.Ragged.{ragged_gate}
use Rattle.rounds.specs.Signals.{model_chain, same_chains, round_chains}

-- the survival chains of n sequences: those of the drawn rounds, or the model's, which is the same for all
abbrev pub chains_by : AcceptanceModel → List Float → List Float → ℕ → List ℕ → ℕ → ℕ → List Float
chains_by (Constant alpha) positions signals depth indices n gamma = same_chains (model_chain (Constant alpha) positions gamma) n
chains_by PerPosition positions signals depth indices n gamma = same_chains (model_chain PerPosition positions gamma) n
chains_by Trace positions signals depth indices n gamma = round_chains signals depth gamma (take n indices)

-- every chain is as long as gamma
abbrev pub chains_expected : ℕ → ℕ → List Float → List Float
chains_expected n gamma chains = take (gamma + 1) (expected_over gamma (replicate n gamma) chains)

-- ---- each sequence's own draft: a block head's by the block gate, any other's by the ragged gate, within the batch's depth
abbrev pub gate_at : PriceMode → DrafterCost → Rates → List Float → List Float → ℕ → ℕ → List Float → ℕ → Chosen
gate_at mode kind rates loaded curve n gamma chains depth =
    cond (is_block kind)
    (block_gate (rule_of mode curve n) chains (replicate n gamma) curve depth kind rates loaded)
    (ragged_gate (rule_of mode curve n) chains (replicate n gamma) depth kind rates loaded)
