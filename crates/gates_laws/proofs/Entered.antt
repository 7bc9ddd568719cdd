-- What holds of an entry point's answer: a refusal writes nothing, and the slots weighed are at most those that the chains have up to the batch's best
-- depth. Assumes nothing.
use Prim.Native.Nat.{ℕ, ◌≤◌}
use mathlib.Core.Path.{◌≡◌, refl}
use mathlib.Core.List.{List}
use native.Mathlib.Omega.{arith}
use lib.ListN.{length}
use lib.Ieee.{Float}
use Rattle.std.specs.Prelude.{Ok, Err}
use Rattle.refusals.specs.Refusals.{Judgement}
use Rattle.speculative.specs.declared.drafter.Rates.{Rates}
use Rattle.speculative.specs.declared.drafter.DrafterCost.{DrafterCost}
use Rattle.verify_prices.specs.Rule.{rule_of}
use Rattle.verify_prices.specs.declared.PriceMode.{PriceMode}
use Rattle.slots.specs.Slots.{starts, sum}
use Rattle.slots.specs.Gate.{Chosen}
use Rattle.gates.specs.Entry.{left_unless, prices, depth_of, gate_judged, ragged_chosen, block_chosen, ragged_answer, block_answer, gated_number, weighed_by}
use Rattle.gates_laws.proofs.Widths.{ragged_weighed, block_weighed}

-- what is left by a refusal, and by a gate that weighed no more than b
unwritten : (judged : Judgement) (n : ℕ) (g : Chosen) (W : List ℕ) → (gated_number (left_unless judged n g W).answer ≡ 0 → ⊥) → (left_unless judged n g W).widths ≡ W
unwritten (Ok tt) n g W h = absurd (h refl)
unwritten (Err refusal) n g W h = refl

bounded : (judged : Judgement) (n b : ℕ) (g : Chosen) (W : List ℕ) → g.weighed ≤ b → weighed_by (left_unless judged n g W).answer ≤ b
bounded (Ok tt) n b g W h = h
bounded (Err refusal) n b g W h = omega arith

module _ (chains : List Float) (lengths : List ℕ) (curve : List Float) (gamma : ℕ) (kind : DrafterCost) (rates : Rates) (loaded : List Float) (mode : PriceMode) (W : List ℕ) where
  abbrev slots : ℕ
  slots = sum (starts (depth_of chains lengths curve gamma kind rates loaded) lengths)

  pub ragged_refused : (gated_number (ragged_answer chains lengths curve gamma kind rates loaded mode W).answer ≡ 0 → ⊥) → (ragged_answer chains lengths curve gamma kind rates loaded mode W).widths ≡ W
  unfolding ragged_answer
  ragged_refused = unwritten (gate_judged chains lengths curve gamma kind rates loaded (length W)) (length lengths) (ragged_chosen chains lengths curve gamma kind rates loaded mode) W

  pub block_refused : (gated_number (block_answer chains lengths curve gamma kind rates loaded mode W).answer ≡ 0 → ⊥) → (block_answer chains lengths curve gamma kind rates loaded mode W).widths ≡ W
  unfolding block_answer
  block_refused = unwritten (gate_judged chains lengths curve gamma kind rates loaded (length W)) (length lengths) (block_chosen chains lengths curve gamma kind rates loaded mode) W

  pub ragged_slots : weighed_by (ragged_answer chains lengths curve gamma kind rates loaded mode W).answer ≤ slots
  unfolding ragged_answer ragged_chosen
  ragged_slots =
      bounded (gate_judged chains lengths curve gamma kind rates loaded (length W)) (length lengths) slots (ragged_chosen chains lengths curve gamma kind rates loaded mode) W
      (ragged_weighed (rule_of mode (prices chains lengths curve gamma kind rates loaded) (length lengths)) chains lengths (depth_of chains lengths curve gamma kind rates loaded) kind rates loaded)

  pub block_slots : weighed_by (block_answer chains lengths curve gamma kind rates loaded mode W).answer ≤ slots
  unfolding block_answer block_chosen
  block_slots =
      bounded (gate_judged chains lengths curve gamma kind rates loaded (length W)) (length lengths) slots (block_chosen chains lengths curve gamma kind rates loaded mode) W
      (block_weighed (rule_of mode (prices chains lengths curve gamma kind rates loaded) (length lengths)) chains lengths (prices chains lengths curve gamma kind rates loaded) (depth_of chains lengths curve gamma kind rates loaded) kind rates loaded)
