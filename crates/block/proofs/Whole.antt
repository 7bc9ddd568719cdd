-- From the parts of a gate to the whole: at depth 0 there is nothing to weigh. Assumes nothing.
use Prim.Native.Nat.{ℕ}
use mathlib.Core.Path.{◌≡◌, ap, ◌∙◌}
use mathlib.Core.Bool.{true, false}
use mathlib.Core.List.{List}
use lib.Dec.{eqb}
use borrow.Author.Tests.{eq-eqb, ne_eqb}
use lib.ListN.{length, get_or, replicate}
use lib.Ieee.{Float, nan}
use Rattle.laws.proofs.Choices.{first, second}
use Rattle.float.specs.Floats.{whole}
use Rattle.speculative.specs.Drafter.{drafter_seconds, loaded_at}
use Rattle.speculative.specs.declared.drafter.Rates.{Rates}
use Rattle.speculative.specs.declared.drafter.DrafterCost.{DrafterCost}
use Rattle.verify_prices.specs.Rule.{Rule}
use Rattle.verdict.specs.Decision.{Sums}
use Rattle.slots.specs.Slots.{starts}
use Rattle.slots.specs.Gate.{Chosen}
use Rattle.block.specs.Block.{block_from, block_widths, block_gate}

-- ---- the block gate
pub block_started :
    (price : Float → Float) (chains : List Float) (depth : ℕ) (draft : Float) (lengths : List ℕ) (sums : Sums) (answer : Chosen)
    → sums ≡ record { expected = whole (length lengths); tokens = whole (length lengths); drafter = draft }
    → answer ≡ block_from price chains depth sums lengths → answer ≡ block_widths price chains depth draft lengths
unfolding block_widths
block_started price chains depth draft lengths sums answer e a = a ∙ ap (λ (s : Sums). block_from price chains depth s lengths) e

module _ (rule : Rule) (chains : List Float) (lengths : List ℕ) (curve : List Float) (depth : ℕ) (kind : DrafterCost) (rates : Rates) (loaded : List Float) where
  pub block_none : (W : List ℕ) → depth ≡ 0 → W ≡ replicate (length lengths) 0 → record { widths = W; weighed = 0 } ≡ block_gate rule chains lengths curve depth kind rates loaded
  unfolding block_gate
  block_none W z w = ap (λ (l : List ℕ). record { widths = l; weighed = 0 }) w ∙ first (eqb depth 0) _ _ (eq-eqb depth 0 z)

  -- the price of depth 0 is shut
  pub block_shut : (W : List ℕ) → (depth ≡ 0 → ⊥) → rule.shut (get_or curve 0 nan) ≡ true → W ≡ starts depth lengths
      → record { widths = W; weighed = 0 } ≡ block_gate rule chains lengths curve depth kind rates loaded
  unfolding block_gate
  block_shut W h q w =
      ap (λ (l : List ℕ). record { widths = l; weighed = 0 }) w ∙ first (rule.shut (get_or curve 0 nan)) _ _ q ∙ second (eqb depth 0) _ _ (ne_eqb depth 0 h)

  pub block_some :
      (answer : Chosen) (draft experts : Float) → (depth ≡ 0 → ⊥) → rule.shut (get_or curve 0 nan) ≡ false → experts ≡ loaded_at kind loaded (length lengths)
      → draft ≡ drafter_seconds kind depth (length lengths) rates (get_or curve depth nan) experts
      → answer ≡ block_widths rule.price chains depth draft lengths → answer ≡ block_gate rule chains lengths curve depth kind rates loaded
  unfolding block_gate
  block_some answer draft experts h q x d e =
      let full = d ∙ ap (λ (y : Float). drafter_seconds kind depth (length lengths) rates (get_or curve depth nan) y) x in
      e ∙ ap (λ (y : Float). block_widths rule.price chains depth y lengths) full ∙ second (rule.shut (get_or curve 0 nan)) _ _ q ∙ second (eqb depth 0) _ _ (ne_eqb depth 0 h)
