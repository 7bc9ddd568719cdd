-- From the parts of a gate to the whole: at depth 0 there is nothing to weigh. Assumes nothing.
use Prim.Native.Nat.{ℕ}
use mathlib.Core.Path.{◌≡◌, sym, ap, ◌∙◌}
use mathlib.Core.List.{List}
use lib.Dec.{eqb}
use native.Mathlib.Omega.{arith}
use borrow.Author.Tests.{eq-eqb, ne_eqb}
use lib.ListN.{length}
use lib.Ieee.{Float}
use Rattle.laws.proofs.Choices.{first, second}
use Rattle.speculative.specs.declared.drafter.Rates.{Rates}
use Rattle.speculative.specs.declared.drafter.DrafterCost.{DrafterCost}
use Rattle.verify_prices.specs.Rule.{Rule}
use Rattle.slots.specs.Gate.{Chosen}
use Rattle.slots.specs.Slots.{Fits, AtMost, starts}
use Rattle.trim.specs.Ragged.{pass_of, ragged_widths, ragged_gate}
use Rattle.slots.proofs.Stacked.{starts_length, starts_at, starts_zero}
use Rattle.slots.proofs.Rooms.{fits_starts}

-- ---- the ragged gate, which starts from the widths W
pub ragged_fits :
    (depth : ℕ) {chains : List Float} {lengths W : List ℕ} → Fits chains lengths (length lengths) → W ≡ starts depth lengths → Fits chains W (length W) × AtMost depth W
ragged_fits depth {lengths = lengths} fits e =
    rw e
    (rw (sym (starts_length depth lengths)) at (fits_starts depth fits), λ k l. omega (arith, starts_at depth lengths k (omega (arith, starts_length depth lengths))))

module _ (rule : ℕ → Rule) (chains : List Float) (lengths : List ℕ) (depth : ℕ) (kind : DrafterCost) (rates : Rates) (loaded : List Float)
    (W : List ℕ) (w : W ≡ starts depth lengths) where
  pub ragged_none : depth ≡ 0 → record { widths = W; weighed = 0 } ≡ ragged_gate (rule (length lengths)) chains lengths depth kind rates loaded
  unfolding ragged_gate
  ragged_none z = ap (λ (l : List ℕ). record { widths = l; weighed = 0 }) (w ∙ starts_zero depth lengths z) ∙ first (eqb depth 0) _ _ (eq-eqb depth 0 z)

  pub ragged_some :
      (depth ≡ 0 → ⊥) → (answer : Chosen) → answer ≡ ragged_widths (pass_of kind rates loaded) (rule (length W)) chains depth W
      → answer ≡ ragged_gate (rule (length lengths)) chains lengths depth kind rates loaded
  unfolding ragged_gate
  ragged_some h answer e =
      let long : length W ≡ length lengths = ap length w ∙ starts_length depth lengths in
      let pass = pass_of kind rates loaded in
      e ∙ ap (λ (n : ℕ). ragged_widths pass (rule n) chains depth W) long ∙ ap (ragged_widths pass (rule (length lengths)) chains depth) w
      ∙ second (eqb depth 0) _ _ (ne_eqb depth 0 h)
