-- The contracts of `gates` leave one outcome each. Assumes nothing.
use mathlib.Core.List.{List}
use mathlib.Core.Path.{◌≡◌}
use Prim.Native.Nat.{ℕ}
use lib.Ieee.{Float}
use Rattle.std.specs.Prelude.{Result}
use Rattle.verify_prices.specs.declared.PriceMode.{PriceMode}
use Rattle.gates.specs.Entry.{Left, block_answer, ragged_answer}
use Rattle.refusals.specs.declared.Refusal.{Refusal}
use Rattle.speculative.specs.declared.drafter.DrafterCost.{DrafterCost}
use Rattle.speculative.specs.declared.drafter.Rates.{Rates}
use Rattle.unique.specs.Only.{OnlyTwo}
use Rattle.unique.proofs.Law.{two_once}

pub gated_ragged_draft_once : (chains : List Float) (lengths : List ℕ) (curve : List Float) (gamma : ℕ) (mode : PriceMode) (drafter : DrafterCost) (rates : Rates) (loaded : List Float) (widths : List ℕ) → OnlyTwo (λ (r : Result ℕ Refusal) (widths' : List ℕ). record { answer = r; widths = widths' } ≡ ragged_answer chains lengths curve gamma drafter rates loaded mode widths)
gated_ragged_draft_once chains lengths curve gamma mode drafter rates loaded widths x b y c p q = two_once (λ (o : Left). o.answer) (λ (o : Left). o.widths) p q

pub gated_block_verify_once : (chains : List Float) (lengths : List ℕ) (curve : List Float) (gamma : ℕ) (mode : PriceMode) (drafter : DrafterCost) (rates : Rates) (loaded : List Float) (widths : List ℕ) → OnlyTwo (λ (r : Result ℕ Refusal) (widths' : List ℕ). record { answer = r; widths = widths' } ≡ block_answer chains lengths curve gamma drafter rates loaded mode widths)
gated_block_verify_once chains lengths curve gamma mode drafter rates loaded widths x b y c p q = two_once (λ (o : Left). o.answer) (λ (o : Left). o.widths) p q
