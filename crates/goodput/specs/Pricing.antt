-- The total cost of a depth, of lent inputs, and what is refused of them. Assumes nothing.
use Rattle.std.specs.Prelude.{ℕ, List, Float, Result, Ok}
use Rattle.refusals.specs.declared.Refusal.{Refusal}
use Rattle.refusals.specs.Refusals.{and_then}
use Rattle.speculative.specs.Drafter.{loaded_at}
use Rattle.speculative.specs.declared.drafter.Rates.{Rates}
use Rattle.speculative.specs.declared.drafter.DrafterCost.{DrafterCost}
use Rattle.depths.specs.Pricing.{total_cost}
use Rattle.goodput_judges.specs.Refusals.{cost_judged}

unfoldable pub cost_of : DrafterCost → ℕ → ℕ → Rates → Float → List Float → Result Float Refusal
cost_of kind g n rates verify loaded = and_then (cost_judged kind g n rates verify loaded) (Ok (total_cost kind n rates (loaded_at kind loaded n) g verify))
