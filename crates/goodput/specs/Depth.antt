-- The best depth of a batch. Assumes nothing.
use Rattle.std.specs.Prelude.{ℕ, ◌+◌, List, length, take, Float, Result, Ok, Err}
use Rattle.refusals.specs.declared.Refusal.{Refusal}
use Rattle.refusals.specs.Refusals.{and_then}
use Rattle.speculative.specs.Drafter.{loaded_at}
use Rattle.speculative.specs.declared.drafter.Rates.{Rates}
use Rattle.speculative.specs.declared.drafter.DrafterCost.{DrafterCost}
use Rattle.chains.specs.Expected.{expected_over}
use Rattle.depths.specs.Goodput.{best_of}
use Rattle.depths.specs.Pricing.{costs_from}
use Rattle.goodput_judges.specs.Refusals.{depth_judged, aggregate_judged}

-- the best depth where the price curve and the expected values are those of the depths 0 to gamma
abbrev pub best_priced : DrafterCost → ℕ → Rates → List Float → List Float → List Float → ℕ
best_priced kind n rates loaded es curve = best_of n es (costs_from kind n rates (loaded_at kind loaded n) 0 curve)

-- ---- of expected values that are lent

unfoldable pub depth_answer : List Float → List Float → ℕ → ℕ → DrafterCost → Rates → List Float → Result ℕ Refusal
depth_answer es curve gamma n kind rates loaded =
    and_then (depth_judged es curve gamma n kind rates loaded) (Ok (best_priced kind n rates loaded (take (gamma + 1) es) (take (gamma + 1) curve)))

-- ---- of the expected values of a batch's chains

unfoldable pub aggregate_answer : List Float → List ℕ → List Float → ℕ → DrafterCost → Rates → List Float → Result ℕ Refusal
aggregate_answer chains lengths curve gamma kind rates loaded =
    and_then (aggregate_judged chains lengths curve gamma kind rates loaded)
    (Ok (best_priced kind (length lengths) rates loaded (take (gamma + 1) (expected_over gamma lengths chains)) (take (gamma + 1) curve)))

-- the depth of each answer
abbrev pub depth_value : Result ℕ Refusal → ℕ
depth_value (Ok g) = g
depth_value (Err refusal) = 0
