-- What of the settings is refused, and the depth that a plan may draft to. Assumes nothing.
use Rattle.std.specs.Prelude.{ℕ, min, Bool, true, false, List, Float}
use Rattle.refusals.specs.Refusals.{Judgement, and_then, number_in}
use Rattle.acceptance.specs.Acceptance.{model_judged}
use Rattle.acceptance.specs.declared.AcceptanceModel.{AcceptanceModel}
use Rattle.acceptance.specs.declared.AcceptanceModel.TheVariants.{Constant, PerPosition, Trace}
use Rattle.speculative.specs.Drafter.{drafter_judged}
use Rattle.switch_settings.specs.Switch.{switch_judged}
use Rattle.settings.specs.declared.Policy.{Policy}
use Rattle.settings.specs.declared.Policy.TheVariants.{Fixed, GoodputBudget, GatedBudget, GatedAggregate}
use Rattle.settings.specs.declared.Settings.{Settings}

-- the model with its positions, the drafter, the switch settings, used or not
unfoldable pub settings_judged : Settings → List Float → Judgement
settings_judged s positions = and_then (model_judged s.model positions) (and_then (drafter_judged s.drafter) (switch_judged s.switch))

-- its number, 0 where it passes
abbrev pub settings_refusal : Settings → List Float → ℕ
settings_refusal s positions = number_in (settings_judged s positions)

-- an analytic model does not cap gamma; a trace does, at the depth of its bank
abbrev pub capped_by : AcceptanceModel → ℕ → ℕ → ℕ
capped_by (Constant alpha) gamma depth = gamma
capped_by PerPosition gamma depth = gamma
capped_by Trace gamma depth = min gamma depth

-- Fixed drafts the uncapped gamma
abbrev pub gamma_under : Policy → AcceptanceModel → ℕ → ℕ → ℕ
gamma_under Fixed model gamma depth = gamma
gamma_under GoodputBudget model gamma depth = capped_by model gamma depth
gamma_under GatedBudget model gamma depth = capped_by model gamma depth
gamma_under GatedAggregate model gamma depth = capped_by model gamma depth

abbrev pub gamma_in : Settings → ℕ → ℕ
gamma_in s depth = gamma_under s.policy s.model s.gamma depth

-- ---- what a policy uses
abbrev pub uses_costs : Policy → Bool
uses_costs Fixed = false
uses_costs GoodputBudget = true
uses_costs GatedBudget = true
uses_costs GatedAggregate = true

abbrev pub uses_signals : Policy → Bool
uses_signals Fixed = false
uses_signals GoodputBudget = false
uses_signals GatedBudget = true
uses_signals GatedAggregate = true

abbrev pub is_trace : AcceptanceModel → Bool
is_trace (Constant alpha) = false
is_trace PerPosition = false
is_trace Trace = true
