-- Settings, what a plan is asked for, and its answer, from and as plain numbers.
use Rattle.std.specs.Prelude.{ℕ, cond, eqb, Float}
use Rattle.acceptance.specs.declared.AcceptanceModel.{AcceptanceModel}
use Rattle.acceptance.specs.declared.AcceptanceModel.TheVariants.{Constant, PerPosition, Trace}
use Rattle.speculative.specs.declared.drafter.DrafterCost.{DrafterCost}
use Rattle.switch_settings.specs.declared.MaxStep.TheVariants.{AtMost}
use Rattle.switch_settings.specs.declared.SwitchConstraints.{SwitchConstraints}
use Rattle.goodput.specs.declared.curve.Source.{Source}
use Rattle.goodput.specs.declared.curve.Source.TheVariants.{Roofline, Table}
use Rattle.settings.specs.declared.Policy.{Policy}
use Rattle.settings.specs.declared.Policy.TheVariants.{Fixed, GoodputBudget, GatedBudget, GatedAggregate}
use Rattle.verify_prices.specs.declared.PriceMode.TheVariants.{Default}
use Rattle.settings.specs.declared.Settings.{Settings}
use Rattle.asked_rooms.specs.declared.Ask.{Ask}
use Rattle.judged_plans.specs.declared.Planned.{Planned}
use Rattle.judged_plans.specs.declared.Planned.TheVariants.{Plan, Empty, Refused}
use Rattle.bench_plans.specs.Figures.{rates_of}

unfoldable pub model_of : ℕ → Float → AcceptanceModel
model_of model alpha = cond (eqb model 0) (Constant alpha) (cond (eqb model 1) PerPosition Trace)

unfoldable pub policy_of : ℕ → Policy
policy_of policy = cond (eqb policy 0) Fixed (cond (eqb policy 1) GoodputBudget (cond (eqb policy 2) GatedBudget GatedAggregate))

abbrev pub switch_of : ℕ → Float → SwitchConstraints
switch_of cooldown cost = record { cooldown_rounds = cooldown; max_step = AtMost 1; cost_ms = cost }

unfoldable pub source_of : ℕ → Source
source_of rows = cond (eqb rows 0) Roofline Table

abbrev pub settings_of : ℕ → ℕ → Float → ℕ → ℕ → Float → DrafterCost → Settings
settings_of gamma model alpha policy cooldown cost drafter =
    record { gamma = gamma; model = model_of model alpha; policy = policy_of policy; switch = switch_of cooldown cost; drafter = drafter; prices = Default }

abbrev pub ask_of : ℕ → ℕ → Float → Float → Float → ℕ → ℕ → ℕ → Ask
ask_of worker sequences end peak bw rows depth rounds =
    record { a = 0; b = worker; sequences = sequences; end = end; rates = rates_of peak bw; source = source_of rows; rows = rows; depth = depth; rounds = rounds }

-- the draws used; the greatest number stands for a refusal
unfoldable pub used_of : Planned → ℕ
used_of (Plan used weighed) = used
used_of Empty = 0
used_of (Refused number) = 18446744073709551615
