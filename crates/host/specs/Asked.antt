-- What the numbers that a host passes stand for. Assumes nothing.
use Rattle.std.specs.Prelude.{ℕ, Bool, cond, ◌&&◌, eqb, leb, Float}
use Rattle.acceptance.specs.declared.AcceptanceModel.{AcceptanceModel}
use Rattle.acceptance.specs.declared.AcceptanceModel.TheVariants.{Constant, PerPosition, Trace}
use Rattle.speculative.specs.declared.drafter.DrafterCost.{DrafterCost}
use Rattle.speculative.specs.declared.drafter.DrafterCost.TheVariants.{Fraction, Autoregressive, BlockParallel}
use Rattle.speculative.specs.declared.drafter.Rates.{Rates}
use Rattle.switch_settings.specs.declared.MaxStep.{MaxStep}
use Rattle.switch_settings.specs.declared.MaxStep.TheVariants.{Unlimited, AtMost}
use Rattle.switch_settings.specs.declared.SwitchConstraints.{SwitchConstraints}
use Rattle.goodput.specs.declared.curve.Source.{Source}
use Rattle.goodput.specs.declared.curve.Source.TheVariants.{Roofline, Table}
use Rattle.verify_prices.specs.Rule.{mode_of}
use Rattle.settings.specs.declared.Policy.{Policy}
use Rattle.settings.specs.declared.Policy.TheVariants.{Fixed, GoodputBudget, GatedBudget, GatedAggregate}
use Rattle.settings.specs.declared.Settings.{Settings}
use Rattle.asked_rooms.specs.declared.Ask.{Ask}
use Rattle.host.specs.declared.asked.HostSettings.{HostSettings}
use Rattle.host.specs.declared.asked.HostRates.{HostRates}
use Rattle.host.specs.declared.asked.HostAsk.{HostAsk}

-- each number of a case stands for one: four policies, three models, three drafters, two ways to walk, two price modes, two sources of prices
unfoldable pub settings_fit : HostSettings → Bool
settings_fit s = leb s.policy 3 && (leb s.model 2 && (leb s.drafter 2 && (leb s.steps 1 && leb s.prices 1)))

unfoldable pub ask_fits : HostAsk → Bool
ask_fits a = leb a.source 1

unfoldable pub model_of : ℕ → Float → AcceptanceModel
model_of model alpha = cond (eqb model 0) (Constant alpha) (cond (eqb model 1) PerPosition Trace)

unfoldable pub policy_of : ℕ → Policy
policy_of policy = cond (eqb policy 0) Fixed (cond (eqb policy 1) GoodputBudget (cond (eqb policy 2) GatedBudget GatedAggregate))

unfoldable pub step_of : ℕ → ℕ → MaxStep
step_of steps most = cond (eqb steps 0) Unlimited (AtMost most)

unfoldable pub source_of : ℕ → Source
source_of source = cond (eqb source 0) Roofline Table

unfoldable pub drafter_of : HostSettings → DrafterCost
drafter_of s =
    cond (eqb s.drafter 0) (Fraction s.frac)
    (cond (eqb s.drafter 1) (Autoregressive s.dense_params s.expert_params s.num_experts s.experts_per_tok s.shared_experts)
    (BlockParallel s.params s.block))

abbrev pub switch_of : HostSettings → SwitchConstraints
switch_of s = record { cooldown_rounds = s.cooldown_rounds; max_step = step_of s.steps s.max_step; cost_ms = s.cost_ms }

abbrev pub rates_of : HostRates → Rates
rates_of r = record { peak = r.peak; bw = r.bw; kv_delta = r.kv_delta }

abbrev pub settings_of : HostSettings → Settings
settings_of s = record { gamma = s.gamma; model = model_of s.model s.alpha; policy = policy_of s.policy; switch = switch_of s; drafter = drafter_of s; prices = mode_of s.prices }

abbrev pub ask_of : HostAsk → Ask
ask_of a =
    record { a = a.a; b = a.b; sequences = a.sequences; end = a.end; rates = rates_of a.rates; source = source_of a.source; rows = a.rows; depth = a.depth; rounds = a.rounds }
