-- The settings of switching: which take every target and which are refused. Assumes nothing.
use Rattle.std.specs.Prelude.{ℕ, Bool, true, false, ◌&&◌, leb, Float}
use Rattle.std.specs.Float.{binary64}
use Rattle.std.specs.Float.Ieee.{of_bits, eq}
use Rattle.float.specs.Floats.{f0}
use Rattle.float.specs.Range.{in_range}
use Rattle.refusals.specs.declared.Refusal.TheVariants.{Setting}
use Rattle.refusals.specs.Refusals.{Judgement, passed_if, number_in}
use Rattle.switch_settings.specs.declared.MaxStep.{MaxStep}
use Rattle.switch_settings.specs.declared.MaxStep.TheVariants.{Unlimited, AtMost}
use Rattle.switch_settings.specs.declared.SwitchConstraints.{SwitchConstraints}

-- 3,600,000, an hour
abbrev pub most_cost : Float
most_cost = of_bits binary64 0x414b_7740_0000_0000

abbrev pub is_unlimited : MaxStep → Bool
is_unlimited Unlimited = true
is_unlimited (AtMost d) = false

-- every round is weighed, the walk has no limit, and a change costs nothing
abbrev pub is_unconstrained : SwitchConstraints → Bool
is_unconstrained s = leb s.cooldown_rounds 1 && (is_unlimited s.max_step && eq s.cost_ms f0)

-- a change costs at most an hour, and not less than nothing
abbrev pub switch_judged : SwitchConstraints → Judgement
switch_judged s = passed_if (in_range f0 most_cost s.cost_ms) Setting

-- its number, 0 where it passes
abbrev pub switch_refusal : SwitchConstraints → ℕ
switch_refusal s = number_in (switch_judged s)
