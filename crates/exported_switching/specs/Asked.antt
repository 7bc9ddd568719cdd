-- What plain numbers stand for. Assumes nothing.
use Rattle.std.specs.Prelude.{ℕ, cond, eqb, Float}
use Rattle.switch_settings.specs.declared.MaxStep.{MaxStep}
use Rattle.switch_settings.specs.declared.MaxStep.TheVariants.{Unlimited, AtMost}
use Rattle.switch_settings.specs.declared.SwitchConstraints.{SwitchConstraints}

unfoldable pub step_of : ℕ → ℕ → MaxStep
step_of steps most = cond (eqb steps 0) Unlimited (AtMost most)

abbrev pub switch_of : ℕ → ℕ → ℕ → Float → SwitchConstraints
switch_of cooldown steps most cost = record { cooldown_rounds = cooldown; max_step = step_of steps most; cost_ms = cost }
