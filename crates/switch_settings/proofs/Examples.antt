-- Worked examples of the definitions, by computation. Assumes nothing.
use mathlib.Core.Path.{◌≡◌, refl}
use mathlib.Core.Bool.{true, false}
use lib.Ieee.{neg, lt, eq, of_bits, of_int, round}
use Rattle.float.specs.Floats.{f0, whole, is_clear}
use Rattle.float.specs.Range.{in_range}
use Rattle.switch_settings.specs.declared.MaxStep.TheVariants.{Unlimited, AtMost}
use Rattle.switch_settings.specs.Switch.{most_cost, is_unconstrained, switch_refusal}

-- an hour in milliseconds
limit : most_cost ≡ whole 3600000
unfolding of_bits of_int round
limit = refl

switches : (is_unconstrained (record { cooldown_rounds = 1; max_step = Unlimited; cost_ms = f0 }) ≡ true) × (is_unconstrained (record { cooldown_rounds = 2; max_step = Unlimited; cost_ms = f0 }) ≡ false)
    × (is_unconstrained (record { cooldown_rounds = 0; max_step = AtMost 64; cost_ms = f0 }) ≡ false) × (switch_refusal (record { cooldown_rounds = 0; max_step = AtMost 0; cost_ms = most_cost }) ≡ 0)
    × (switch_refusal (record { cooldown_rounds = 0; max_step = Unlimited; cost_ms = neg f0 }) ≡ 12)
unfolding in_range is_clear lt eq neg of_bits
switches = (refl, refl, refl, refl, refl)
