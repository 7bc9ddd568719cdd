-- Each way through the test for settings that take every target. Assumes nothing.
use mathlib.Core.Path.{◌≡◌}
use mathlib.Core.Bool.{false}
use Prim.Native.Nat.{ℕ, ◌≤◌, ◌<◌}
use borrow.Author.Tests.{le-leb, lt-leb}
use lib.Ieee.{eq}
use Rattle.float.specs.Floats.{f0}
use Rattle.switch_settings.specs.declared.SwitchConstraints.{SwitchConstraints}
use Rattle.switch_settings.specs.declared.MaxStep.TheVariants.{Unlimited, AtMost}
use Rattle.switch_settings.specs.Switch.{is_unconstrained}

module _ (s : SwitchConstraints) where
  pub constrained_rounds : 1 < s.cooldown_rounds → false ≡ is_unconstrained s
  constrained_rounds h = rw (lt-leb s.cooldown_rounds 1 h)

  pub unlimited : s.cooldown_rounds ≤ 1 → s.max_step ≡ Unlimited → eq s.cost_ms f0 ≡ is_unconstrained s
  unlimited h e = rw (le-leb s.cooldown_rounds 1 h, e)

  pub limited : (d : ℕ) → s.cooldown_rounds ≤ 1 → s.max_step ≡ AtMost d → false ≡ is_unconstrained s
  limited d h e = rw (le-leb s.cooldown_rounds 1 h, e)
