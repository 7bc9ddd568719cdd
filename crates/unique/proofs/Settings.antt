-- The contracts of `settings` leave one outcome each. Assumes nothing.
use mathlib.Core.Path.{◌≡◌}
use mathlib.Core.List.{List}
use Prim.Native.Nat.{ℕ}
use lib.Ieee.{Float}
use Rattle.settings.specs.declared.Settings.{Settings}
use Rattle.refusals.specs.Refusals.{Judgement}
use Rattle.settings.specs.Settings.{settings_judged, gamma_in}
use Rattle.unique.specs.Only.{OnlyOne}
use Rattle.unique.proofs.Law.{once}

pub judge_settings_once : (settings : Settings) (positions : List Float) → OnlyOne (λ (r : Judgement). r ≡ settings_judged settings positions)
judge_settings_once settings positions x y p q = once p q

pub gamma_in_once : (settings : Settings) (depth : ℕ) → OnlyOne (λ (r : ℕ). r ≡ gamma_in settings depth)
gamma_in_once settings depth x y p q = once p q
