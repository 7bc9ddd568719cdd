-- The contracts of `switch_settings` leave one outcome each. Assumes nothing.
use mathlib.Core.Bool.{Bool}
use mathlib.Core.Path.{◌≡◌}
use Rattle.refusals.specs.Refusals.{Judgement}
use Rattle.switch_settings.specs.Switch.{is_unconstrained, switch_judged}
use Rattle.switch_settings.specs.declared.SwitchConstraints.{SwitchConstraints}
use Rattle.unique.specs.Only.{OnlyOne}
use Rattle.unique.proofs.Law.{once}

pub switchconstraints_is_unconstrained_once : (self : SwitchConstraints) → OnlyOne (λ (r : Bool). r ≡ is_unconstrained self)
switchconstraints_is_unconstrained_once self x y p q = once p q

pub judge_switch_once : (switch : SwitchConstraints) → OnlyOne (λ (r : Judgement). r ≡ switch_judged switch)
judge_switch_once switch x y p q = once p q
