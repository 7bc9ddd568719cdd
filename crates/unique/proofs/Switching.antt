-- The contracts of `switching` leave one outcome each. Assumes nothing.
use mathlib.Core.List.{List}
use mathlib.Core.Path.{◌≡◌}
use Prim.Native.Nat.{ℕ}
use lib.Ieee.{Float}
use Rattle.refusals.specs.Refusals.{Judgement}
use Rattle.switch_settings.specs.declared.SwitchConstraints.{SwitchConstraints}
use Rattle.switching.specs.Deciding.{collection, decision, first_decision, record_judged}
use Rattle.switching.specs.declared.Collected.{Collected}
use Rattle.switching.specs.declared.Decided.{Decided}
use Rattle.switching.specs.declared.Switching.{Switching}
use Rattle.unique.specs.Only.{OnlyOne}
use Rattle.unique.proofs.Law.{once}

pub judge_record_once : (held : Switching) → OnlyOne (λ (r : Judgement). r ≡ record_judged held)
judge_record_once held x y p q = once p q

pub first_once : (target : ℕ) → OnlyOne (λ (d : Decided). d ≡ first_decision target)
first_once target x y p q = once p q

pub decide_once : (held : Switching) (curve : List Float) (target : ℕ) (constraints : SwitchConstraints) → OnlyOne (λ (d : Decided). d ≡ decision held curve target constraints)
decide_once held curve target constraints x y p q = once p q

pub collect_once : (held : Switching) → OnlyOne (λ (d : Collected). d ≡ collection held)
collect_once held x y p q = once p q
