-- The contracts of `switching_lent` leave one outcome each. Assumes nothing.
use mathlib.Core.List.{List}
use mathlib.Core.Path.{◌≡◌}
use Prim.Native.Nat.{ℕ}
use lib.Ieee.{Float}
use Rattle.std.specs.Prelude.{Result}
use Rattle.refusals.specs.declared.Refusal.{Refusal}
use Rattle.switch_settings.specs.declared.SwitchConstraints.{SwitchConstraints}
use Rattle.switching.specs.Deciding.{collection, decision}
use Rattle.switching.specs.declared.Collected.{Collected}
use Rattle.switching.specs.declared.Decided.{Decided}
use Rattle.switching.specs.declared.Switching.{Switching}
use Rattle.unique.specs.Only.{OnlyOne, OnlyTwo}
use Rattle.unique.proofs.Law.{once, two_once}

pub decide_lent_once : (r : Switching) (curve : List Float) (target : ℕ) (constraints : SwitchConstraints) → OnlyTwo (λ (a : Result ℕ Refusal) (r' : Switching). record { answer = a; kept = r' } ≡ decision r curve target constraints)
decide_lent_once r curve target constraints x b y c p q = two_once (λ (o : Decided). o.answer) (λ (o : Decided). o.kept) p q

pub collect_lent_once : (r : Switching) → OnlyTwo (λ (a : Result Float Refusal) (r' : Switching). record { answer = a; kept = r' } ≡ collection r)
collect_lent_once r x b y c p q = two_once (λ (o : Collected). o.answer) (λ (o : Collected). o.kept) p q

pub lend_and_decide_once : (given : Switching) (curve : List Float) (target : ℕ) (constraints : SwitchConstraints) → OnlyOne (λ (d : Decided). d ≡ decision given curve target constraints)
lend_and_decide_once given curve target constraints x y p q = once p q

pub lend_and_collect_once : (given : Switching) → OnlyOne (λ (d : Collected). d ≡ collection given)
lend_and_collect_once given x y p q = once p q
