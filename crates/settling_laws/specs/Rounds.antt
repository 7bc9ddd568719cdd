-- The rounds of a worker among the planner's own calls, and what is presupposed of them. Assumes nothing.
use Rattle.std.specs.Prelude.{◌≡◌, ◌⊎◌, Bool, true, false, ◌&&◌, cond, List, [], ◌∷◌, ℕ, ◌+◌, eqb, length}
use Rattle.std.proofs.Math.Option.{Option, none, some}
use Rattle.switch_settings.specs.Switch.{is_unconstrained}
use Rattle.switch_settings.specs.declared.SwitchConstraints.{SwitchConstraints}
use Rattle.switching.specs.Deciding.{candidates_of}
use Rattle.ledger_workers.specs.Workers.{worker_same}
use Rattle.ledger_laws.specs.Model.{Worker, Switching, record_of}
use Rattle.settings.specs.declared.Policy.{Policy}
use Rattle.settings.specs.declared.Policy.TheVariants.{Fixed, GoodputBudget, GatedBudget, GatedAggregate}
use Rattle.deciding.specs.Deciding.{best_in}
use Rattle.planner.specs.Plan.{curve_of, best}
use Rattle.planner_laws.specs.Calls.{Call, plan, collect, withdraw}
use Rattle.planner_laws.specs.Standing.{Standing, given, step, is_plan, answer_on}
use Rattle.width_way.specs.Way.{is_candidate, stands_still}

-- ---- the rounds

abbrev pub is_aggregate : Policy → Bool
is_aggregate Fixed = false
is_aggregate GoodputBudget = false
is_aggregate GatedBudget = false
is_aggregate GatedAggregate = true

-- an accepted GatedAggregate plan for the worker; a plan of no sequences is empty, and not accepted
abbrev pub is_round : Worker → Call → Standing → Bool
is_round v (plan s a l ds cs) S =
    is_plan (answer_on s a l (length ds) (length cs) (given S.changes)) && (is_aggregate s.policy && worker_same (a.a, a.b) v)
is_round v (collect a b) S = false
is_round v withdraw S = false

-- how many there are among the calls
unfoldable pub rounds_of : Worker → List Call → Standing → ℕ
rounds_of v [] S = 0
rounds_of v (k ∷ ks) S = cond (is_round v k S) 1 0 + rounds_of v ks (step k S)

-- ---- how many of the calls change the worker's width

abbrev pub same_width : Option Switching → Option Switching → Bool
same_width none none = true
same_width none (some t) = false
same_width (some r) none = false
same_width (some r) (some t) = eqb t.width r.width

unfoldable pub switches_of : Worker → List Call → Standing → ℕ
switches_of v [] S = 0
switches_of v (k ∷ ks) S = cond (same_width (record_of v (given S.changes)) (record_of v (given (step k S).changes))) 0 1 + switches_of v ks (step k S)

-- ---- what is presupposed

-- of the settings and the target: the switching is constrained, max_step is missing or at least 1, and the target is a candidate
pub record Moves (c : SwitchConstraints) (candidates : List ℕ) (target : ℕ) : Type 0 where
  pub constrained : is_unconstrained c ≡ false
  pub steps : stands_still c.max_step ≡ false
  pub there : is_candidate candidates target ≡ true

-- or else: max_step is 0, or the target is no candidate
abbrev pub Still : SwitchConstraints → List ℕ → ℕ → Type 0
Still c candidates target = (stands_still c.max_step ≡ true) ⊎ (is_candidate candidates target ≡ false)

-- of a round: its switch settings, its candidates, and its target
abbrev pub AsBefore : SwitchConstraints → List ℕ → ℕ → Call → Type 0
AsBefore c candidates target (plan s a l ds cs) =
    (s.switch ≡ c) × (candidates_of (curve_of s a l) ≡ candidates) × (best_in (best s a l) s a l (curve_of s a l) ≡ target)
AsBefore c candidates target (collect a b) = Unit {0}
AsBefore c candidates target withdraw = Unit {0}

abbrev pub NotBack : Call → Type 0
NotBack (plan s a l ds cs) = Unit {0}
NotBack (collect a b) = Unit {0}
NotBack withdraw = ⊥

-- of the calls: nothing is withdrawn, and every round of the worker is so. Whatever else is called is free
unfoldable pub EachRound : Worker → (Call → Type 0) → List Call → Standing → Type 0
EachRound v P [] S = Unit {0}
EachRound v P (k ∷ ks) S = NotBack k × (is_round v k S ≡ true → P k) × EachRound v P ks (step k S)

abbrev pub Premises : Worker → SwitchConstraints → List ℕ → ℕ → List Call → Standing → Type 0
Premises v c candidates target ks S = EachRound v (AsBefore c candidates target) ks S
