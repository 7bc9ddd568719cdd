-- WHAT IS REFUSED IS NOT WRITTEN, on any content of the storage and whatever is lent: a refused plan and an empty one leave the storage, the drafts and the
-- commits as they were. Assumes nothing.
use mathlib.Core.Path.{◌≡◌, refl}
use mathlib.Core.Bool.{Bool, true, false, cond}
use mathlib.Core.List.{List}
use Prim.Native.Nat.{ℕ, zero, suc}
use native.Mathlib.Omega.{arith}
use lib.Dec.{eqb}
use Rattle.ledger_workers.specs.Workers.{past_of}
use Rattle.settings.specs.Settings.{settings_refusal}
use Rattle.settings.specs.declared.Settings.{Settings}
use Rattle.asked_rooms.specs.declared.Ask.{Ask}
use Rattle.asking.specs.Asked.{Lent}
use Rattle.rounds.specs.declared.drawing.Drawn.{Drawn}
use Rattle.rounds.specs.declared.drawing.Drawn.TheVariants.{Used, Refused as NotDrawn}
use Rattle.deciding.specs.Deciding.{Decided, decided_by}
use Rattle.judged_plans.specs.declared.Planned.{Planned}
use Rattle.judged_plans.specs.declared.Planned.TheVariants.{Plan, Empty, Refused}
use Rattle.planner.specs.Plan.{Left, curve_of, drawn, best, plan_refusal, made, unless_refused, nothing_planned, planned}

-- all that is lent to be written is as it was
pub record Untouched (left : Left) (ws ds cs : List ℕ) : Type 0 where
  pub storage_is : left.storage ≡ ws
  pub drafts_are : left.drafts ≡ ds
  pub commits_are : left.commits ≡ cs

-- an answer that is no plan
abbrev NoPlan : Planned → Type 0
NoPlan answer = (used weighed : ℕ) → Plan used weighed ≡ answer → ⊥

refused_no_plan : (k : ℕ) → NoPlan (Refused k)
refused_no_plan k used weighed e = let z : ◌≡◌ {A = ℕ} 0 1 = cc in omega arith

empty_no_plan : NoPlan Empty
empty_no_plan used weighed e = let z : ◌≡◌ {A = ℕ} 0 1 = cc in omega arith

module _ (s : Settings) (a : Ask) (l : Lent) (ws ds cs : List ℕ) (answer : Planned) (none : NoPlan answer) where
  abbrev Leaves : Left → Type 0
  Leaves left = left.answer ≡ answer → Untouched left ws ds cs

  as_lent : (other : Planned) → Leaves (record { answer = other; storage = ws; drafts = ds; commits = cs })
  as_lent other e = record { storage_is = refl; drafts_are = refl; commits_are = refl }

  unless_leaves : (n : ℕ) (left : Left) → Leaves left → Leaves (unless_refused s a l ws ds cs n left)
  unless_leaves zero left h = h
  unless_leaves (suc n) left h = as_lent (Refused (suc n))

  either_leaves : (b : Bool) (x y : Left) → Leaves x → Leaves y → Leaves (cond b x y)
  either_leaves true x y p q = p
  either_leaves false x y p q = q

  made_leaves : (drawn : Drawn) (d : Decided) → Leaves (made s a l ws ds cs drawn d)
  unfolding made
  made_leaves (NotDrawn number) d = as_lent (Refused number)
  made_leaves (Used used) d = λ e. absurd (none used d.weighed e)

  planned_leaves : Leaves (planned s a l ws ds cs)
  unfolding planned
  planned_leaves =
      let d : Decided = decided_by (best s a l) s a l (curve_of s a l) s.policy (past_of ws a.a a.b) in
      let m : Left = made s a l ws ds cs (drawn s a l).answer d in
      let u : Left = unless_refused s a l ws ds cs (plan_refusal s a l ws ds cs) m in
      unless_leaves (settings_refusal s l.positions) (cond (eqb a.sequences 0) (nothing_planned s a l ws ds cs) u)
      (either_leaves (eqb a.sequences 0) (nothing_planned s a l ws ds cs) u (as_lent Empty) (unless_leaves (plan_refusal s a l ws ds cs) m (made_leaves (drawn s a l).answer d)))

module _ (s : Settings) (a : Ask) (l : Lent) (ws ds cs : List ℕ) where
  pub plan_refused : (k : ℕ) → (planned s a l ws ds cs).answer ≡ Refused k → Untouched (planned s a l ws ds cs) ws ds cs
  plan_refused k e = planned_leaves s a l ws ds cs (Refused k) (refused_no_plan k) e

  pub plan_empty : (planned s a l ws ds cs).answer ≡ Empty → Untouched (planned s a l ws ds cs) ws ds cs
  plan_empty e = planned_leaves s a l ws ds cs Empty empty_no_plan e
