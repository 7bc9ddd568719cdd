-- A plan: what it answers, and what it leaves. Assumes nothing.
use Rattle.std.specs.Prelude.{ℕ, zero, suc, cond, List, ◌++◌, eqb, length, drop}
use Rattle.refusals.specs.Refusals.{first_of}
use Rattle.numeral.specs.Moment.{second_of}
use Rattle.ledger_workers.specs.Workers.{past_of}
use Rattle.ledger.specs.Calls.{step_judged, worker_judged, recorded}
use Rattle.settings.specs.declared.Settings.{Settings}
use Rattle.settings.specs.Settings.{settings_refusal}
use Rattle.rounds.specs.declared.drawing.Drawn.{Drawn}
use Rattle.rounds.specs.declared.drawing.Drawn.TheVariants.{Used, Refused as NotDrawn}
use Rattle.asked_rooms.specs.declared.Ask.{Ask}
use Rattle.asking.specs.Asked.{Lent, asked_refusal}
use Rattle.deciding.specs.Deciding.{Decided, decided_by}
use Rattle.plan_draws.specs.Draws.{drawn, drawn_refusal}
use Rattle.planning.specs.Steps.{curve_of, signals_refusal, best, is_put}
use Rattle.planning.specs.Acting.{step_of}
use Rattle.judged_plans.specs.declared.Planned.{Planned}
use Rattle.judged_plans.specs.declared.Planned.TheVariants.{Plan, Empty, Refused}

-- the answer, and what is lent to be written, at exit
pub record Left : Type 0 where
  pub answer : Planned
  pub storage : List ℕ
  pub drafts : List ℕ
  pub commits : List ℕ

-- the storage, the drafts and the commits as lent
module _ (s : Settings) (a : Ask) (l : Lent) (ws ds cs : List ℕ) where
  -- 17; then 18 or 19
  abbrev pub held_refusal : ℕ
  held_refusal = first_of (cond (is_put s a l s.policy) (worker_judged ws a.a a.b) 0) (step_judged ws (second_of a.end))

  -- the first refusal of a plan of at least one sequence
  unfoldable pub plan_refusal : ℕ
  plan_refusal = first_of (asked_refusal s a l ws (length ds) (length cs)) (first_of (drawn_refusal s a l (drawn s a l).answer) (first_of (signals_refusal s a l) held_refusal))

  -- the worker's record, the step and the change are in the storage; drafts and commits stand at the fronts
  unfoldable pub made : Drawn → Decided → Left
  made (NotDrawn number) d = record { answer = Refused number; storage = ws; drafts = ds; commits = cs }
  made (Used used) d = record {
    answer = Plan used d.weighed;
    storage = (recorded ws (step_of a d.drafts (drawn s a l).commits) d.change).1;
    drafts = d.drafts ++ drop a.sequences ds;
    commits = (drawn s a l).commits ++ drop a.sequences cs;
  }

  abbrev pub unless_refused : ℕ → Left → Left
  unless_refused zero left = left
  unless_refused (suc number) left = record { answer = Refused (suc number); storage = ws; drafts = ds; commits = cs }

  abbrev pub nothing_planned : Left
  nothing_planned = record { answer = Empty; storage = ws; drafts = ds; commits = cs }

  -- a plan of at least one sequence
  abbrev pub some_planned : Left
  some_planned = unless_refused plan_refusal (made (drawn s a l).answer (decided_by (best s a l) s a l (curve_of s a l) s.policy (past_of ws a.a a.b)))

  -- 12; no sequences: an empty plan, which changes nothing; then the other refusals; else the plan
  unfoldable pub planned : Left
  planned = unless_refused (settings_refusal s l.positions) (cond (eqb a.sequences 0) nothing_planned some_planned)
