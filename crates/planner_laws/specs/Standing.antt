-- What stands by the rules after calls: the accepted plans and the collections, each with its inputs as lent, the newest first; what they give when worked
-- out afresh; and what the next plan answers. Assumes nothing.
use Rattle.std.specs.Prelude.{Bool, true, false, cond, List, [], ◌∷◌, ◌++◌, ℕ, zero, suc, ◌+◌, ◌-◌, min, ltb, eqb, length, drop}
use Rattle.std.proofs.Math.Option.{Option}
use Rattle.std.specs.Float.{binary64}
use Rattle.std.specs.Float.Ieee.{to_bits}
use Rattle.refusals.specs.Refusals.{first_of}
use Rattle.numeral.specs.Moment.{second_of}
use Rattle.switching.specs.declared.Switching.{Switching as Decision}
use Rattle.ledger_rows.specs.Map.{is_held}
use Rattle.ledger_rows.specs.Layout.{room, changes_most}
use Rattle.ledger_laws.specs.Model.{Worker, Switching, Plan as Step, Change, planned, decided, cleared, record_of, step_rule, worker_rule, Standing as Ledger, Call as LedgerCall, plan as plainly, decide, collect as collecting, back}
use Rattle.ledger_laws.specs.Encode.{past_from}
use Rattle.settings.specs.declared.Settings.{Settings}
use Rattle.settings.specs.Settings.{settings_refusal}
use Rattle.rounds.specs.declared.drawing.Drawn.{Drawn}
use Rattle.rounds.specs.declared.drawing.Drawn.TheVariants.{Used, Refused as NotDrawn}
use Rattle.asked_rooms.specs.declared.Ask.{Ask}
use Rattle.asking.specs.Asked.{Lent, lengths_of, values_refusal}
use Rattle.asked_rooms.specs.Sizes.{sizes_refusal}
use Rattle.asked_rooms.specs.Rooms.{rooms_refusal}
use Rattle.deciding.specs.Deciding.{Decided, toward, best_in, decided_by}
use Rattle.judged_plans.specs.declared.Planned.{Planned}
use Rattle.judged_plans.specs.declared.Planned.TheVariants.{Plan, Empty, Refused}
use Rattle.planning.specs.Acting.{step_of}
use Rattle.planner.specs.Plan.{curve_of, drawn, drawn_refusal, signals_refusal, best, is_put}
use Rattle.planner_laws.specs.Calls.{Call, plan, collect, withdraw}

-- ---- the change that a plan makes, where its worker's record is `o`

-- a record as it is held, its stall by its bits
abbrev pub kept_as : Decision → Switching
kept_as r = record { width = r.width; rounds = r.rounds; stall = to_bits binary64 r.stall }

-- a plan's answer: the draws used, and the slots weighed
abbrev pub plan_answer : Drawn → ℕ → Planned
plan_answer (Used used) weighed = Plan used weighed
plan_answer (NotDrawn number) weighed = Refused number

module _ (s : Settings) (a : Ask) (l : Lent) where
  abbrev pub worker_in : Worker
  worker_in = (a.a, a.b)

  -- the drafts, the slots weighed and the new record
  abbrev pub decision_on : Option Switching → Decided
  decision_on o = decided_by (best s a l) s a l (curve_of s a l) s.policy (past_from o)

  -- what is added at the second in which its step ends: the drafts, the sequences, and what the commits that are drawn accept
  abbrev pub step_on : Option Switching → Step
  step_on o = step_of a (decision_on o).drafts (drawn s a l).commits

  -- what switching makes of the worker's record
  abbrev pub new_record : Option Switching → Switching
  new_record o = kept_as (toward s.switch (curve_of s a l) (best_in (best s a l) s a l (curve_of s a l)) (past_from o))

  -- only a plan that uses its worker's record changes it
  unfoldable pub change_on : Option Switching → Change
  change_on o = cond (is_put s a l s.policy) (decided (step_on o) worker_in new_record) (planned (step_on o))

  -- ---- what it answers, where the changes `cs` stand, and there is room for so many drafts and commits
  module _ (drafts commits : ℕ) (cs : List Change) where
    -- 11, 16, 15; 13 or 14; 15 of the signals; 17; 18 or 19; 0 for none
    unfoldable pub refusal_on : ℕ
    refusal_on =
        first_of (first_of (sizes_refusal s.model s.gamma a.sequences a.depth a.rounds a.source a.rows) (first_of (rooms_refusal s a (lengths_of l room drafts commits)) (values_refusal s a l (past_from (record_of worker_in cs)))))
        (first_of (drawn_refusal s a l (drawn s a l).answer) (first_of (signals_refusal s a l)
        (first_of (cond (is_put s a l s.policy) (worker_rule worker_in cs) 0) (step_rule (second_of a.end) cs))))

    abbrev pub answer_unless : ℕ → Planned → Planned
    answer_unless zero answer = answer
    answer_unless (suc number) answer = Refused (suc number)

    -- 12; no sequences: an empty plan; then the others; else the draws used and the slots weighed
    unfoldable pub answer_on : Planned
    answer_on =
        answer_unless (settings_refusal s l.positions)
        (cond (eqb a.sequences 0) Empty
        (answer_unless refusal_on (plan_answer (drawn s a l).answer (decision_on (record_of worker_in cs)).weighed)))

abbrev pub is_plan : Planned → Bool
is_plan (Plan used weighed) = true
is_plan Empty = false
is_plan (Refused number) = false

-- ---- what stands

-- the calls that stand as changes, and the withdrawals available
pub record Standing : Type 0 where
  pub changes : List Call
  pub left : ℕ

abbrev pub nothing_stands : Standing
nothing_stands = record { changes = []; left = 0 }

-- what they give, worked out afresh: each plan decides with the record that the changes before it give its worker
unfoldable pub given : List Call → List Change
given [] = []
given (plan s a l ds cs ∷ ks) = change_on s a l (record_of (a.a, a.b) (given ks)) ∷ given ks
given (collect a b ∷ ks) = cleared (a, b) ∷ given ks
given (withdraw ∷ ks) = given ks

-- as the ledger's rules have it
abbrev pub ledger_of : Standing → Ledger
ledger_of s = record { changes = given s.changes; left = s.left }

-- ---- the calls: an accepted plan of at least one sequence is a change, and so is a collection from a known worker; a withdrawal takes the newest

abbrev pub stands : Call → Standing → Standing
stands k s = record { changes = k ∷ s.changes; left = min (s.left + 1) changes_most }

unfoldable pub step : Call → Standing → Standing
step (plan s a l ds cs) S = cond (is_plan (answer_on s a l (length ds) (length cs) (given S.changes))) (stands (plan s a l ds cs) S) S
step (collect a b) S = cond (is_held (record_of (a, b) (given S.changes))) (stands (collect a b) S) S
step withdraw S = cond (ltb 0 S.left) (record { changes = drop 1 S.changes; left = S.left - 1 }) S

unfoldable pub after : List Call → Standing → Standing
after [] s = s
after (k ∷ ks) s = after ks (step k s)

-- ---- as calls of the ledger's rules: an accepted plan is a plan of no worker or a decision, and one that is refused or empty is none

unfoldable pub ledger_call : Settings → Ask → Lent → Option Switching → LedgerCall
ledger_call s a l o = cond (is_put s a l s.policy) (decide (step_on s a l o) (worker_in s a l) (new_record s a l)) (plainly (step_on s a l o))

unfoldable pub ledger_calls : Call → Standing → List LedgerCall
ledger_calls (plan s a l ds cs) S =
    cond (is_plan (answer_on s a l (length ds) (length cs) (given S.changes))) (ledger_call s a l (record_of (a.a, a.b) (given S.changes)) ∷ []) []
ledger_calls (collect a b) S = collecting (a, b) ∷ []
ledger_calls withdraw S = back ∷ []

unfoldable pub all_ledger_calls : List Call → Standing → List LedgerCall
all_ledger_calls [] S = []
all_ledger_calls (k ∷ ks) S = ledger_calls k S ++ all_ledger_calls ks (step k S)

-- the calls that stand, in the order in which they were made
unfoldable pub oldest_first : List Call → List Call
oldest_first [] = []
oldest_first (k ∷ ks) = oldest_first ks ++ (k ∷ [])
