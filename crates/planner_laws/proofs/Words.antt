-- A plan on words that hold what stands: it answers by the rules, and an accepted one leaves the words of what then stands. Assumes nothing.
use mathlib.Core.Path.{◌≡◌, refl, sym, ap, ◌∙◌}
use mathlib.Core.Bool.{Bool, true, false, ◌&&◌, cond}
use mathlib.Core.List.{List, ◌∷◌, ◌++◌}
use mathlib.Core.Option.{Option}
use Prim.Native.Nat.{ℕ, zero, suc, ◌+◌, ◌≤◌, min}
use native.Mathlib.Omega.{arith}
use borrow.Author.Tests.{le-leb}
use lib.Dec.{leb, eqb}
use lib.ListN.{length, drop}
use Rattle.numeral.specs.Moment.{second_of}
use Rattle.acceptance.specs.declared.AcceptanceModel.{AcceptanceModel}
use Rattle.acceptance.specs.declared.AcceptanceModel.TheVariants.{Constant, PerPosition, Trace}
use Rattle.speculative.specs.declared.drafter.DrafterCost.{DrafterCost}
use Rattle.speculative.specs.declared.drafter.DrafterCost.TheVariants.{Fraction, Autoregressive, BlockParallel}
use Rattle.goodput.specs.declared.curve.Source.{Source}
use Rattle.goodput.specs.declared.curve.Source.TheVariants.{Roofline, Table}
use Rattle.switch_settings.specs.Switch.{is_unconstrained}
use Rattle.ledger_rows.specs.Layout.{room, changes_most}
use Rattle.ledger_rows.proofs.Tests.{by_test}
use Rattle.refusals.specs.Refusals.{Judgement}
use Rattle.ledger.specs.declared.answer.Decision.TheVariants.{Nothing, Put}
use Rattle.ledger.specs.Calls.{recorded}
use Rattle.ledger_laws.specs.Model.{Worker, Switching, Change, planned as plain, decided, record_of, step_rule, worker_rule, Standing as Ledger, step as ruled, refusal, plan as plainly, decide}
use Rattle.ledger_laws.specs.Encode.{past_from, encode}
use Rattle.ledger_laws.specs.Run.{record_from, record_in}
use Rattle.ledger_laws.proofs.Forth.{Reached, wide_enough, by_rule, by_worker_rule, record_read, plan_made, decide_made, read_back}
use Rattle.planner_laws.proofs.Asked.{asked_by_number}
use Rattle.settings.specs.declared.Policy.{Policy}
use Rattle.settings.specs.declared.Policy.TheVariants.{Fixed, GoodputBudget, GatedBudget, GatedAggregate}
use Rattle.settings.specs.declared.Settings.{Settings}
use Rattle.settings.specs.Settings.{settings_refusal, gamma_in}
use Rattle.rounds.specs.declared.drawing.Drawn.{Drawn}
use Rattle.rounds.specs.declared.drawing.Drawn.TheVariants.{Used, Refused as NotDrawn}
use Rattle.asked_rooms.specs.declared.Ask.{Ask}
use Rattle.asked_rooms.specs.declared.Lengths.{Lengths}
use Rattle.asking.specs.Asked.{Lent, lengths_of, asked_judged, asked_refusal}
use Rattle.asked_rooms.specs.Rooms.{price_rooms, loaded_room, signal_rooms, bank_rooms, rooms_judged, rooms_refusal}
use Rattle.deciding.specs.Deciding.{Decided, decided_by}
use Rattle.judged_plans.specs.declared.Planned.{Planned}
use Rattle.judged_plans.specs.declared.Planned.TheVariants.{Empty}
use Rattle.planning.specs.Acting.{step_of}
use Rattle.planner.specs.Plan.{Left, curve_of, drawn, best, is_put, plan_refusal, made, unless_refused, nothing_planned, planned}
use Rattle.planner_laws.specs.Standing.{plan_answer, worker_in, decision_on, step_on, new_record, change_on, refusal_on, answer_unless, answer_on, is_plan}
use Rattle.planner_laws.proofs.Accepted.{Passed}
use Rattle.planner_laws.proofs.Drafts.{step_small}

-- ---- the storage has its room, however long it is

module _ (s : Settings) (a : Ask) (l : Lent) (n m drafts commits : ℕ) where
  abbrev one : Lengths
  one = lengths_of l n drafts commits

  abbrev other : Lengths
  other = lengths_of l m drafts commits

  price_same : (source : Source) (gamma rows : ℕ) → price_rooms source gamma rows one ≡ price_rooms source gamma rows other
  price_same Roofline gamma rows = refl
  price_same Table gamma rows = refl

  loaded_same : (kind : DrafterCost) (k : ℕ) → loaded_room kind k one ≡ loaded_room kind k other
  loaded_same (Fraction frac) k = refl
  loaded_same (Autoregressive dense expert experts each shared) k = refl
  loaded_same (BlockParallel params block) k = refl

  signal_same : (policy : Policy) (gamma depth rounds : ℕ) → signal_rooms policy gamma depth rounds one ≡ signal_rooms policy gamma depth rounds other
  signal_same Fixed gamma depth rounds = refl
  signal_same GoodputBudget gamma depth rounds = refl
  signal_same GatedBudget gamma depth rounds = refl
  signal_same GatedAggregate gamma depth rounds = refl

  bank_same : (model : AcceptanceModel) (policy : Policy) (gamma depth rounds : ℕ) → bank_rooms model policy gamma depth rounds one ≡ bank_rooms model policy gamma depth rounds other
  bank_same (Constant alpha) policy gamma depth rounds = refl
  bank_same PerPosition policy gamma depth rounds = refl
  bank_same Trace policy gamma depth rounds = ap (λ (b : Bool). leb rounds (length l.bank_commits_of) && b) (signal_same policy gamma depth rounds)

  rooms_same : room ≤ n → room ≤ m → rooms_refusal s a one ≡ rooms_refusal s a other
  unfolding rooms_judged
  rooms_same h k =
      let g : ℕ = gamma_in s a.depth in
      let own : leb room n ≡ leb room m = le-leb room n h ∙ sym (le-leb room m k) in
      cc (own, price_same a.source g a.rows, loaded_same s.drafter a.sequences, bank_same s.model s.policy g a.depth a.rounds)

-- ---- what a plan leaves, by the refusal of its inputs and its decision

module _ (s : Settings) (a : Ask) (l : Lent) (ws ds cs : List ℕ) where
  abbrev left_by : ℕ → Bool → ℕ → Drawn → Decided → Left
  left_by first empty second draws d =
      unless_refused s a l ws ds cs first (cond empty (nothing_planned s a l ws ds cs) (unless_refused s a l ws ds cs second (made s a l ws ds cs draws d)))

  module _ (drafts commits : ℕ) (stood : List Change) where
    abbrev answer_by : ℕ → Bool → ℕ → Drawn → Decided → Planned
    answer_by first empty second draws d =
        answer_unless s a l drafts commits stood first (cond empty Empty (answer_unless s a l drafts commits stood second (plan_answer draws d.weighed)))

    parts : (first : ℕ) (empty : Bool) (second : ℕ) (draws : Drawn) (d : Decided) → left_by first empty second draws d ≡ record {
      answer = answer_by first empty second draws d;
      storage = cond (is_plan (answer_by first empty second draws d)) (recorded ws (step_of a d.drafts (drawn s a l).commits) d.change).1 ws;
      drafts = cond (is_plan (answer_by first empty second draws d)) (d.drafts ++ drop a.sequences ds) ds;
      commits = cond (is_plan (answer_by first empty second draws d)) ((drawn s a l).commits ++ drop a.sequences cs) cs;
    }
    unfolding made
    parts (suc first) empty second draws d = refl
    parts zero true second draws d = refl
    parts zero false (suc second) draws d = refl
    parts zero false zero (Used used) d = refl
    parts zero false zero (NotDrawn number) d = refl

-- ---- on words that hold what stands

module _ (s : Settings) (a : Ask) (l : Lent) (S : Ledger) (rest : List ℕ) (r : Reached S) where
  abbrev E : List ℕ
  E = encode S rest

  abbrev w : Worker
  w = worker_in s a l

  abbrev o : Option Switching
  o = record_of w S.changes

  module _ (ds cs : List ℕ) where
    refusal_is : plan_refusal s a l E ds cs ≡ refusal_on s a l (length ds) (length cs) S.changes
    unfolding plan_refusal refusal_on
    refusal_is = rw (
      asked_by_number s a l E (length ds) (length cs),
      rooms_same s a l (length E) room (length ds) (length cs) (wide_enough S rest) (omega arith),
      record_read S rest r w,
      by_worker_rule S rest r w,
      by_rule S rest r (second_of a.end),
    )

    -- the answer, the drafts and the commits are those of the rules; only an accepted plan changes anything
    pub plan_by_rules : planned s a l E ds cs ≡ record {
      answer = answer_on s a l (length ds) (length cs) S.changes;
      storage = cond (is_plan (answer_on s a l (length ds) (length cs) S.changes)) (recorded E (step_on s a l o) (decision_on s a l o).change).1 E;
      drafts = cond (is_plan (answer_on s a l (length ds) (length cs) S.changes)) ((decision_on s a l o).drafts ++ drop a.sequences ds) ds;
      commits = cond (is_plan (answer_on s a l (length ds) (length cs) S.changes)) ((drawn s a l).commits ++ drop a.sequences cs) cs;
    }
    unfolding planned answer_on
    plan_by_rules = rw (refusal_is, record_read S rest r w)
        (parts s a l E ds cs (length ds) (length cs) S.changes (settings_refusal s l.positions) (eqb a.sequences 0) (refusal_on s a l (length ds) (length cs) S.changes) (drawn s a l).answer (decision_on s a l o))

  record_in_lem : record_in E w ≡ o
  unfolding record_in
  record_in_lem = ap record_from (record_read S rest r w) ∙ read_back o

  -- the record is put where the plan uses it
  change_by : (policy : Policy) → (decided_by (best s a l) s a l (curve_of s a l) policy (past_from o)).change
      ≡ cond (is_put s a l policy) (Put a.a a.b (new_record s a l o).width (new_record s a l o).rounds (new_record s a l o).stall) Nothing
  unfolding decided_by
  change_by Fixed = refl
  change_by GoodputBudget = refl
  change_by GatedBudget = refl
  change_by GatedAggregate = by_test (is_unconstrained s.switch) (λ q. rw q) (λ q. rw q)

  decide_steps : worker_rule w S.changes ≡ 0 → step_rule (second_of a.end) S.changes ≡ 0 → encode (ruled (decide (step_on s a l o) w (new_record s a l)) S) rest
      ≡ encode (record { changes = decided (step_on s a l o) w (new_record s a l) ∷ S.changes; left = min (S.left + 1) changes_most }) rest
  unfolding ruled refusal
  decide_steps worker step = rw (worker, step)

  plan_steps : step_rule (second_of a.end) S.changes ≡ 0
      → encode (ruled (plainly (step_on s a l o)) S) rest ≡ encode (record { changes = plain (step_on s a l o) ∷ S.changes; left = min (S.left + 1) changes_most }) rest
  unfolding ruled refusal
  plan_steps step = rw step

  -- the words after an accepted plan
  pub plan_stands : Passed s a l S.changes
      → (recorded E (step_on s a l o) (decision_on s a l o).change).1
      ≡ encode (record { changes = change_on s a l o ∷ S.changes; left = min (S.left + 1) changes_most }) rest
  unfolding change_on
  plan_stands h = rw (change_by s.policy) (by_test (is_put s a l s.policy)
      (λ q. let worker : worker_rule w S.changes ≡ 0 = rw q at h.worker_passes in
      rw q (rw record_in_lem at (ap (λ (x : Judgement × List ℕ). x.1) (decide_made (step_on s a l o) w (new_record s a l) S rest (step_small s a l S.changes h) r)) ∙ decide_steps worker h.step_passes))
      (λ q. rw q (ap (λ (x : Judgement × List ℕ). x.1) (plan_made (step_on s a l o) S rest (step_small s a l S.changes h) r) ∙ plan_steps h.step_passes)))
