-- The rules' run of 256 workers: each is taken, and a 257th is refused 17, on any storage with room. Assumes nothing.
use mathlib.Core.Path.{◌≡◌, refl, ap, ◌∙◌}
use mathlib.Core.Bool.{true}
use mathlib.Core.List.{List, [], ◌∷◌}
use mathlib.Core.Option.{none}
use Prim.Native.Nat.{ℕ, zero, suc, ◌≤◌, ◌<◌}
use native.Mathlib.Omega.{arith}
use borrow.Author.Tests.{eq-eqb, ne_eqb, lt-ltb, le-ltb}
use lib.Ieee.{of_bits, lt, eq, neg, is_nan}
use lib.ListN.{length}
use Rattle.float.specs.Floats.{f0, f1, is_finite, is_clear}
use Rattle.float.specs.Range.{in_range, in_range_or_infinite, in_signed_range}
use Rattle.refusals.specs.Refusals.{first_of}
use Rattle.numeral.specs.Moment.{second_of}
use Rattle.acceptance.specs.Acceptance.{model_judged, model_refusal, sampled}
use Rattle.acceptance.specs.declared.AcceptanceModel.TheVariants.{Constant}
use Rattle.speculative.specs.Drafter.{absent, drafter_judged, drafter_refusal, rates_judged, rates_refusal}
use Rattle.chains.specs.Tests.{all_of, is_price}
use Rattle.goodput.specs.declared.curve.Source.TheVariants.{Roofline}
use Rattle.switch_settings.specs.declared.MaxStep.TheVariants.{Unlimited}
use Rattle.ledger_rows.specs.Layout.{room, workers_most, steps_most}
use Rattle.ledger.specs.Calls.{emptied}
use Rattle.ledger_laws.specs.Encode.{past_from}
use Rattle.ledger_laws.specs.Model.{Change, counted, sums_at, record_of, seconds_of, workers_of, step_rule, worker_rule}
use Rattle.verify_prices.specs.declared.PriceMode.TheVariants.{Default}
use Rattle.refusals.proofs.First.{passed_is_zero}
use Rattle.settings.specs.declared.Policy.TheVariants.{GatedAggregate}
use Rattle.settings.specs.declared.Settings.{Settings}
use Rattle.settings.specs.Settings.{settings_judged, settings_refusal}
use Rattle.rounds.specs.Drawing.{analytic}
use Rattle.rounds.specs.declared.drawing.Drawn.TheVariants.{Used}
use Rattle.asked_rooms.specs.declared.Ask.{Ask}
use Rattle.asking.specs.Asked.{Lent, lengths_of, values_judged, values_refusal}
use Rattle.asked_rooms.specs.Sizes.{sizes_judged, sizes_refusal}
use Rattle.asked_rooms.specs.Rooms.{rooms_judged, rooms_refusal}
use Rattle.deciding.specs.Deciding.{decided_by}
use Rattle.judged_plans.specs.declared.Planned.TheVariants.{Plan, Refused}
use Rattle.judged_plans.specs.declared.Planned.{Planned}
use Rattle.planner.specs.Plan.{drawn_by, drawn, signals_refusal, planned}
use Rattle.planner_laws.specs.Calls.{Call, plan, run}
use Rattle.planner_laws.specs.Standing.{decision_on, change_on, answer_on, refusal_on, is_plan, Standing, nothing_stands, given, after, oldest_first}
use Rattle.planner_laws.proofs.Theorem.{Lawful}
use Rattle.planner_laws.proofs.Anew.{stand_again}
use Rattle.planner_laws.proofs.Answers.{plan_answers}
use Rattle.planner_laws.proofs.Examples.{half, moment}

-- one best depth, passed through a switching that waits two rounds: it keeps a record for each worker
abbrev pub settings : Settings
settings = record { gamma = 0; model = Constant half; policy = GatedAggregate; switch = record { cooldown_rounds = 2; max_step = Unlimited; cost_ms = f0 }; drafter = absent; prices = Default }

-- one sequence of worker (0, i)
abbrev pub ask : ℕ → Ask
ask i = record { a = 0; b = i; sequences = 1; end = moment; rates = record { peak = f1; bw = f1; kv_delta = f0 }; source = Roofline; rows = 0; depth = 0; rounds = 0 }

abbrev pub lent : Lent
lent = record { positions = []; roofline = f1 ∷ []; depths = []; batches = []; seconds = []; loaded = []; bank_commits_of = []; signals = []; bank_curve_of = []; draws = []; indices = [] }

-- a plan of each of the workers 0 to n - 1, the newest first
unfoldable pub crowd : ℕ → List Call
crowd zero = []
crowd (suc n) = plan settings (ask n) lent (0 ∷ []) (0 ∷ []) ∷ crowd n

-- ---- a worker that has no record: nothing else is refused

settings_fine : settings_refusal settings [] ≡ 0
unfolding settings_judged model_judged drafter_judged in_range is_clear lt eq of_bits
settings_fine = refl

rates_fine : (i : ℕ) → rates_refusal (ask i).rates ≡ 0
unfolding rates_judged in_range in_signed_range is_clear is_finite is_nan lt eq neg of_bits
rates_fine i = refl

prices_fine : all_of is_price (f1 ∷ []) ≡ true
unfolding all_of in_range_or_infinite in_range is_clear is_finite is_nan lt eq of_bits
prices_fine = refl

asked_fine : (i : ℕ) → first_of (sizes_refusal settings.model 0 1 0 0 Roofline 0) (first_of (rooms_refusal settings (ask i) (lengths_of lent room 1 1)) (values_refusal settings (ask i) lent (past_from none))) ≡ 0
unfolding sizes_judged rooms_judged values_judged
asked_fine i = rw (passed_is_zero (rates_judged (ask i).rates) (rates_fine i), prices_fine)

drawn_fine : (i : ℕ) → (drawn settings (ask i) lent).answer ≡ Used 0
unfolding drawn_by analytic sampled
drawn_fine i = refl

refusal_is : (i : ℕ) (cs : List Change) → record_of (0, i) cs ≡ none → refusal_on settings (ask i) lent 1 1 cs ≡ first_of (worker_rule (0, i) cs) (step_rule (second_of moment) cs)
unfolding refusal_on signals_refusal
refusal_is i cs e = rw (e, asked_fine i, drawn_fine i)

nothing_weighed : (i : ℕ) (cs : List Change) → (decision_on settings (ask i) lent (record_of (0, i) cs)).weighed ≡ 0
unfolding decided_by eq
nothing_weighed i cs = refl

passes : (i : ℕ) (cs : List Change) → record_of (0, i) cs ≡ none → worker_rule (0, i) cs ≡ 0 → step_rule (second_of moment) cs ≡ 0 → answer_on settings (ask i) lent 1 1 cs ≡ Plan 0 0
unfolding answer_on
passes i cs e w t = rw (settings_fine, refusal_is i cs e, w, t, drawn_fine i, nothing_weighed i cs)

is_refused : (i : ℕ) (cs : List Change) → record_of (0, i) cs ≡ none → worker_rule (0, i) cs ≡ 17 → answer_on settings (ask i) lent 1 1 cs ≡ Refused 17
unfolding answer_on
is_refused i cs e w = rw (settings_fine, refusal_is i cs e, w)

-- ---- what a crowd gives

-- no record of a worker that has not planned
no_record : (n i : ℕ) → n ≤ i → record_of (0, i) (given (crowd n)) ≡ none
unfolding crowd given change_on record_of eq
no_record zero i h = refl
no_record (suc n) i h = rw (ne_eqb n i (λ e. omega arith)) (no_record n i (omega arith))

-- as many records as have planned
records_are : (n : ℕ) → workers_of (given (crowd n)) ≡ n
unfolding crowd given change_on workers_of eq
records_are zero = refl
records_are (suc n) = rw (no_record n n (omega arith)) (ap suc (records_are n))

-- all their steps are in one second
steps_are : (n : ℕ) → (sums_at (second_of moment) (given (crowd n))).steps ≡ n
unfolding crowd given change_on sums_at counted eq
steps_are zero = refl
steps_are (suc n) = rw (eq-eqb (second_of moment) (second_of moment) refl) (omega (arith, steps_are n))

no_second : seconds_of (given (crowd 0)) ≡ 0
unfolding crowd given seconds_of
no_second = refl

step_fine : (n : ℕ) → n < steps_most → step_rule (second_of moment) (given (crowd n)) ≡ 0
unfolding step_rule
step_fine zero h = rw (steps_are 0, no_second)
step_fine (suc n) h = rw (steps_are (suc n), lt-ltb 0 (suc n) (omega arith), lt-ltb (suc n) steps_most h)

worker_fine : (n : ℕ) → n < workers_most → worker_rule (0, n) (given (crowd n)) ≡ 0
unfolding worker_rule
worker_fine n h = rw (no_record n n (omega arith), records_are n, lt-ltb n workers_most h)

worker_full : (n : ℕ) → workers_most ≤ n → worker_rule (0, n) (given (crowd n)) ≡ 17
unfolding worker_rule
worker_full n h = rw (no_record n n (omega arith), records_are n, le-ltb n workers_most h)

-- ---- so each of the first 256 is taken

taken : (n : ℕ) → n < workers_most → answer_on settings (ask n) lent 1 1 (given (crowd n)) ≡ Plan 0 0
taken n h = passes n (given (crowd n)) (no_record n n (omega arith)) (worker_fine n h) (step_fine n (omega arith))

lawful : (n : ℕ) → n ≤ workers_most → Lawful (crowd n)
unfolding crowd Lawful
lawful zero h = tt
lawful (suc n) h = (ap is_plan (taken n (omega arith)), lawful n (omega arith))

stand : (n : ℕ) → n ≤ workers_most → (after (oldest_first (crowd n)) nothing_stands).changes ≡ crowd n
stand n h = ap (λ (S : Standing). S.changes) (stand_again (crowd n) (lawful n h))

module _ (ws : List ℕ) (h : room ≤ length ws) (d c : ℕ) where
  -- what worker n is answered after the workers before it
  abbrev pub answered : ℕ → Planned
  answered n = (planned settings (ask n) lent (run (oldest_first (crowd n)) (emptied ws).1) (d ∷ []) (c ∷ [])).answer

  by_the_rules : (n : ℕ) → n ≤ workers_most → answered n ≡ answer_on settings (ask n) lent 1 1 (given (crowd n))
  by_the_rules n m = rw (stand n m) at (plan_answers (oldest_first (crowd n)) ws h settings (ask n) lent (d ∷ []) (c ∷ [])).answer_is

  pub worker_passes : (n : ℕ) → n < workers_most → answered n ≡ Plan 0 0
  worker_passes n m = by_the_rules n (omega arith) ∙ taken n m

  -- and the next one is refused 17
  pub next_refused : (n : ℕ) → n ≡ workers_most → answered n ≡ Refused 17
  next_refused n e = by_the_rules n (omega arith) ∙ is_refused n (given (crowd n)) (no_record n n (omega arith)) (worker_full n (omega arith))
