-- What may be relied on after any calls within the bounds: what is held, what can be withdrawn, and what the next call answers. Assumes nothing.
use mathlib.Core.Path.{◌≡◌, ap, ◌∙◌}
use mathlib.Core.List.{List}
use mathlib.Core.Option.{Option}
use Prim.Native.Nat.{ℕ, ◌≤◌}
use lib.Dec.{ltb}
use lib.ListN.{length, drop}
use Rattle.std.specs.Prelude.{Result, Float}
use Rattle.refusals.specs.declared.Refusal.{Refusal}
use Rattle.refusals.specs.declared.Refusal.TheVariants.{NoWithdrawal}
use Rattle.refusals.specs.Refusals.{Judgement, number_in}
use Rattle.ledger.specs.declared.answer.Decision.TheVariants.{Nothing, Put}
use Rattle.ledger_rows.specs.Layout.{room, seconds_held, workers_held, available}
use Rattle.ledger_workers.specs.Workers.{past_of}
use Rattle.ledger.specs.Calls.{step_allowed, worker_allowed, emptied, recorded, collected, withdrawn}
use Rattle.ledger_laws.specs.Model.{Worker, Switching, Plan, record_of, seconds_of, workers_of, Call, plan, decide, back, Standing, refusal, after, nothing_stands, Small, InDomain}
use Rattle.ledger_laws.specs.Encode.{seconds_given, workers_given, past_from, newest_of, encode}
use Rattle.ledger_laws.specs.Run.{record_in, run}
use Rattle.ledger_laws.proofs.Given.{seconds_ascend, workers_ascend, length_seconds, length_workers}
use Rattle.ledger_laws.proofs.WordWays.{passed_number}
use Rattle.ledger_laws.proofs.Laid.{held_seconds, held_workers}
use Rattle.ledger_laws.proofs.Forth.{Reached, fit_seconds, fit_workers, record_read, by_rule, by_worker_rule, number_or_else, answer_of, by_number, stall_of, plan_made, decide_made, collect_made}
use Rattle.ledger_laws.proofs.Back.{left_is, back_made}
use Rattle.ledger_laws.proofs.Theorem.{afresh, reached_nothing, demand_3}

-- of words that hold what stands
pub record Kept (s : Standing) (ws : List ℕ) : Type 0 where
  -- as many seconds are held as have a standing plan, and as many workers as have a record; the withdrawals available are the rules'
  pub seconds_are : seconds_held ws ≡ seconds_of s.changes
  pub workers_are : workers_held ws ≡ workers_of s.changes
  pub left_are : available ws ≡ s.left
  -- a worker's record is what its own standing changes give
  pub record_is : (w : Worker) → past_of ws w.0 w.1 ≡ past_from (record_of w s.changes)
  -- the next call answers by the rules
  pub plan_answers : (p : Plan) → Small p → (recorded ws p Nothing).0 ≡ answer_of (refusal (plan p) s)
  pub decide_answers : (p : Plan) (w : Worker) (f : Option Switching → Switching) → Small p
      → (recorded ws p (Put w.0 w.1 (f (record_in ws w)).width (f (record_in ws w)).rounds (f (record_in ws w)).stall)).0 ≡ answer_of (refusal (decide p w f) s)
  pub collect_answers : (w : Worker) → (collected ws w.0 w.1).0 ≡ stall_of (record_of w s.changes)
  pub back_answers : (withdrawn ws).0 ≡ answer_of (refusal back s)
  -- and what it is refused for has the number that they give
  pub plan_number : (p : Plan) → Small p → number_in (recorded ws p Nothing).0 ≡ refusal (plan p) s
  pub decide_number : (p : Plan) (w : Worker) (f : Option Switching → Switching) → Small p
      → number_in (recorded ws p (Put w.0 w.1 (f (record_in ws w)).width (f (record_in ws w)).rounds (f (record_in ws w)).stall)).0 ≡ refusal (decide p w f) s
  pub back_number : number_in (withdrawn ws).0 ≡ refusal back s

seconds_count : (s : Standing) (rest : List ℕ) → Reached s → seconds_held (encode s rest) ≡ seconds_of s.changes
unfolding encode
seconds_count s rest r = held_seconds (length (workers_given s.changes)) (newest_of s) (workers_given s.changes) rest 0 (seconds_given s.changes) (fit_seconds s.changes r.sound) (seconds_ascend s.changes) ∙ length_seconds s.changes

workers_count : (s : Standing) (rest : List ℕ) → Reached s → workers_held (encode s rest) ≡ workers_of s.changes
unfolding encode
workers_count s rest r = held_workers (length (seconds_given s.changes)) (newest_of s) (seconds_given s.changes) rest (0, 0) (workers_given s.changes) (fit_workers s.changes r.sound) (workers_ascend s.changes) ∙ length_workers s.changes

plan_refused : (s : Standing) (rest : List ℕ) → Reached s → (p : Plan) → Small p → number_in (recorded (encode s rest) p Nothing).0 ≡ refusal (plan p) s
unfolding refusal
plan_refused s rest r p small = ap (λ (x : Judgement × List ℕ). number_in x.0) (plan_made p s rest small r) ∙ by_rule s rest r p.second

decide_refused : (s : Standing) (rest : List ℕ) → Reached s → (p : Plan) (w : Worker) (f : Option Switching → Switching) → Small p
    → number_in (recorded (encode s rest) p (Put w.0 w.1 (f (record_in (encode s rest) w)).width (f (record_in (encode s rest) w)).rounds (f (record_in (encode s rest) w)).stall)).0
    ≡ refusal (decide p w f) s
unfolding refusal
decide_refused s rest r p w f small =
    ap (λ (x : Judgement × List ℕ). number_in x.0) (decide_made p w f s rest small r)
    ∙ number_or_else (worker_allowed (encode s rest) w.0 w.1) (step_allowed (encode s rest) p.second)
    ∙ rw (by_worker_rule s rest r w, by_rule s rest r p.second)

back_refused : (s : Standing) (rest : List ℕ) → Reached s → number_in (withdrawn (encode s rest)).0 ≡ refusal back s
unfolding refusal
back_refused s rest r = ap (λ (x : Judgement × List ℕ). number_in x.0) (back_made s.changes s.left rest r.sound r.few r.there) ∙ passed_number (ltb 0 s.left) NoWithdrawal

pub kept : (s : Standing) (rest : List ℕ) → Reached s → Kept s (encode s rest)
kept s rest r = record {
  seconds_are = seconds_count s rest r;
  workers_are = workers_count s rest r;
  left_are = left_is s.changes s.left rest r.few;
  record_is = λ w. record_read s rest r w;
  plan_answers = λ p small. by_number (recorded (encode s rest) p Nothing).0 (refusal (plan p) s) (plan_refused s rest r p small);
  decide_answers = λ p w f small. by_number (recorded (encode s rest) p (Put w.0 w.1 (f (record_in (encode s rest) w)).width (f (record_in (encode s rest) w)).rounds (f (record_in (encode s rest) w)).stall)).0 (refusal (decide p w f) s) (decide_refused s rest r p w f small);
  collect_answers = λ w. ap (λ (x : Result Float Refusal × List ℕ). x.0) (collect_made w s rest r);
  back_answers = by_number (withdrawn (encode s rest)).0 (refusal back s) (back_refused s rest r);
  plan_number = λ p small. plan_refused s rest r p small;
  decide_number = λ p w f small. decide_refused s rest r p w f small;
  back_number = back_refused s rest r;
}

-- after any calls within the bounds, from a fresh planner
pub relied_on : (ks : List Call) (ws : List ℕ) → room ≤ length ws → InDomain ks → Kept (after ks nothing_stands) (run ks (emptied ws).1)
relied_on ks ws h d = rw (demand_3 ks ws h d) (kept (after ks nothing_stands) (drop room ws) (afresh ks nothing_stands (drop room ws) d reached_nothing).1)
