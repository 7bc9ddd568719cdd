-- What may be relied on after any calls from an empty planner: what the next plan answers and leaves, what is held, what is shown. Assumes nothing.
use mathlib.Core.Path.{◌≡◌, ap}
use mathlib.Core.Bool.{cond}
use mathlib.Core.List.{List, ◌++◌}
use Prim.Native.Nat.{ℕ, ◌≤◌}
use lib.ListN.{length, drop}
use Rattle.ledger_rows.specs.Layout.{room}
use Rattle.ledger.specs.Calls.{emptied}
use Rattle.ledger_laws.specs.Model.{record_of}
use Rattle.ledger_laws.specs.Encode.{seconds_given}
use Rattle.ledger_laws.proofs.Answers.{Kept, kept}
use Rattle.ledger_laws.proofs.Shown.{Shown, shown}
use Rattle.settings.specs.declared.Settings.{Settings}
use Rattle.asked_rooms.specs.declared.Ask.{Ask}
use Rattle.asking.specs.Asked.{Lent}
use Rattle.planner.specs.Plan.{Left, drawn, planned}
use Rattle.planner_laws.specs.Calls.{Call, run}
use Rattle.planner_laws.specs.Standing.{worker_in, decision_on, answer_on, is_plan, nothing_stands, given, ledger_of, after}
use Rattle.planner_laws.proofs.Words.{plan_by_rules}
use Rattle.planner_laws.proofs.Theorem.{reached, after_holds, demand_3}

-- a plan on what stands
pub record Answers (s : Settings) (a : Ask) (l : Lent) (ds cs : List ℕ) (before : List Call) (left : Left) : Type 0 where
  -- it answers by the rules
  pub answer_is : left.answer ≡ answer_on s a l (length ds) (length cs) (given before)
  -- where it is accepted, the drafts are those that its policy decides with the record that its worker's changes give, and the commits are those drawn
  pub drafts_are : left.drafts ≡ cond (is_plan (answer_on s a l (length ds) (length cs) (given before))) ((decision_on s a l (record_of (worker_in s a l) (given before))).drafts ++ drop a.sequences ds) ds
  pub commits_are : left.commits ≡ cond (is_plan (answer_on s a l (length ds) (length cs) (given before))) ((drawn s a l).commits ++ drop a.sequences cs) cs

module _ (ks : List Call) (ws : List ℕ) (h : room ≤ length ws) where
  pub plan_answers : (s : Settings) (a : Ask) (l : Lent) (ds cs : List ℕ) → Answers s a l ds cs (after ks nothing_stands).changes (planned s a l (run ks (emptied ws).1) ds cs)
  plan_answers s a l ds cs =
      let S = after ks nothing_stands in
      let e = plan_by_rules s a l (ledger_of S) (drop room ws) (reached S (after_holds ks)) ds cs in
      rw (demand_3 ks ws h) (record { answer_is = ap (λ (x : Left). x.answer) e; drafts_are = ap (λ (x : Left). x.drafts) e; commits_are = ap (λ (x : Left). x.commits) e })

  -- the seconds, the workers and the withdrawals held, each worker's record, and what a collection and a withdrawal answer
  pub held : Kept (ledger_of (after ks nothing_stands)) (run ks (emptied ws).1)
  held = rw (demand_3 ks ws h) (kept (ledger_of (after ks nothing_stands)) (drop room ws) (reached (after ks nothing_stands) (after_holds ks)))

  -- the series and the day figure
  pub series_shown : Shown (ledger_of (after ks nothing_stands)) (seconds_given (given (after ks nothing_stands).changes)) (run ks (emptied ws).1)
  series_shown = rw (demand_3 ks ws h) (shown (ledger_of (after ks nothing_stands)) (drop room ws) (reached (after ks nothing_stands) (after_holds ks)))
