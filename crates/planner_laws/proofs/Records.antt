-- Whose record a plan touches: its own worker's, and that only where the switching is constrained; and what a withdrawal behind a change gives back. After any
-- calls from an empty planner. Assumes nothing.
use mathlib.Core.Path.{◌≡◌, refl, sym, ap, ◌∙◌}
use mathlib.Core.Bool.{true, false}
use mathlib.Core.List.{List, [], ◌∷◌}
use Prim.Native.Nat.{ℕ, ◌+◌, ◌-◌, ◌≤◌, ◌<◌, min}
use native.Mathlib.Omega.{arith}
use borrow.Author.Tests.{lt-ltb}
use lib.ListN.{length, drop}
use Rattle.switch_settings.specs.Switch.{is_unconstrained}
use Rattle.ledger_rows.specs.Layout.{room, changes_most}
use Rattle.ledger_rows.proofs.Tests.{by_test}
use Rattle.ledger_workers.specs.Workers.{worker_same, past_of}
use Rattle.ledger.specs.Calls.{emptied}
use Rattle.ledger_laws.specs.Model.{Worker, record_of}
use Rattle.ledger_laws.specs.Encode.{past_from, encode}
use Rattle.ledger_laws.proofs.Forth.{record_read}
use Rattle.settings.specs.declared.Policy.{Policy}
use Rattle.settings.specs.declared.Policy.TheVariants.{Fixed, GoodputBudget, GatedBudget, GatedAggregate}
use Rattle.settings.specs.declared.Settings.{Settings}
use Rattle.asked_rooms.specs.declared.Ask.{Ask}
use Rattle.asking.specs.Asked.{Lent}
use Rattle.planner.specs.Plan.{is_put, planned}
use Rattle.planner_laws.specs.Calls.{Call, plan, withdraw, leaves, run}
use Rattle.planner_laws.specs.Standing.{worker_in, change_on, answer_on, is_plan, Standing, nothing_stands, given, ledger_of, stands, step, after}
use Rattle.planner_laws.proofs.Theorem.{Holds, reached, step_holds, one_call, afresh, after_holds, demand_3}

module _ (s : Settings) (a : Ask) (l : Lent) (ds cs : List ℕ) (S : Standing) (v : Worker) where
  -- the same of a step that is accepted or not
  either_way : record_of v (given (plan s a l ds cs ∷ S.changes)) ≡ record_of v (given S.changes) → record_of v (given (step (plan s a l ds cs) S).changes) ≡ record_of v (given S.changes)
  unfolding step
  either_way e = by_test (is_plan (answer_on s a l (length ds) (length cs) (given S.changes))) (λ q. rw q e) (λ q. rw q)

  none_put : is_put s a l s.policy ≡ false → record_of v (given (plan s a l ds cs ∷ S.changes)) ≡ record_of v (given S.changes)
  unfolding given change_on record_of
  none_put e = rw e

  other_worker : worker_same (worker_in s a l) v ≡ false → record_of v (given (plan s a l ds cs ∷ S.changes)) ≡ record_of v (given S.changes)
  unfolding given change_on record_of
  other_worker e = by_test (is_put s a l s.policy) (λ q. rw q (rw e)) (λ q. rw q)

  same_words : (rest : List ℕ) → Holds S → record_of v (given (step (plan s a l ds cs) S).changes) ≡ record_of v (given S.changes)
      → past_of (planned s a l (encode (ledger_of S) rest) ds cs).storage v.0 v.1 ≡ past_of (encode (ledger_of S) rest) v.0 v.1
  unfolding leaves
  same_words rest h e =
      ap (λ (ws : List ℕ). past_of ws v.0 v.1) (one_call (plan s a l ds cs) S rest h)
      ∙ record_read (ledger_of (step (plan s a l ds cs) S)) rest (reached (step (plan s a l ds cs) S) (step_holds (plan s a l ds cs) S h)) v
      ∙ ap past_from e
      ∙ sym (record_read (ledger_of S) rest (reached S h) v)

-- only a constrained GatedAggregate uses a record
unput : (s : Settings) (a : Ask) (l : Lent) (policy : Policy) → is_unconstrained s.switch ≡ true → is_put s a l policy ≡ false
unput s a l Fixed e = refl
unput s a l GoodputBudget e = refl
unput s a l GatedBudget e = refl
unput s a l GatedAggregate e = rw e

module _ (ks : List Call) (ws : List ℕ) (h : room ≤ length ws) (s : Settings) (a : Ask) (l : Lent) (ds cs : List ℕ) (v : Worker) where
  -- an unconstrained plan touches no record
  pub no_record_touched : is_unconstrained s.switch ≡ true
      → past_of (planned s a l (run ks (emptied ws).1) ds cs).storage v.0 v.1 ≡ past_of (run ks (emptied ws).1) v.0 v.1
  no_record_touched e =
      let S = after ks nothing_stands in
      rw (demand_3 ks ws h) (same_words s a l ds cs S v (drop room ws) (after_holds ks) (either_way s a l ds cs S v (none_put s a l ds cs S v (unput s a l s.policy e))))

  -- and no plan touches another worker's
  pub no_other_touched : worker_same (worker_in s a l) v ≡ false
      → past_of (planned s a l (run ks (emptied ws).1) ds cs).storage v.0 v.1 ≡ past_of (run ks (emptied ws).1) v.0 v.1
  no_other_touched e =
      let S = after ks nothing_stands in
      rw (demand_3 ks ws h) (same_words s a l ds cs S v (drop room ws) (after_holds ks) (either_way s a l ds cs S v (other_worker s a l ds cs S v e)))

-- ---- a change that is withdrawn

taken_back : (k : Call) (S : Standing) → S.left < changes_most → step withdraw (stands k S) ≡ S
unfolding step
taken_back k S h =
    let m : min (S.left + 1) changes_most ≡ S.left + 1 = omega arith in
    let n : S.left + 1 - 1 ≡ S.left = omega arith in
    rw (m, lt-ltb 0 (S.left + 1) (omega arith), n)

-- a plan or a collection that was accepted, and then a withdrawal: the storage is as it was, word for word, unless 64 changes could be withdrawn already, of which the
-- oldest has then fallen out
pub change_undone : (ks : List Call) (ws : List ℕ) → room ≤ length ws → (k : Call) → step k (after ks nothing_stands) ≡ stands k (after ks nothing_stands) → (after ks nothing_stands).left < changes_most
    → run (k ∷ withdraw ∷ []) (run ks (emptied ws).1) ≡ run ks (emptied ws).1
unfolding after
change_undone ks ws h k e few =
    let S = after ks nothing_stands in
    rw (demand_3 ks ws h)
    ((afresh (k ∷ withdraw ∷ []) S (drop room ws) (after_holds ks)).0
    ∙ ap (λ (T : Standing). encode (ledger_of T) (drop room ws)) (ap (step withdraw) e ∙ taken_back k S few))
