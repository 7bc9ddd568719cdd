-- EVERY CALL OF THE PLANNER IS A CALL OF THE LEDGER'S RULES, given what stands, or none, and within the ledger's bounds: so every law of the ledger holds of the
-- planner's calls. Assumes nothing.
use mathlib.Core.Path.{◌≡◌, refl, sym, ap, ◌∙◌}
use mathlib.Core.List.{List, [], ◌∷◌, ◌++◌}
use Prim.Native.Nat.{ℕ, ◌+◌, ◌≤◌, min}
use lib.Dec.{ltb}
use lib.ListN.{length, drop}
use Rattle.ledger_rows.specs.Map.{is_held}
use Rattle.ledger_rows.specs.Layout.{room, changes_most}
use Rattle.ledger_rows.proofs.Tests.{by_test}
use Rattle.ledger.specs.Calls.{emptied}
use Rattle.ledger_laws.specs.Model.{record_of, worker_rule, Standing as Ledger, Call as LedgerCall, plan as plainly, decide, collect as collecting, back, refusal, step as ruled, after as ruled_after, nothing_stands as nothing_held, InDomain}
use Rattle.ledger_laws.specs.Encode.{encode}
use Rattle.ledger_laws.specs.Run.{run as ruled_run}
use Rattle.ledger_laws.proofs.Theorem.{demand_3 as ledger_demand_3}
use Rattle.settings.specs.declared.Settings.{Settings}
use Rattle.asked_rooms.specs.declared.Ask.{Ask}
use Rattle.asking.specs.Asked.{Lent}
use Rattle.planner.specs.Plan.{is_put}
use Rattle.planner_laws.specs.Calls.{Call, plan, collect, withdraw, run}
use Rattle.planner_laws.specs.Standing.{worker_in, change_on, answer_on, is_plan, Standing, nothing_stands, given, ledger_of, stands, step, after, ledger_call, ledger_calls, all_ledger_calls}
use Rattle.planner_laws.proofs.Accepted.{Passed}
use Rattle.planner_laws.proofs.Drafts.{step_small}
use Rattle.planner_laws.proofs.Theorem.{Lawful, Holds, plan_passes, given_less, step_holds, nothing_holds, demand_3}

-- ---- one call

module _ (s : Settings) (a : Ask) (l : Lent) (L : Ledger) (h : Passed s a l L.changes) where
  plan_ruled : ruled (ledger_call s a l (record_of (worker_in s a l) L.changes)) L ≡ record { changes = change_on s a l (record_of (worker_in s a l) L.changes) ∷ L.changes; left = min (L.left + 1) changes_most }
  unfolding ruled refusal ledger_call change_on
  plan_ruled = by_test (is_put s a l s.policy)
      (λ q. let worker : worker_rule (worker_in s a l) L.changes ≡ 0 = rw q at h.worker_passes in rw q (rw (worker, h.step_passes)))
      (λ q. rw q (rw h.step_passes))

  plan_within : InDomain (ledger_call s a l (record_of (worker_in s a l) L.changes) ∷ [])
  unfolding InDomain ledger_call
  plan_within = by_test (is_put s a l s.policy) (λ q. rw q (step_small s a l L.changes h, tt)) (λ q. rw q (step_small s a l L.changes h, tt))

plan_given : (s : Settings) (a : Ask) (l : Lent) (ds cs : List ℕ) (S : Standing) → ledger_of (stands (plan s a l ds cs) S)
    ≡ record { changes = change_on s a l (record_of (a.a, a.b) (given S.changes)) ∷ given S.changes; left = min (S.left + 1) changes_most }
unfolding given
plan_given s a l ds cs S = refl

collect_ruled : (a b : ℕ) (S : Standing) → ledger_of (step (collect a b) S) ≡ ruled (collecting (a, b)) (ledger_of S)
unfolding ruled step given
collect_ruled a b S = by_test (is_held (record_of (a, b) (given S.changes))) (λ q. rw q) (λ q. rw q)

withdraw_ruled : (S : Standing) → Lawful S.changes → ledger_of (step withdraw S) ≡ ruled back (ledger_of S)
unfolding ruled step
withdraw_ruled S h = by_test (ltb 0 S.left) (λ q. rw (q, given_less S.changes h)) (λ q. rw q)

pub one_ruled : (k : Call) (S : Standing) → Holds S → ledger_of (step k S) ≡ ruled_after (ledger_calls k S) (ledger_of S)
unfolding step ledger_calls ruled_after
one_ruled (plan s a l ds cs) S h = by_test (is_plan (answer_on s a l (length ds) (length cs) (given S.changes)))
    (λ q. rw q (plan_given s a l ds cs S ∙ sym (plan_ruled s a l (ledger_of S) (plan_passes s a l (length ds) (length cs) (given S.changes) q))))
    (λ q. rw q)
one_ruled (collect a b) S h = collect_ruled a b S
one_ruled withdraw S h = withdraw_ruled S h.lawful

one_within : (k : Call) (S : Standing) → InDomain (ledger_calls k S)
unfolding ledger_calls InDomain
one_within (plan s a l ds cs) S = by_test (is_plan (answer_on s a l (length ds) (length cs) (given S.changes)))
    (λ q. rw q (plan_within s a l (ledger_of S) (plan_passes s a l (length ds) (length cs) (given S.changes) q)))
    (λ q. rw q tt)
one_within (collect a b) S = tt
one_within withdraw S = tt

-- ---- all calls

after_both : (js ks : List LedgerCall) (L : Ledger) → ruled_after (js ++ ks) L ≡ ruled_after ks (ruled_after js L)
unfolding ruled_after
after_both [] ks L = refl
after_both (j ∷ js) ks L = after_both js ks (ruled j L)

within_both : (js ks : List LedgerCall) → InDomain js → InDomain ks → InDomain (js ++ ks)
unfolding InDomain
within_both [] ks d e = e
within_both (plainly p ∷ js) ks d e = (d.0, within_both js ks d.1 e)
within_both (decide p w f ∷ js) ks d e = (d.0, within_both js ks d.1 e)
within_both (collecting w ∷ js) ks d e = within_both js ks d e
within_both (back ∷ js) ks d e = within_both js ks d e

all_ruled : (ks : List Call) (S : Standing) → Holds S → ledger_of (after ks S) ≡ ruled_after (all_ledger_calls ks S) (ledger_of S)
unfolding after all_ledger_calls ruled_after
all_ruled [] S h = refl
all_ruled (k ∷ ks) S h =
    all_ruled ks (step k S) (step_holds k S h)
    ∙ ap (ruled_after (all_ledger_calls ks (step k S))) (one_ruled k S h)
    ∙ sym (after_both (ledger_calls k S) (all_ledger_calls ks (step k S)) (ledger_of S))

-- within the ledger's bounds
pub all_within : (ks : List Call) (S : Standing) → InDomain (all_ledger_calls ks S)
unfolding all_ledger_calls InDomain
all_within [] S = tt
all_within (k ∷ ks) S = within_both (ledger_calls k S) (all_ledger_calls ks (step k S)) (one_within k S) (all_within ks (step k S))

-- what stands is what stands after the ledger's calls
pub stands_as_ledger : (ks : List Call) → ledger_of (after ks nothing_stands) ≡ ruled_after (all_ledger_calls ks nothing_stands) nothing_held
unfolding given
stands_as_ledger ks = all_ruled ks nothing_stands nothing_holds

-- and so are the words
pub runs_as_ledger : (ks : List Call) (ws : List ℕ) → room ≤ length ws → run ks (emptied ws).1 ≡ ruled_run (all_ledger_calls ks nothing_stands) (emptied ws).1
runs_as_ledger ks ws h =
    demand_3 ks ws h
    ∙ ap (λ (L : Ledger). encode L (drop room ws)) (stands_as_ledger ks)
    ∙ sym (ledger_demand_3 (all_ledger_calls ks nothing_stands) ws h (all_within ks nothing_stands))
