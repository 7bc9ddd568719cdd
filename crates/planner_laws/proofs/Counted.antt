-- WHAT IS COMMITTED AT A SECOND IS WHAT ITS HOST COUNTS. A host that keeps a book of its own beside the planner, after any calls from an empty one, has booked
-- at each second what the planner holds as committed there. No bound is assumed: what is out of bounds is refused. Assumes nothing.
use mathlib.Core.Path.{◌≡◌, refl, sym, ap, ◌∙◌}
use mathlib.Core.Bool.{true}
use mathlib.Core.List.{List, [], ◌∷◌, ◌++◌}
use mathlib.Core.Option.{Option, none, some}
use Prim.Native.Nat.{ℕ, ◌+◌, ◌≤◌}
use native.Mathlib.Omega.{arith}
use borrow.Author.Tests.{le-ltb}
use lib.Dec.{ltb, eqb}
use lib.ListN.{length, drop}
use lib.Seq.{take_at}
use Rattle.numeral.specs.Moment.{second_of}
use Rattle.ledger_rows.specs.Map.{is_held}
use Rattle.ledger_rows.specs.Layout.{room}
use Rattle.ledger_rows.proofs.Tests.{by_test, not_both}
use Rattle.std.specs.Prelude.{Ok}
use Rattle.refusals.specs.declared.Refusal.TheVariants.{NoWithdrawal}
use Rattle.refusals.specs.Refusals.{Judgement, passed_if}
use Rattle.ledger.specs.Calls.{emptied, withdrawn, found_of, worker_of}
use Rattle.ledger_laws.specs.Model.{Worker, Switching, Plan, Change, Sums, counted, sums_at, record_of, back, Standing as Ledger}
use Rattle.ledger_laws.specs.Encode.{past_from, encode}
use Rattle.ledger_laws.proofs.Forth.{Reached, wide_enough, record_read}
use Rattle.ledger_laws.proofs.Back.{back_made}
use Rattle.settings.specs.declared.Settings.{Settings}
use Rattle.rounds.specs.declared.drawing.Drawn.{Drawn}
use Rattle.rounds.specs.declared.drawing.Drawn.TheVariants.{Used, Refused as NotDrawn}
use Rattle.asked_rooms.specs.declared.Ask.{Ask}
use Rattle.asking.specs.Asked.{Lent}
use Rattle.plan_draws.proofs.Batches.{all_drawn}
use Rattle.planner.specs.Plan.{drawn, is_put}
use Rattle.planner_laws.specs.Calls.{Call, plan, collect, withdraw}
use Rattle.planner_laws.specs.Standing.{plan_answer, worker_in, decision_on, step_on, change_on, answer_on, is_plan, Standing, nothing_stands, given, ledger_of, step, after}
use Rattle.planner_laws.specs.Booked.{Entry, no_entry, host_counts, is_known, books, booked, booked_at}
use Rattle.planner_laws.proofs.Accepted.{Passed, draws_there}
use Rattle.planner_laws.proofs.Drafts.{drafts_narrow}
use Rattle.planner_laws.proofs.Words.{plan_by_rules}
use Rattle.planner_laws.proofs.Theorem.{Lawful, Holds, plan_passes, reached, step_holds, one_call, nothing_holds, empty_words}

-- ---- the loop over one plan

module _ (s : Settings) (a : Ask) (l : Lent) (stood : List Change) where
  abbrev own : Option Switching
  own = record_of (worker_in s a l) stood

  commits_all : (draws : Drawn) (weighed : ℕ) → draws ≡ (drawn s a l).answer → is_plan (plan_answer draws weighed) ≡ true → length (drawn s a l).commits ≡ a.sequences
  commits_all (Used used) weighed e p = all_drawn s a l used e
  commits_all (NotDrawn number) weighed e p = absurd (not_both _ p refl)

  -- `ds` and `cs` are the buffers as they were lent
  pub host_counts_lem : (ds cs : List ℕ) → is_plan (answer_on s a l (length ds) (length cs) stood) ≡ true
      → host_counts a.sequences ((decision_on s a l own).drafts ++ drop a.sequences ds) ((drawn s a l).commits ++ drop a.sequences cs) ≡ (step_on s a l own).committed
  host_counts_lem ds cs p =
      let passed : Passed s a l stood = plan_passes s a l (length ds) (length cs) stood p in
      let all : length (drawn s a l).commits ≡ a.sequences = commits_all (drawn s a l).answer _ refl (draws_there s a l (length ds) (length cs) stood p) in
      rw (
        take_at (decision_on s a l own).drafts (drop a.sequences ds) a.sequences (drafts_narrow s a l stood passed).count,
        take_at (drawn s a l).commits (drop a.sequences cs) a.sequences all,
      )

-- ---- the book that the standing calls make

unfoldable pub book_of : List Call → List Entry
book_of [] = []
book_of (plan s a l ds cs ∷ ks) = (second_of a.end, (step_on s a l (record_of (a.a, a.b) (given ks))).committed) ∷ book_of ks
book_of (collect a b ∷ ks) = no_entry ∷ book_of ks
book_of (withdraw ∷ ks) = book_of ks

known_held : (o : Option Switching) → is_known (Ok (found_of (past_from o))) ≡ is_held o
unfolding found_of
known_held none = refl
known_held (some r) = refl

known_worker : (s : Ledger) (rest : List ℕ) → Reached s → (w : Worker) → is_known (worker_of (encode s rest) w.0 w.1) ≡ is_held (record_of w s.changes)
unfolding worker_of
known_worker s rest r w = rw (le-ltb (length (encode s rest)) room (wide_enough s rest), record_read s rest r w) (known_held (record_of w s.changes))

book_less : (ks : List Call) → Lawful ks → drop 1 (book_of ks) ≡ book_of (drop 1 ks)
unfolding book_of Lawful
book_less [] h = refl
book_less (plan s a l ds cs ∷ ks) h = refl
book_less (collect a b ∷ ks) h = refl
book_less (withdraw ∷ ks) h = absurd h

-- each call keeps it
pub one_booked : (k : Call) (S : Standing) (rest : List ℕ) → Holds S → books k (encode (ledger_of S) rest) (book_of S.changes) ≡ book_of (step k S).changes
unfolding books step book_of
one_booked (plan s a l ds cs) S rest h =
    let answers = plan_by_rules s a l (ledger_of S) rest (reached S h) ds cs in
    rw answers (by_test (is_plan (answer_on s a l (length ds) (length cs) (given S.changes)))
    (λ q. rw q (ap (λ (n : ℕ). (second_of a.end, n) ∷ book_of S.changes) (host_counts_lem s a l (given S.changes) ds cs q)))
    (λ q. rw q))
one_booked (collect a b) S rest h =
    rw (known_worker (ledger_of S) rest (reached S h) (a, b)) (by_test (is_held (record_of (a, b) (given S.changes))) (λ q. rw q) (λ q. rw q))
one_booked withdraw S rest h =
    let r = reached S h in
    let answer : (withdrawn (encode (ledger_of S) rest)).0 ≡ passed_if (ltb 0 S.left) NoWithdrawal = ap (λ (x : Judgement × List ℕ). x.0) (back_made (given S.changes) S.left rest r.sound r.few r.there) in
    rw answer (by_test (ltb 0 S.left) (λ q. rw q (book_less S.changes h.lawful)) (λ q. rw q))

pub all_booked : (ks : List Call) (S : Standing) (rest : List ℕ) → Holds S → booked ks (encode (ledger_of S) rest) (book_of S.changes) ≡ book_of (after ks S).changes
unfolding booked after
all_booked [] S rest h = refl
all_booked (k ∷ ks) S rest h = rw (one_call k S rest h, one_booked k S rest h) (all_booked ks (step k S) rest (step_holds k S h))

-- ---- and what it has at a second

at_second : (t : ℕ) (p : Plan) (s : Sums) (es : List Entry) → s.committed ≡ booked_at t es → (counted t p s).committed ≡ booked_at t ((p.second, p.committed) ∷ es)
unfolding counted booked_at
at_second t p s es e = by_test (eqb p.second t) (λ q. rw q (ap (λ (n : ℕ). n + p.committed) e)) (λ q. rw q e)

at_none : (t : ℕ) (es : List Entry) → booked_at t (no_entry ∷ es) ≡ booked_at t es
unfolding booked_at
at_none t es = by_test (eqb 0 t) (λ q. rw q (omega arith)) (λ q. rw q)

sums_booked : (t : ℕ) (ks : List Call) → (sums_at t (given ks)).committed ≡ booked_at t (book_of ks)
unfolding given book_of change_on sums_at booked_at
sums_booked t [] = refl
sums_booked t (plan s a l ds cs ∷ ks) = by_test (is_put s a l s.policy)
    (λ q. rw q (at_second t (step_on s a l (record_of (a.a, a.b) (given ks))) (sums_at t (given ks)) (book_of ks) (sums_booked t ks)))
    (λ q. rw q (at_second t (step_on s a l (record_of (a.a, a.b) (given ks))) (sums_at t (given ks)) (book_of ks) (sums_booked t ks)))
sums_booked t (collect a b ∷ ks) = sums_booked t ks ∙ sym (at_none t (book_of ks))
sums_booked t (withdraw ∷ ks) = sums_booked t ks

-- THE THEOREM
pub host_agrees : (ks : List Call) (ws : List ℕ) → room ≤ length ws → (t : ℕ) → (sums_at t (given (after ks nothing_stands).changes)).committed ≡ booked_at t (booked ks (emptied ws).1 [])
unfolding book_of
host_agrees ks ws h t =
    sums_booked t (after ks nothing_stands).changes
    ∙ ap (booked_at t) (sym (rw (empty_words ws h) (all_booked ks nothing_stands (drop room ws) nothing_holds)))
