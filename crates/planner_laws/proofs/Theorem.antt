-- DEMAND 3 FOR THE PLANNER'S OWN CALLS: after any plans, collections and withdrawals, accepted or refused, made from an empty planner, the words of the
-- storage are those of what the standing changes give when worked out afresh. Each plan may have other settings, another bank and another table. No bound
-- is assumed: what is out of bounds is refused. Assumes nothing.
use mathlib.Core.Path.{◌≡◌, refl, ap, ◌∙◌}
use mathlib.Core.Bool.{true}
use mathlib.Core.List.{List, [], ◌∷◌}
use Prim.Native.Nat.{ℕ, suc, ◌+◌, ◌-◌, ◌≤◌, zero-le}
use native.Mathlib.Nat.{le_trans, min-le_left, min-le_right}
use native.Mathlib.Omega.{arith}
use borrow.Author.Tests.{ltb-true}
use lib.Dec.{ltb}
use lib.ListN.{length, drop}
use Rattle.ledger_rows.specs.Map.{is_held}
use Rattle.ledger_rows.specs.Layout.{room, changes_most}
use Rattle.ledger_rows.proofs.Tests.{by_test}
use Rattle.std.specs.Prelude.{Result, Float}
use Rattle.refusals.specs.declared.Refusal.{Refusal}
use Rattle.refusals.specs.Refusals.{Judgement}
use Rattle.ledger.specs.Calls.{emptied}
use Rattle.ledger_laws.specs.Model.{Change, record_of, step as ruled, collect as collecting, back, worker_rule, InDomain, after as ruled_after}
use Rattle.ledger_laws.specs.Run.{run as ruled_run}
use Rattle.ledger_laws.specs.Encode.{encode}
use Rattle.ledger_laws.proofs.Given.{Sound}
use Rattle.ledger_laws.proofs.Forth.{Reached, collect_made}
use Rattle.ledger_laws.proofs.Back.{back_made}
use Rattle.ledger_laws.proofs.Theorem.{demand_3 as ledger_demand_3}
use Rattle.settings.specs.declared.Settings.{Settings}
use Rattle.asked_rooms.specs.declared.Ask.{Ask}
use Rattle.asking.specs.Asked.{Lent}
use Rattle.planner.specs.Plan.{Left, is_put}
use Rattle.planner_laws.specs.Calls.{Call, plan, collect, withdraw, leaves, run}
use Rattle.planner_laws.specs.Standing.{worker_in, change_on, answer_on, is_plan, Standing, nothing_stands, given, ledger_of, stands, step, after}
use Rattle.planner_laws.proofs.Accepted.{Passed, accepted, some_asked, passed}
use Rattle.planner_laws.proofs.Drafts.{step_small}
use Rattle.planner_laws.proofs.Words.{plan_by_rules, plan_stands}

-- ---- what stands was accepted when exactly what is below it stood

unfoldable pub Lawful : List Call → Type 0
Lawful [] = Unit
Lawful (plan s a l ds cs ∷ ks) = (is_plan (answer_on s a l (length ds) (length cs) (given ks)) ≡ true) × Lawful ks
Lawful (collect a b ∷ ks) = (is_held (record_of (a, b) (given ks)) ≡ true) × Lawful ks
Lawful (withdraw ∷ ks) = ⊥

pub record Holds (S : Standing) : Type 0 where
  pub lawful : Lawful S.changes
  pub few : S.left ≤ changes_most
  pub there : S.left ≤ length S.changes

pub plan_passes : (s : Settings) (a : Ask) (l : Lent) (drafts commits : ℕ) (cs : List Change) → is_plan (answer_on s a l drafts commits cs) ≡ true → Passed s a l cs
plan_passes s a l drafts commits cs e = passed s a l drafts commits cs (some_asked s a l drafts commits cs e) (accepted s a l drafts commits cs e)

plan_sound : (s : Settings) (a : Ask) (l : Lent) (cs : List Change) → Passed s a l cs → Sound cs → Sound (change_on s a l (record_of (worker_in s a l) cs) ∷ cs)
unfolding change_on Sound
plan_sound s a l cs h sound = by_test (is_put s a l s.policy)
    (λ q. let worker : worker_rule (worker_in s a l) cs ≡ 0 = rw q at h.worker_passes in rw q (step_small s a l cs h, worker, h.step_passes, sound))
    (λ q. rw q (step_small s a l cs h, h.step_passes, sound))

sound : (ks : List Call) → Lawful ks → Sound (given ks)
unfolding given Lawful Sound
sound [] h = tt
sound (plan s a l ds cs ∷ ks) h = plan_sound s a l (given ks) (plan_passes s a l (length ds) (length cs) (given ks) h.0) (sound ks h.1)
sound (collect a b ∷ ks) h = (h.0, sound ks h.1)
sound (withdraw ∷ ks) h = absurd h

as_many : (ks : List Call) → Lawful ks → length (given ks) ≡ length ks
unfolding given Lawful
as_many [] h = refl
as_many (plan s a l ds cs ∷ ks) h = ap suc (as_many ks h.1)
as_many (collect a b ∷ ks) h = ap suc (as_many ks h.1)
as_many (withdraw ∷ ks) h = absurd h

pub reached : (S : Standing) → Holds S → Reached (ledger_of S)
reached S h = record { sound = sound S.changes h.lawful; few = h.few; there = omega (arith, as_many S.changes h.lawful, h.there) }

-- ---- each call keeps it

one_more : (k : Call) (S : Standing) → Lawful (k ∷ S.changes) → Holds S → Holds (stands k S)
one_more k S lawful h = record {
  lawful = lawful;
  few = min-le_right (S.left + 1) changes_most;
  there = le_trans (min-le_left (S.left + 1) changes_most) (omega (arith, h.there));
}

one_less : (ks : List Call) (left : ℕ) → Lawful ks → suc left ≤ length ks → Lawful (drop 1 ks)
unfolding Lawful
one_less [] left h m = tt
one_less (plan s a l ds cs ∷ ks) left h m = h.1
one_less (collect a b ∷ ks) left h m = h.1
one_less (withdraw ∷ ks) left h m = absurd h

length_less : (ks : List Call) (left : ℕ) → suc left ≤ length ks → left ≤ length (drop 1 ks)
length_less [] left h = absurd (omega arith)
length_less (k ∷ ks) left h = omega arith

pub step_holds : (k : Call) (S : Standing) → Holds S → Holds (step k S)
unfolding step Lawful
step_holds (plan s a l ds cs) S h = by_test (is_plan (answer_on s a l (length ds) (length cs) (given S.changes)))
    (λ q. rw q (one_more (plan s a l ds cs) S (q, h.lawful) h))
    (λ q. rw q h)
step_holds (collect a b) S h = by_test (is_held (record_of (a, b) (given S.changes))) (λ q. rw q (one_more (collect a b) S (q, h.lawful) h)) (λ q. rw q h)
step_holds withdraw S h = by_test (ltb 0 S.left)
    (λ q. let m = ltb-true 0 S.left q in let t = h.there in let f = h.few in
    rw q (record { lawful = one_less S.changes (S.left - 1) h.lawful (omega arith); few = omega arith; there = length_less S.changes (S.left - 1) (omega arith) }))
    (λ q. rw q h)

-- ---- one call on the words is one step of the rules

pub given_less : (ks : List Call) → Lawful ks → drop 1 (given ks) ≡ given (drop 1 ks)
unfolding given Lawful
given_less [] h = refl
given_less (plan s a l ds cs ∷ ks) h = refl
given_less (collect a b ∷ ks) h = refl
given_less (withdraw ∷ ks) h = absurd h

as_collected : (a b : ℕ) (S : Standing) (rest : List ℕ) → encode (ruled (collecting (a, b)) (ledger_of S)) rest ≡ encode (ledger_of (step (collect a b) S)) rest
unfolding ruled step given
as_collected a b S rest = by_test (is_held (record_of (a, b) (given S.changes))) (λ q. rw q) (λ q. rw q)

as_withdrawn : (S : Standing) (rest : List ℕ) → Lawful S.changes → encode (ruled back (ledger_of S)) rest ≡ encode (ledger_of (step withdraw S)) rest
unfolding ruled step
as_withdrawn S rest h = by_test (ltb 0 S.left) (λ q. rw (q, given_less S.changes h)) (λ q. rw q)

pub one_call : (k : Call) (S : Standing) (rest : List ℕ) → Holds S → leaves k (encode (ledger_of S) rest) ≡ encode (ledger_of (step k S)) rest
unfolding leaves step given
one_call (plan s a l ds cs) S rest h =
    ap (λ (x : Left). x.storage) (plan_by_rules s a l (ledger_of S) rest (reached S h) ds cs)
    ∙ by_test (is_plan (answer_on s a l (length ds) (length cs) (given S.changes)))
    (λ q. rw q (plan_stands s a l (ledger_of S) rest (reached S h) (plan_passes s a l (length ds) (length cs) (given S.changes) q)))
    (λ q. rw q)
one_call (collect a b) S rest h = ap (λ (x : Result Float Refusal × List ℕ). x.1) (collect_made (a, b) (ledger_of S) rest (reached S h)) ∙ as_collected a b S rest
one_call withdraw S rest h =
    let r = reached S h in
    ap (λ (x : Judgement × List ℕ). x.1) (back_made (given S.changes) S.left rest r.sound r.few r.there) ∙ as_withdrawn S rest h.lawful

-- after any calls
pub afresh : (ks : List Call) (S : Standing) (rest : List ℕ) → Holds S → (run ks (encode (ledger_of S) rest) ≡ encode (ledger_of (after ks S)) rest) × Holds (after ks S)
unfolding run after
afresh [] S rest h = (refl, h)
afresh (k ∷ ks) S rest h =
    let t = afresh ks (step k S) rest (step_holds k S h) in
    (ap (run ks) (one_call k S rest h) ∙ t.0, t.1)

-- ---- an empty planner

pub nothing_holds : Holds nothing_stands
unfolding Lawful
nothing_holds = record { lawful = tt; few = zero-le; there = zero-le }

pub after_holds : (ks : List Call) → Holds (after ks nothing_stands)
after_holds ks = (afresh ks nothing_stands [] nothing_holds).1

pub empty_words : (ws : List ℕ) → room ≤ length ws → (emptied ws).1 ≡ encode (ledger_of nothing_stands) (drop room ws)
unfolding given InDomain ruled_run ruled_after
empty_words ws h = ledger_demand_3 [] ws h tt

-- THE THEOREM
pub demand_3 : (ks : List Call) (ws : List ℕ) → room ≤ length ws → run ks (emptied ws).1 ≡ encode (ledger_of (after ks nothing_stands)) (drop room ws)
demand_3 ks ws h = rw (empty_words ws h) (afresh ks nothing_stands (drop room ws) nothing_holds).0
