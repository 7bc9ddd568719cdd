-- DEMAND 3: after any calls within the bounds, made from an empty planner, the words are those of what the standing changes give when worked out
-- afresh. Assumes nothing.
use mathlib.Core.Path.{◌≡◌, refl, sym, ap, ◌∙◌}
use mathlib.Core.List.{List, [], ◌∷◌, ◌++◌, append_assoc, append-nil, reverse, reverse-cons}
use mathlib.Core.Option.{Option}
use Prim.Native.Nat.{ℕ, zero, suc, ◌+◌, ◌*◌, ◌≤◌, zero-le, suc-le-suc}
use native.Mathlib.Nat.{not-suc-le-zero, le_of_suc-le-suc, le_trans, min-le_left, min-le_right, mul-suc, mul-zero, add_comm}
use native.Mathlib.Numerals.{sub-one}
use native.Mathlib.Omega.{arith}
use borrow.Author.Tests.{lt-ltb, le-ltb, eqb-true}
use lib.Dec.{eqb}
use lib.ListN.{length, drop, replicate-append-replicate}
use Rattle.ledger_rows.specs.Map.{is_held}
use Rattle.ledger_rows.specs.Table.{flat, pad}
use Rattle.ledger_rows.proofs.Tests.{by_test}
use Rattle.ledger_rows.proofs.Tables.{flat_append}
use Rattle.std.specs.Prelude.{Result, Float}
use Rattle.refusals.specs.declared.Refusal.{Refusal}
use Rattle.refusals.specs.Refusals.{Judgement}
use Rattle.ledger_rows.specs.Layout.{room, seconds_most, workers_most, changes_most, second_wide, worker_wide, change_wide, changes_from}
use Rattle.ledger.specs.Calls.{or_else, zeros, emptied}
use Rattle.ledger_laws.specs.Model.{Worker, Switching, Plan, Change, planned, decided, cleared, record_of, step_rule, worker_rule, Call, plan, decide, collect, back, Standing, refusal, stands, step, after, nothing_stands, Small, InDomain}
use Rattle.ledger_laws.specs.Encode.{seconds_given, workers_given, logged, second_words, worker_words, change_words, no_second, no_worker, no_change, slot_of, around, laid, encode}
use Rattle.ledger_laws.specs.Run.{made, run}
use Rattle.ledger_laws.proofs.Given.{Sound}
use Rattle.ledger_laws.proofs.Forth.{Reached, plan_made, decide_made, collect_made, first_zero, then_zero}
use Rattle.ledger_laws.proofs.Back.{back_made}

-- ---- what is reached

more_left : (c : Change) (s : Standing) → Sound (c ∷ s.changes) → Reached s → Reached (stands c s)
more_left c s sound r = record {
  sound = sound;
  few = min-le_right (s.left + 1) changes_most;
  there = le_trans (min-le_left (s.left + 1) changes_most) (omega (arith, r.there));
}

reached_plan : (p : Plan) (s : Standing) → Small p → Reached s → Reached (step (plan p) s)
unfolding step refusal Sound
reached_plan p s small r = by_test (eqb (step_rule p.second s.changes) 0)
    (λ l. rw l (more_left (planned p) s (small, eqb-true (step_rule p.second s.changes) 0 l, r.sound) r))
    (λ l. rw l r)

reached_decide : (p : Plan) (w : Worker) (f : Option Switching → Switching) (s : Standing) → Small p → Reached s → Reached (step (decide p w f) s)
unfolding step refusal Sound
reached_decide p w f s small r = by_test (eqb (or_else (worker_rule w s.changes) (step_rule p.second s.changes)) 0)
    (λ l. rw l (more_left (decided p w f) s (small, first_zero (worker_rule w s.changes) (step_rule p.second s.changes) l, then_zero (worker_rule w s.changes) (step_rule p.second s.changes) l, r.sound) r))
    (λ l. rw l r)

reached_collect : (w : Worker) (s : Standing) → Reached s → Reached (step (collect w) s)
unfolding step Sound
reached_collect w s r = by_test (is_held (record_of w s.changes)) (λ l. rw l (more_left (cleared w) s (l, r.sound) r)) (λ l. rw l r)

pub less_sound : (c : Change) (cs : List Change) → Sound (c ∷ cs) → Sound cs
unfolding Sound
less_sound (planned p) cs s = s.2
less_sound (decided p w f) cs s = s.3
less_sound (cleared w) cs s = s.1

reached_back : (cs : List Change) (left : ℕ) → Reached (record { changes = cs; left = left }) → Reached (step back (record { changes = cs; left = left }))
unfolding step
reached_back cs zero r = r
reached_back [] (suc j) r = absurd (not-suc-le-zero r.there)
reached_back (c ∷ cs) (suc j) r = rw (lt-ltb 0 (suc j) (suc-le-suc zero-le), sub-one) (record { sound = less_sound c cs r.sound; few = le_trans (omega arith) r.few; there = le_of_suc-le-suc r.there })

-- ---- one call on the words is one step of the rules

one : (k : Call) (ks : List Call) (s : Standing) (rest : List ℕ) → InDomain (k ∷ ks) → Reached s → (made k (encode s rest) ≡ encode (step k s) rest) × Reached (step k s) × InDomain ks
unfolding made InDomain
one (plan p) ks s rest d r = (ap (λ (x : Judgement × List ℕ). x.1) (plan_made p s rest d.0 r), reached_plan p s d.0 r, d.1)
one (decide p w f) ks s rest d r = (ap (λ (x : Judgement × List ℕ). x.1) (decide_made p w f s rest d.0 r), reached_decide p w f s d.0 r, d.1)
one (collect w) ks s rest d r = (ap (λ (x : Result Float Refusal × List ℕ). x.1) (collect_made w s rest r), reached_collect w s r, d)
one back ks s rest d r = (ap (λ (x : Judgement × List ℕ). x.1) (back_made s.changes s.left rest r.sound r.few r.there), reached_back s.changes s.left r, d)

-- the words after any calls are those of what stands after them
pub afresh : (ks : List Call) (s : Standing) (rest : List ℕ) → InDomain ks → Reached s → (run ks (encode s rest) ≡ encode (after ks s) rest) × Reached (after ks s)
unfolding run after
afresh [] s rest d r = (refl, r)
afresh (k ∷ ks) s rest d r =
    let h = one k ks s rest d r in
    let t = afresh ks (step k s) rest h.2 h.1 in
    (ap (λ (ws : List ℕ). run ks ws) h.0 ∙ t.0, t.1)

-- ---- an empty planner

zeros_add : (a b : ℕ) → zeros (a + b) ≡ zeros a ++ zeros b
unfolding zeros
zeros_add a b = sym (replicate-append-replicate {A = ℕ} a b 0)

zeros_first : (X : List ℕ) → zeros changes_from ++ X ≡ 0 ∷ 0 ∷ 0 ∷ 0 ∷ X
unfolding zeros
zeros_first X = refl

none_zero : [] ≡ zeros 0
unfolding zeros
none_zero = refl

second_zeros : second_words no_second ≡ zeros second_wide
unfolding zeros
second_zeros = refl

worker_zeros : worker_words no_worker ≡ zeros worker_wide
unfolding zeros
worker_zeros = refl

change_zeros : change_words no_change ≡ zeros change_wide
unfolding zeros change_words
change_zeros = refl

-- free slots are 0
free : {R : Type 0} (words : R → List ℕ) (e : R) (w : ℕ) → words e ≡ zeros w → (n : ℕ) → flat words (pad e n []) ≡ zeros (w * n)
unfolding flat pad
free words e w h zero = rw (mul-zero w) none_zero
free words e w h (suc n) = let m : w * suc n ≡ w + w * n = mul-suc w n ∙ add_comm (w * n) w in rw (m, zeros_add w (w * n), h, free words e w h n)

-- also around a ring
free_ring : {R : Type 0} (words : R → List ℕ) (e : R) (w : ℕ) → words e ≡ zeros w → (n : ℕ) → flat words (reverse (pad e n [])) ≡ zeros (w * n)
unfolding flat pad
free_ring words e w h zero = rw (mul-zero w) none_zero
free_ring words e w h (suc n) =
    rw (reverse-cons e (pad e n []), flat_append words (reverse (pad e n [])) (e ∷ []), free_ring words e w h n, append-nil, h, mul-suc w n) (sym (zeros_add (w * n) w))

empty_words : (rest : List ℕ) → zeros room ++ rest ≡ encode nothing_stands rest
unfolding encode laid around slot_of seconds_given workers_given logged change_words
empty_words rest =
    let c : ℕ = change_wide * changes_most in
    let w : ℕ = worker_wide * workers_most in
    let s : ℕ = second_wide * seconds_most in
    let a : zeros room ≡ zeros changes_from ++ (zeros c ++ (zeros w ++ zeros s)) =
    zeros_add changes_from (c + (w + s)) ∙ ap (λ (l : List ℕ). zeros changes_from ++ l) (zeros_add c (w + s) ∙ ap (λ (l : List ℕ). zeros c ++ l) (zeros_add w s)) in
    rw (a, free_ring change_words no_change change_wide change_zeros changes_most, free worker_words no_worker worker_wide worker_zeros workers_most, free second_words no_second second_wide second_zeros seconds_most) (simp append_assoc (zeros_first _))

pub reached_nothing : Reached nothing_stands
unfolding Sound
reached_nothing = record { sound = tt; few = zero-le; there = zero-le }

-- THE THEOREM. After any calls within the bounds, accepted or refused, made from a fresh planner, the words are those of what stands by the rules,
-- worked out afresh; words beyond the room stay.
pub demand_3 : (ks : List Call) (ws : List ℕ) → room ≤ length ws → InDomain ks → run ks (emptied ws).1 ≡ encode (after ks nothing_stands) (drop room ws)
unfolding emptied
demand_3 ks ws h d = rw (le-ltb (length ws) room h, empty_words (drop room ws)) (afresh ks nothing_stands (drop room ws) d reached_nothing).0
