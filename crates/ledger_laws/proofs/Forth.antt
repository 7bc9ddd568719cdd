-- Plans and collections on words that hold what stands: each call answers by the rules, and leaves the words of what then stands. Assumes nothing.
use mathlib.Core.Path.{◌≡◌, refl, sym, ap, ◌∙◌}
use mathlib.Core.Bool.{Bool, true, false, cond}
use mathlib.Core.List.{List, [], ◌∷◌}
use mathlib.Core.Logic.{⊎_elim}
use mathlib.Core.Option.{Option, none, some}
use Prim.Native.Nat.{ℕ, zero, suc, ◌+◌, ◌-◌, ◌≤◌, ◌<◌, min}
use native.Mathlib.Nat.{eq-or-lt_of_le}
use native.Mathlib.Omega.{arith}
use borrow.Author.Tests.{le-ltb, eqb-true, ne_eqb}
use lib.Dec.{ltb, eqb}
use lib.Ieee.{Float, binary64, of_bits}
use lib.ListN.{length, take, length-append}
use Rattle.ledger_rows.specs.Map.{at, put_at, is_held, before}
use Rattle.ledger_rows.specs.Table.{pad}
use Rattle.ledger_rows.proofs.Tests.{by_test, not_both}
use Rattle.ledger_rows.proofs.Tables.{length_pad, length_flat, pad_take}
use Rattle.std.specs.Prelude.{Result, Ok, Err, get_or}
use Rattle.refusals.specs.declared.Refusal.{Refusal}
use Rattle.refusals.specs.declared.Refusal.TheVariants.{NotAscii, EmptyText, WrongHeader, FieldCount, MalformedWhole, MalformedDecimal, LongDecimal, StepSeconds, NoDrafts, NoRows, Size, Setting, AbsentDraw, Draw, Input, ShortBuffer, WorkerRoom, SecondRoom, StepRoom, NoSaneRows, NoWithdrawal}
use Rattle.refusals.specs.Refusals.{Judgement, and_then, number_of, number_in}
use Rattle.refusals.proofs.First.{no_zero}
use Rattle.ledger.specs.declared.answer.Decision.TheVariants.{Nothing, Put}
use Rattle.ledger_rows.specs.Layout.{room, seconds_most, workers_most, changes_most, steps_most, second_wide, worker_wide, change_wide, steps_in}
use Rattle.ledger_seconds.specs.Seconds.{step_added}
use Rattle.ledger_workers.specs.Workers.{worker_less, worker_same, past_of, worker_put}
use Rattle.ledger_changes.specs.Changes.{change_laid, no_step, pushed}
use Rattle.ledger_acts.specs.Acts.{plain_done, decided_done, collected_done}
use Rattle.ledger.specs.Calls.{step_allowed, worker_allowed, step_judged, worker_judged, or_else, unless, recorded, collected_of, collected}
use Rattle.ledger_laws.specs.Model.{Worker, Switching, Plan, Change, planned, decided, cleared, Sums, sums_at, cleaned, record_of, step_rule, worker_rule, plan, decide, collect, Standing, refusal, stands, step, Small}
use Rattle.ledger_laws.specs.Encode.{add_plan, seconds_given, clean_at, workers_given, before as earlier, logged, second_words, worker_words, change_words, past_from, no_change, Newest, slot_of, newest_of, laid, encode}
use Rattle.ledger_laws.specs.Run.{record_from, record_in}
use Rattle.ledger_laws.proofs.Given.{seconds_ascend, workers_ascend, held_sums, at_seconds, at_workers, length_seconds, length_workers, held_test, Sound, rule_steps, rule_seconds, rule_workers, few_seconds, few_workers, Fair, fair}
use Rattle.ledger_laws.proofs.WordWays.{judged_step, judged_worker, refused_step, refused_worker}
use Rattle.ledger_laws.proofs.Laid.{wide_second, wide_worker, wide_change, read_second, place_second, place_worker, pushed_change}
use Rattle.ledger_laws.proofs.Ring.{length_around, following_inside}
use Rattle.ledger_laws.proofs.Steps.{Room, added, put, past}

-- what holds of every standing that calls within the bounds reach
pub record Reached (s : Standing) : Type 0 where
  pub sound : Sound s.changes
  pub few : s.left ≤ changes_most
  pub there : s.left ≤ length s.changes

-- ---- there is room

roomy : (n m : ℕ) (ring : Newest) (workers : List (Worker × Switching)) (seconds : List (ℕ × Sums)) (rest : List ℕ) → room ≤ length (laid n m ring workers seconds rest)
unfolding laid
roomy n m ring workers seconds rest =
    rw (length-append, length_flat change_words change_wide wide_change, length_around, length_pad, length-append, length_flat worker_words worker_wide wide_worker, length_pad, length-append, length_flat second_words second_wide wide_second, length_pad) (omega arith)

pub wide_enough : (s : Standing) (rest : List ℕ) → room ≤ length (encode s rest)
unfolding encode
wide_enough s rest = roomy (length (seconds_given s.changes)) (length (workers_given s.changes)) (newest_of s) (workers_given s.changes) (seconds_given s.changes) rest

pub fit_seconds : (cs : List Change) → Sound cs → length (seconds_given cs) ≤ seconds_most
fit_seconds cs s = rw (length_seconds cs) (few_seconds cs s)

pub fit_workers : (cs : List Change) → Sound cs → length (workers_given cs) ≤ workers_most
fit_workers cs s = rw (length_workers cs) (few_workers cs s)

-- ---- the judges answer by the rules

module _ (s : Standing) (rest : List ℕ) (r : Reached s) where
  abbrev cs : List Change
  cs = s.changes

  abbrev E : List ℕ
  E = encode s rest

  held_some : (t : ℕ) → ltb 0 (sums_at t cs).steps ≡ true → at ltb eqb t (seconds_given cs) ≡ some (sums_at t cs)
  unfolding held_sums
  held_some t l = at_seconds t cs ∙ rw l

  pub by_rule : (t : ℕ) → step_judged E t ≡ step_rule t cs
  unfolding encode step_rule
  by_rule t =
      let o : Option Sums = held_sums (sums_at t cs) in
      judged_step E t (wide_enough s rest)
      ∙ refused_step E t (before ltb eqb t (seconds_given cs)) (length (seconds_given cs)) (is_held o) (sums_at t cs).steps
      (place_second (length (workers_given cs)) (newest_of s) (workers_given cs) rest t (seconds_given cs) (fit_seconds cs r.sound) (seconds_ascend cs) o (at_seconds t cs))
      (λ q. read_second (length (seconds_given cs)) (length (workers_given cs)) (newest_of s) (workers_given cs) rest t (seconds_given cs) (fit_seconds cs r.sound) (sums_at t cs) (held_some t (sym (held_test (sums_at t cs)) ∙ q)) steps_in (omega arith))
      ∙ rw (held_test (sums_at t cs), length_seconds cs)

  pub by_worker_rule : (w : Worker) → worker_judged E w.0 w.1 ≡ worker_rule w cs
  unfolding encode worker_rule
  by_worker_rule w =
      judged_worker E w.0 w.1 (wide_enough s rest)
      ∙ refused_worker E w.0 w.1 (before worker_less worker_same w (workers_given cs)) (length (workers_given cs)) (is_held (record_of w cs))
      (place_worker (length (seconds_given cs)) (newest_of s) (seconds_given cs) rest w (workers_given cs) (fit_workers cs r.sound) (workers_ascend cs) (record_of w cs) (at_workers w cs))
      ∙ rw (length_workers cs)

  -- a worker's record is read as its own standing changes give it
  pub record_read : (w : Worker) → past_of E w.0 w.1 ≡ past_from (record_of w cs)
  unfolding encode
  record_read w = past (length (seconds_given cs)) (newest_of s) (seconds_given cs) rest w (workers_given cs) (fit_workers cs r.sound) (workers_ascend cs) (record_of w cs) (at_workers w cs)

-- ---- the changes kept

pub slot_inside : (cs : List Change) → slot_of cs < changes_most
unfolding slot_of
slot_inside [] = omega arith
slot_inside (c ∷ cs) = following_inside (slot_of cs)

slots_more : (e : Change × Option Switching) (u left : ℕ) (q : Change × Option Switching) (log : List (Change × Option Switching)) → left ≤ suc u
    → q ∷ pad e u (take left log) ≡ pad e (suc u) (take (min (left + 1) (suc u)) (q ∷ log))
unfolding pad
slots_more e u left q log h = ⊎_elim (λ f. all f) (λ l. some_of l) (eq-or-lt_of_le h)
  where
    all : left ≡ suc u → q ∷ pad e u (take left log) ≡ pad e (suc u) (take (min (left + 1) (suc u)) (q ∷ log))
    all f = let m : min (left + 1) (suc u) ≡ suc u = omega arith in
        rw (m, f, pad_take e u (suc u) log (omega arith), pad_take e u u log (omega arith))

    some_of : left < suc u → q ∷ pad e u (take left log) ≡ pad e (suc u) (take (min (left + 1) (suc u)) (q ∷ log))
    some_of l = let m : min (left + 1) (suc u) ≡ suc left = omega arith in rw m

kept_more : (left : ℕ) (q : Change × Option Switching) (log : List (Change × Option Switching)) → left ≤ changes_most
    → q ∷ pad no_change (changes_most - 1) (take left log) ≡ pad no_change changes_most (take (min (left + 1) changes_most) (q ∷ log))
kept_more left q log h = slots_more no_change (changes_most - 1) left q log h

-- ---- a plan

room_for : (p : Plan) (cs : List Change) (m : ℕ) (ring : Newest) (workers : List (Worker × Switching)) (rest : List ℕ) → Small p → step_rule p.second cs ≡ 0 → Sound cs
    → Room m ring workers rest p (seconds_given cs) (held_sums (sums_at p.second cs))
unfolding Room held_sums
room_for p cs m ring workers rest small e sound =
    let f : Fair (sums_at p.second cs) = fair p.second cs sound in
    let h : (sums_at p.second cs).steps < steps_most = rule_steps p.second cs e in
    by_test (ltb 0 (sums_at p.second cs).steps)
    (λ l. rw l (
      omega (arith, f.drafts_few, f.sequences_few, small.drafts_small, small.sequences_small),
      omega (arith, f.sequences_few, small.sequences_small),
      omega (arith, f.committed_few, f.drafts_few, f.sequences_few, small.committed_small, small.drafts_small, small.sequences_small),
      omega arith,
    ))
    (λ l. rw l (rw (length_seconds cs) (rule_seconds p.second cs e l)))

plan_added : (p : Plan) (cs : List Change) (m : ℕ) (ring : Newest) (workers : List (Worker × Switching)) (rest : List ℕ) → Small p → step_rule p.second cs ≡ 0 → Sound cs
    → step_added (laid (length (seconds_given cs)) m ring workers (seconds_given cs) rest) p ≡ laid (length (add_plan p (seconds_given cs))) m ring workers (add_plan p (seconds_given cs)) rest
plan_added p cs m ring workers rest small e sound = added m ring workers rest p (seconds_given cs) (fit_seconds cs sound) (seconds_ascend cs) (held_sums (sums_at p.second cs)) (at_seconds p.second cs) (room_for p cs m ring workers rest small e sound)

-- the words after a plan of no worker
plain_done_lem : (p : Plan) (s : Standing) (rest : List ℕ) → Reached s → Small p → step_rule p.second s.changes ≡ 0
    → plain_done (encode s rest) p ≡ encode (stands (planned p) s) rest
unfolding plain_done encode slot_of seconds_given workers_given logged earlier change_words
plain_done_lem p s rest r small e =
    let cs : List Change = s.changes in
    ap (λ (l : List ℕ). pushed l (change_laid p 1 0 0 0 0 0 0)) (plan_added p cs (length (workers_given cs)) (newest_of s) (workers_given cs) rest small e r.sound)
    ∙ pushed_change (length (add_plan p (seconds_given cs))) (length (workers_given cs)) (workers_given cs) (add_plan p (seconds_given cs)) rest s.left (slot_of cs) (planned p, none) (take s.left (logged cs))
    (take (min (s.left + 1) changes_most) ((planned p, none) ∷ logged cs)) r.few (slot_inside cs) (kept_more s.left (planned p, none) (logged cs) r.few)

-- the words after a plan of a worker
decided_done_lem : (p : Plan) (w : Worker) (f : Option Switching → Switching) (s : Standing) (rest : List ℕ) → Reached s → Small p → worker_rule w s.changes ≡ 0 → step_rule p.second s.changes ≡ 0
    → decided_done (encode s rest) p w.0 w.1 (f (record_of w s.changes)).width (f (record_of w s.changes)).rounds (f (record_of w s.changes)).stall (past_from (record_of w s.changes))
    ≡ encode (stands (decided p w f) s) rest
unfolding decided_done encode slot_of seconds_given workers_given logged earlier change_words
decided_done_lem p w f s rest r small g e =
    let cs : List Change = s.changes in
    let q : Change × Option Switching = (decided p w f, record_of w cs) in
    let seconds : List (ℕ × Sums) = add_plan p (seconds_given cs) in
    let workers : List (Worker × Switching) = put_at worker_less worker_same w (f (record_of w cs)) (workers_given cs) in
    let words : List ℕ = change_laid p 1 (past_from (record_of w cs)).kind w.0 w.1 (past_from (record_of w cs)).width (past_from (record_of w cs)).rounds (past_from (record_of w cs)).stall in
    rw (at_workers w cs)
    (ap (λ (l : List ℕ). pushed (worker_put l w.0 w.1 (f (record_of w cs)).width (f (record_of w cs)).rounds (f (record_of w cs)).stall) words)
    (plan_added p cs (length (workers_given cs)) (newest_of s) (workers_given cs) rest small e r.sound)
    ∙ ap (λ (l : List ℕ). pushed l words)
    (put (length seconds) (newest_of s) seconds rest w (workers_given cs) (fit_workers cs r.sound) (workers_ascend cs) (f (record_of w cs)) (record_of w cs) (at_workers w cs) (λ l. rw (length_workers cs) (rule_workers w cs g l)))
    ∙ pushed_change (length seconds) (length workers) workers seconds rest s.left (slot_of cs) q (take s.left (logged cs))
    (take (min (s.left + 1) changes_most) (q ∷ logged cs)) r.few (slot_inside cs) (kept_more s.left q (logged cs) r.few))

-- the words after a collection
cleared_done : (w : Worker) (o : Switching) (s : Standing) (rest : List ℕ) → Reached s → record_of w s.changes ≡ some o
    → collected_done (encode s rest) w.0 w.1 (past_from (some o)) ≡ encode (stands (cleared w) s) rest
unfolding collected_done encode slot_of seconds_given workers_given logged earlier change_words clean_at
cleared_done w o s rest r e =
    let cs : List Change = s.changes in
    let q : Change × Option Switching = (cleared w, some o) in
    let held : at worker_less worker_same w (workers_given cs) ≡ some o = at_workers w cs ∙ e in
    let workers : List (Worker × Switching) = put_at worker_less worker_same w (cleaned o) (workers_given cs) in
    rw (held, e)
    (ap (λ (l : List ℕ). pushed l (change_laid no_step 0 2 w.0 w.1 o.width o.rounds o.stall))
    (put (length (seconds_given cs)) (newest_of s) (seconds_given cs) rest w (workers_given cs) (fit_workers cs r.sound) (workers_ascend cs) (cleaned o) (some o) held (λ l. absurd (not_both true refl l)))
    ∙ pushed_change (length (seconds_given cs)) (length workers) workers (seconds_given cs) rest s.left (slot_of cs) q (take s.left (logged cs))
    (take (min (s.left + 1) changes_most) (q ∷ logged cs)) r.few (slot_inside cs) (kept_more s.left q (logged cs) r.few))

-- ---- what each call answers and leaves

-- the words of one of two standings
of_two : (b : Bool) (x y : Standing) (rest : List ℕ) → cond b (encode x rest) (encode y rest) ≡ encode (cond b x y) rest
of_two true x y rest = refl
of_two false x y rest = refl

-- a refusal's number is not 0
not_zero : (x : Refusal) → eqb (number_of x) 0 ≡ false
not_zero x = ne_eqb (number_of x) 0 (λ e. omega (arith, no_zero x))

-- what is left by a judgement whose number the rules give
ruled : (j : Judgement) (n : ℕ) (ws after then : List ℕ) → number_in j ≡ n → (n ≡ 0 → after ≡ then) → unless j ws after ≡ (j, cond (eqb n 0) then ws)
ruled (Ok tt) n ws after then e h = rw (← e, h (sym e))
ruled (Err x) n ws after then e h = rw (← e, not_zero x)

-- the number of two judgements is that of the first that refuses
pub number_or_else : (x y : Judgement) → number_in (and_then x y) ≡ or_else (number_in x) (number_in y)
number_or_else (Ok tt) y = refl
number_or_else (Err x) y = rw (not_zero x)

-- the answer that a number stands for, and it stands for no other
abbrev pub answer_of : ℕ → Judgement
answer_of zero = Ok tt
answer_of (suc refused) = Err (get_or (NotAscii ∷ EmptyText ∷ WrongHeader ∷ FieldCount ∷ MalformedWhole ∷ MalformedDecimal ∷ LongDecimal ∷ StepSeconds ∷ NoDrafts ∷ NoRows ∷ Size ∷ Setting ∷ AbsentDraw ∷ Draw ∷ Input ∷ ShortBuffer ∷ WorkerRoom ∷ SecondRoom ∷ StepRoom ∷ NoSaneRows ∷ NoWithdrawal ∷ []) refused NotAscii)

answer_is : (answer : Judgement) → answer_of (number_in answer) ≡ answer
answer_is (Ok tt) = refl
answer_is (Err NotAscii) = refl
answer_is (Err EmptyText) = refl
answer_is (Err WrongHeader) = refl
answer_is (Err FieldCount) = refl
answer_is (Err MalformedWhole) = refl
answer_is (Err MalformedDecimal) = refl
answer_is (Err LongDecimal) = refl
answer_is (Err StepSeconds) = refl
answer_is (Err NoDrafts) = refl
answer_is (Err NoRows) = refl
answer_is (Err Size) = refl
answer_is (Err Setting) = refl
answer_is (Err AbsentDraw) = refl
answer_is (Err Draw) = refl
answer_is (Err Input) = refl
answer_is (Err ShortBuffer) = refl
answer_is (Err WorkerRoom) = refl
answer_is (Err SecondRoom) = refl
answer_is (Err StepRoom) = refl
answer_is (Err NoSaneRows) = refl
answer_is (Err NoWithdrawal) = refl

pub by_number : (answer : Judgement) (refused : ℕ) → number_in answer ≡ refused → answer ≡ answer_of refused
by_number answer refused e = sym (answer_is answer) ∙ ap answer_of e

pub plan_made : (p : Plan) (s : Standing) (rest : List ℕ) → Small p → Reached s
    → recorded (encode s rest) p Nothing ≡ (step_allowed (encode s rest) p.second, encode (step (plan p) s) rest)
unfolding recorded step refusal
plan_made p s rest small r =
    let n : ℕ = step_rule p.second s.changes in
    ruled (step_allowed (encode s rest) p.second) n (encode s rest) (plain_done (encode s rest) p) (encode (stands (planned p) s) rest) (by_rule s rest r p.second) (λ e. plain_done_lem p s rest r small e)
    ∙ ap (λ (l : List ℕ). (step_allowed (encode s rest) p.second, l)) (of_two (eqb n 0) (stands (planned p) s) s rest)

pub first_zero : (x y : ℕ) → eqb (or_else x y) 0 ≡ true → x ≡ 0
first_zero x y h = by_test (eqb x 0) (λ l. eqb-true x 0 l) (λ l. absurd (not_both (eqb x 0) (rw l at h) l))

pub then_zero : (x y : ℕ) → eqb (or_else x y) 0 ≡ true → y ≡ 0
then_zero x y h = by_test (eqb x 0) (λ l. eqb-true y 0 (rw l at h)) (λ l. absurd (not_both (eqb x 0) (rw l at h) l))

pub read_back : (o : Option Switching) → record_from (past_from o) ≡ o
unfolding record_from
read_back none = refl
read_back (some r) = refl

pub decide_made : (p : Plan) (w : Worker) (f : Option Switching → Switching) (s : Standing) (rest : List ℕ) → Small p → Reached s
    → recorded (encode s rest) p (Put w.0 w.1 (f (record_in (encode s rest) w)).width (f (record_in (encode s rest) w)).rounds (f (record_in (encode s rest) w)).stall)
    ≡ (and_then (worker_allowed (encode s rest) w.0 w.1) (step_allowed (encode s rest) p.second), encode (step (decide p w f) s) rest)
unfolding recorded step refusal record_in
decide_made p w f s rest small r =
    let cs : List Change = s.changes in
    let E : List ℕ = encode s rest in
    let rule : ℕ = or_else (worker_rule w cs) (step_rule p.second cs) in
    let both : Judgement = and_then (worker_allowed E w.0 w.1) (step_allowed E p.second) in
    let by : number_in both ≡ rule = number_or_else (worker_allowed E w.0 w.1) (step_allowed E p.second) ∙ rw (by_worker_rule s rest r w, by_rule s rest r p.second) in
    rw (record_read s rest r w, read_back (record_of w cs))
    (ruled both rule E (decided_done E p w.0 w.1 (f (record_of w cs)).width (f (record_of w cs)).rounds (f (record_of w cs)).stall (past_from (record_of w cs))) (encode (stands (decided p w f) s) rest) by
    (λ e. decided_done_lem p w f s rest r small (first_zero (worker_rule w cs) (step_rule p.second cs) (rw e)) (then_zero (worker_rule w cs) (step_rule p.second cs) (rw e)))
    ∙ ap (λ (l : List ℕ). (both, l)) (of_two (eqb rule 0) (stands (decided p w f) s) s rest))

-- the stall that a collection answers
abbrev pub stall_of : Option Switching → Result Float Refusal
stall_of none = Ok (of_bits binary64 0)
stall_of (some r) = Ok (of_bits binary64 r.stall)

pub collect_made : (w : Worker) (s : Standing) (rest : List ℕ) → Reached s → collected (encode s rest) w.0 w.1 ≡ (stall_of (record_of w s.changes), encode (step (collect w) s) rest)
unfolding collected step collected_of
collect_made w s rest r = rw (le-ltb (length (encode s rest)) room (wide_enough s rest), record_read s rest r w) (by_record (record_of w s.changes) refl)
  where
    by_record : (o : Option Switching) → record_of w s.changes ≡ o
        → ◌≡◌ {A = Result Float Refusal × List ℕ}
        (cond (eqb (past_from o).kind 2) (Ok (of_bits binary64 (past_from o).stall), collected_done (encode s rest) w.0 w.1 (past_from o)) (Ok (of_bits binary64 0), encode s rest))
        (stall_of o, encode (cond (is_held o) (stands (cleared w) s) s) rest)
    by_record none e = refl
    by_record (some o) e = rw (cleared_done w o s rest r e)
