-- The newest change taken back, on words that hold what stands: what is left is what the other changes give. Assumes nothing.
use mathlib.Core.Path.{◌≡◌, refl, sym, ap, ◌∙◌}
use mathlib.Core.Bool.{true, false}
use mathlib.Core.List.{List, [], ◌∷◌}
use mathlib.Core.Option.{Option, none, some}
use Prim.Native.Nat.{ℕ, zero, suc, ◌+◌, ◌-◌, ◌≤◌, ◌<◌, zero-le, suc-le-suc}
use native.Mathlib.Nat.{not-suc-le-zero, le_of_suc-le-suc, le_trans, min-le_left, add-zero}
use native.Mathlib.Numerals.{sub-one}
use native.Mathlib.Omega.{arith}
use borrow.Author.Tests.{ltb-true, lt-ltb, le-ltb}
use lib.Dec.{ltb, eqb}
use lib.ListN.{length, get_or, take, length-take}
use Rattle.ledger_rows.specs.Map.{at, put_at, Ascending}
use Rattle.ledger_rows.proofs.Tests.{by_test, not_both}
use Rattle.ledger_rows.specs.Layout.{room, available, seconds_most, workers_most, changes_most, change_wide, drafts_in, sequences_in, committed_in, planned_in, kind_in, worker_ain, worker_bin, width_in, rounds_in, stall_in}
use Rattle.ledger_workers.specs.Workers.{worker_less, worker_same}
use Rattle.ledger_changes.specs.Changes.{following, newest_at, popped, step_back, worker_back}
use Rattle.refusals.specs.declared.Refusal.TheVariants.{NoWithdrawal}
use Rattle.refusals.specs.Refusals.{passed_if}
use Rattle.ledger.specs.Calls.{withdrawn}
use Rattle.ledger_laws.specs.Model.{Worker, Switching, Plan, Change, planned, decided, cleared, Sums, sums_at, cleaned, record_of, back, Standing, step}
use Rattle.ledger_laws.specs.Encode.{add_plan, seconds_given, clean_at, workers_given, before as earlier, logged, change_words, past_from, Newest, slot_of, newest_of, laid, encode}
use Rattle.ledger_laws.proofs.Given.{seconds_ascend, workers_ascend, held_sums, at_seconds, at_workers, Sound}
use Rattle.ledger_laws.proofs.WordWays.{step_plan, step_none, worker_none, worker_new, worker_old}
use Rattle.ledger_laws.proofs.Laid.{held_changes, newest_word, popped_change}
use Rattle.ledger_laws.proofs.Steps.{removed, dropped, put_back}
use Rattle.ledger_laws.proofs.Forth.{slot_inside, fit_seconds, fit_workers, wide_enough}

held_steps : (s u : Sums) → held_sums s ≡ some u → 1 ≤ u.steps
unfolding held_sums
held_steps s u e = by_test (ltb 0 s.steps)
    (λ l. let f : some s ≡ some u = rw l at e in let g : s ≡ u = cc in rw (← g) (ltb-true 0 s.steps l))
    (λ l. let f : none ≡ some u = rw l at e in let z : ◌≡◌ {A = ℕ} 0 1 = cc in absurd (omega arith))

-- a ring whose newest change is q, in slot `slot`
abbrev ring_of : ℕ → ℕ → Change × Option Switching → List (Change × Option Switching) → Newest
ring_of k slot q log = record { left = k; slot = following slot; log = q ∷ log }

module _ (k slot : ℕ) (inside : slot < changes_most) (q : Change × Option Switching) (log : List (Change × Option Switching)) (few : length log ≤ changes_most - 1) where
  abbrev ring : Newest
  ring = ring_of k slot q log

  -- the newest change's words
  module _ (n m : ℕ) (workers : List (Worker × Switching)) (seconds : List (ℕ × Sums)) (rest : List ℕ) where
    abbrev ws : List ℕ
    ws = laid n m ring workers seconds rest

    word : (j : ℕ) → j < change_wide → get_or ws (newest_at ws + j) 0 ≡ get_or (change_words q) j 0
    word j h = newest_word n m workers seconds rest slot inside q log few k j h

    first_word : get_or ws (newest_at ws) 0 ≡ get_or (change_words q) 0 0
    first_word = ap (λ (i : ℕ). get_or ws i 0) (sym (add-zero (newest_at ws))) ∙ word 0 (omega arith)

  -- a plan's step
  step_undone : (m : ℕ) (workers : List (Worker × Switching)) (rest : List ℕ) (p : Plan) (seconds : List (ℕ × Sums))
      → get_or (change_words q) 0 0 ≡ p.second → get_or (change_words q) drafts_in 0 ≡ p.drafts → get_or (change_words q) sequences_in 0 ≡ p.sequences → get_or (change_words q) committed_in 0 ≡ p.committed → get_or (change_words q) planned_in 0 ≡ 1
      → length (add_plan p seconds) ≤ seconds_most → Ascending ltb eqb (add_plan p seconds) → ((u : Sums) → at ltb eqb p.second seconds ≡ some u → 1 ≤ u.steps)
      → step_back (laid (length (add_plan p seconds)) m ring workers (add_plan p seconds) rest) ≡ laid (length seconds) m ring workers seconds rest
  step_undone m workers rest p seconds a b c e d fits asc h =
      let now : List (ℕ × Sums) = add_plan p seconds in
      let has : (j : ℕ) → j < change_wide → get_or (ws (length now) m workers now rest) (newest_at (ws (length now) m workers now rest) + j) 0 ≡ get_or (change_words q) j 0 = word (length now) m workers now rest in
      step_plan (ws (length now) m workers now rest) p (has planned_in (omega arith) ∙ d) (first_word (length now) m workers now rest ∙ a) (has drafts_in (omega arith) ∙ b) (has sequences_in (omega arith) ∙ c) (has committed_in (omega arith) ∙ e)
      ∙ removed m ring workers rest p seconds fits asc h

  -- a worker's record
  worker_undone : (n : ℕ) (seconds : List (ℕ × Sums)) (rest : List ℕ) (w : Worker) (workers : List (Worker × Switching)) (r : Switching) (o : Option Switching)
      → get_or (change_words q) kind_in 0 ≡ (past_from o).kind → get_or (change_words q) worker_ain 0 ≡ w.0 → get_or (change_words q) worker_bin 0 ≡ w.1
      → get_or (change_words q) width_in 0 ≡ (past_from o).width → get_or (change_words q) rounds_in 0 ≡ (past_from o).rounds → get_or (change_words q) stall_in 0 ≡ (past_from o).stall
      → at worker_less worker_same w workers ≡ o → length (put_at worker_less worker_same w r workers) ≤ workers_most → Ascending worker_less worker_same (put_at worker_less worker_same w r workers)
      → worker_back (laid n (length (put_at worker_less worker_same w r workers)) ring (put_at worker_less worker_same w r workers) seconds rest) ≡ laid n (length workers) ring workers seconds rest
  worker_undone n seconds rest w workers r none a b c d e f held fits asc =
      let now : List (Worker × Switching) = put_at worker_less worker_same w r workers in
      let has : (j : ℕ) → j < change_wide → get_or (ws n (length now) now seconds rest) (newest_at (ws n (length now) now seconds rest) + j) 0 ≡ get_or (change_words q) j 0 = word n (length now) now seconds rest in
      worker_new (ws n (length now) now seconds rest) w.0 w.1 (has kind_in (omega arith) ∙ a) (has worker_ain (omega arith) ∙ b) (has worker_bin (omega arith) ∙ c)
      ∙ dropped n ring seconds rest w workers r fits asc held
  worker_undone n seconds rest w workers r (some o) a b c d e f held fits asc =
      let now : List (Worker × Switching) = put_at worker_less worker_same w r workers in
      let has : (j : ℕ) → j < change_wide → get_or (ws n (length now) now seconds rest) (newest_at (ws n (length now) now seconds rest) + j) 0 ≡ get_or (change_words q) j 0 = word n (length now) now seconds rest in
      worker_old (ws n (length now) now seconds rest) w.0 w.1 o.width o.rounds o.stall (has kind_in (omega arith) ∙ a) (has worker_ain (omega arith) ∙ b) (has worker_bin (omega arith) ∙ c) (has width_in (omega arith) ∙ d) (has rounds_in (omega arith) ∙ e) (has stall_in (omega arith) ∙ f)
      ∙ put_back n ring seconds rest w workers r o fits asc held

-- what stands without its newest change
abbrev under : ℕ → ℕ → Change → List Change → List (Change × Option Switching) → List ℕ → List ℕ
under k slot c cs log rest = laid (length (seconds_given cs)) (length (workers_given cs)) (ring_of k slot (c, earlier c cs) log) (workers_given cs) (seconds_given cs) rest

taken_back : (k slot : ℕ) (c : Change) (cs : List Change) (log : List (Change × Option Switching)) (rest : List ℕ) → Sound (c ∷ cs) → slot < changes_most → length log ≤ changes_most - 1
    → worker_back (step_back (laid (length (seconds_given (c ∷ cs))) (length (workers_given (c ∷ cs))) (ring_of k slot (c, earlier c cs) log) (workers_given (c ∷ cs)) (seconds_given (c ∷ cs)) rest)) ≡ under k slot c cs log rest
unfolding seconds_given workers_given earlier change_words Sound clean_at
taken_back k slot (planned p) cs log rest sound inside few =
    let q : Change × Option Switching = (planned p, none) in
    ap worker_back (step_undone k slot inside q log few (length (workers_given cs)) (workers_given cs) rest p (seconds_given cs) refl refl refl refl refl (fit_seconds (planned p ∷ cs) sound) (seconds_ascend (planned p ∷ cs)) (λ u e. held_steps (sums_at p.second cs) u (sym (at_seconds p.second cs) ∙ e)))
    ∙ worker_none (under k slot (planned p) cs log rest) (word k slot inside q log few (length (seconds_given cs)) (length (workers_given cs)) (workers_given cs) (seconds_given cs) rest kind_in (omega arith))
taken_back k slot (decided p w f) cs log rest sound inside few =
    let q : Change × Option Switching = (decided p w f, record_of w cs) in
    let r : Switching = f (at worker_less worker_same w (workers_given cs)) in
    let workers : List (Worker × Switching) = put_at worker_less worker_same w r (workers_given cs) in
    ap worker_back (step_undone k slot inside q log few (length workers) workers rest p (seconds_given cs) refl refl refl refl refl (fit_seconds (decided p w f ∷ cs) sound) (seconds_ascend (decided p w f ∷ cs)) (λ u e. held_steps (sums_at p.second cs) u (sym (at_seconds p.second cs) ∙ e)))
    ∙ worker_undone k slot inside q log few (length (seconds_given cs)) (seconds_given cs) rest w (workers_given cs) r (record_of w cs) refl refl refl refl refl refl (at_workers w cs) (fit_workers (decided p w f ∷ cs) sound) (workers_ascend (decided p w f ∷ cs))
taken_back k slot (cleared w) cs log rest sound inside few = by_record (record_of w cs) refl
  where
    by_record : (o : Option Switching) → record_of w cs ≡ o
        → worker_back (step_back (laid (length (seconds_given cs)) (length (clean_at w (at worker_less worker_same w (workers_given cs)) (workers_given cs))) (ring_of k slot (cleared w, record_of w cs) log) (clean_at w (at worker_less worker_same w (workers_given cs)) (workers_given cs)) (seconds_given cs) rest))
        ≡ laid (length (seconds_given cs)) (length (workers_given cs)) (ring_of k slot (cleared w, record_of w cs) log) (workers_given cs) (seconds_given cs) rest
    by_record none e = absurd (not_both false (rw e at sound.0) refl)
    by_record (some o) e =
        let held : at worker_less worker_same w (workers_given cs) ≡ some o = at_workers w cs ∙ e in
        let q : Change × Option Switching = (cleared w, some o) in
        let workers : List (Worker × Switching) = put_at worker_less worker_same w (cleaned o) (workers_given cs) in
        let fits : length workers ≤ workers_most = rw held at (fit_workers (cleared w ∷ cs) sound) in
        let asc : Ascending worker_less worker_same workers = rw held at (workers_ascend (cleared w ∷ cs)) in
        rw (held, e)
        (ap worker_back (step_none (laid (length (seconds_given cs)) (length workers) (ring_of k slot q log) workers (seconds_given cs) rest) (word k slot inside q log few (length (seconds_given cs)) (length workers) workers (seconds_given cs) rest planned_in (omega arith)))
        ∙ worker_undone k slot inside q log few (length (seconds_given cs)) (seconds_given cs) rest w (workers_given cs) (cleaned o) (some o) refl refl refl refl refl refl held fits asc)

-- as many as there are
pub left_is : (cs : List Change) (left : ℕ) (rest : List ℕ) → left ≤ changes_most → available (encode (record { changes = cs; left = left }) rest) ≡ left
unfolding encode
left_is cs left rest few = held_changes (length (seconds_given cs)) (length (workers_given cs)) (workers_given cs) (seconds_given cs) rest (newest_of (record { changes = cs; left = left })) few

-- the newest of them taken back and no longer kept
one_less : (c : Change) (cs : List Change) (j : ℕ) (rest : List ℕ) → Sound (c ∷ cs) → suc j ≤ changes_most
    → popped (worker_back (step_back (encode (record { changes = c ∷ cs; left = suc j }) rest))) (suc j) ≡ encode (record { changes = cs; left = j }) rest
unfolding encode logged slot_of
one_less c cs j rest sound few =
    let short : length (take j (logged cs)) ≤ changes_most - 1 = rw length-take (le_trans (min-le_left j (length (logged cs))) (le_of_suc-le-suc few)) in
    ap (λ (l : List ℕ). popped l (suc j)) (taken_back (suc j) (slot_of cs) c cs (take j (logged cs)) rest sound (slot_inside cs) short)
    ∙ popped_change (length (seconds_given cs)) (length (workers_given cs)) (workers_given cs) (seconds_given cs) rest (slot_of cs) (slot_inside cs) (c, earlier c cs) (take j (logged cs)) short j

pub back_made : (cs : List Change) (left : ℕ) (rest : List ℕ) → Sound cs → left ≤ changes_most → left ≤ length cs
    → withdrawn (encode (record { changes = cs; left = left }) rest) ≡ (passed_if (ltb 0 left) NoWithdrawal, encode (step back (record { changes = cs; left = left })) rest)
unfolding withdrawn step
back_made cs zero rest sound few there =
    rw (le-ltb (length (encode (record { changes = cs; left = zero }) rest)) room (wide_enough (record { changes = cs; left = zero }) rest), left_is cs zero rest few)
back_made [] (suc j) rest sound few there = absurd (not-suc-le-zero there)
back_made (c ∷ cs) (suc j) rest sound few there =
    let s : Standing = record { changes = c ∷ cs; left = suc j } in
    let pos : ltb 0 (suc j) ≡ true = lt-ltb 0 (suc j) (suc-le-suc zero-le) in
    rw (le-ltb (length (encode s rest)) room (wide_enough s rest), left_is (c ∷ cs) (suc j) rest few, pos, sub-one, one_less c cs j rest sound few)
