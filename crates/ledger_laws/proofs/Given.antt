-- What the standing changes give: the lists ascend, hold at each second the sums over its plans and at each worker its record, and stay within the
-- sizes. Assumes nothing.
use mathlib.Core.Path.{◌≡◌, refl, sym, ap, ◌∙◌}
use mathlib.Core.Bool.{true, false, cond}
use mathlib.Core.List.{List, [], ◌∷◌}
use mathlib.Core.Option.{Option, none, some}
use Prim.Native.Nat.{ℕ, suc, ◌+◌, ◌*◌, ◌≤◌, ◌<◌, zero-le}
use native.Mathlib.Omega.{arith}
use borrow.Author.Tests.{ltb-true, ltb-false, lt-ltb, eqb-true}
use lib.Dec.{ltb, eqb}
use lib.ListN.{length}
use Rattle.ledger_rows.specs.Map.{at, put_at, Ascending, is_held}
use Rattle.ledger_rows.proofs.Tests.{by_test}
use Rattle.ledger_rows.proofs.Maps.{at_put, at_put_other, ascending_put, length_put}
use Rattle.ledger_rows.specs.Layout.{seconds_most, workers_most, steps_most}
use Rattle.ledger_workers.specs.Workers.{worker_less, worker_same}
use Rattle.ledger_laws.specs.Model.{Worker, Switching, Plan, Change, planned, decided, cleared, Sums, nothing_yet, more, counted, sums_at, cleaned, cleaned_of, record_of, seconds_of, workers_of, step_rule, worker_rule, Small}
use Rattle.ledger_laws.specs.Encode.{first_of, grown, add_plan, seconds_given, clean_at, workers_given}
use Rattle.ledger_laws.proofs.Orders.{second_order, worker_order}

-- ---- the lists ascend

pub seconds_ascend : (cs : List Change) → Ascending ltb eqb (seconds_given cs)
unfolding seconds_given add_plan Ascending
seconds_ascend [] = tt
seconds_ascend (planned p ∷ cs) = ascending_put ltb eqb second_order p.second (grown p (at ltb eqb p.second (seconds_given cs))) (seconds_given cs) (seconds_ascend cs)
seconds_ascend (decided p w f ∷ cs) = ascending_put ltb eqb second_order p.second (grown p (at ltb eqb p.second (seconds_given cs))) (seconds_given cs) (seconds_ascend cs)
seconds_ascend (cleared w ∷ cs) = seconds_ascend cs

clean_ascends : (w : Worker) (o : Option Switching) (rows : List (Worker × Switching)) → Ascending worker_less worker_same rows → Ascending worker_less worker_same (clean_at w o rows)
unfolding clean_at
clean_ascends w none rows a = a
clean_ascends w (some r) rows a = ascending_put worker_less worker_same worker_order w (cleaned r) rows a

pub workers_ascend : (cs : List Change) → Ascending worker_less worker_same (workers_given cs)
unfolding workers_given Ascending
workers_ascend [] = tt
workers_ascend (planned p ∷ cs) = workers_ascend cs
workers_ascend (decided p w f ∷ cs) = ascending_put worker_less worker_same worker_order w (f (at worker_less worker_same w (workers_given cs))) (workers_given cs) (workers_ascend cs)
workers_ascend (cleared w ∷ cs) = clean_ascends w (at worker_less worker_same w (workers_given cs)) (workers_given cs) (workers_ascend cs)

-- ---- the sums at a second

-- a second without a step has no sums
counted_none : (t : ℕ) (p : Plan) (s : Sums) → (s.steps ≡ 0 → s ≡ nothing_yet) → (counted t p s).steps ≡ 0 → counted t p s ≡ nothing_yet
unfolding counted
counted_none t p s h e = by_test (eqb p.second t)
    (λ q. let z : s.steps + 1 ≡ 0 = rw q at e in absurd (omega arith))
    (λ q. rw q (h (rw q at e)))

pub no_steps : (t : ℕ) (cs : List Change) → (sums_at t cs).steps ≡ 0 → sums_at t cs ≡ nothing_yet
unfolding sums_at
no_steps t [] e = refl
no_steps t (planned p ∷ cs) e = counted_none t p (sums_at t cs) (no_steps t cs) e
no_steps t (decided p w f ∷ cs) e = counted_none t p (sums_at t cs) (no_steps t cs) e
no_steps t (cleared w ∷ cs) e = no_steps t cs e

-- sums are held where there is a step
unfoldable pub held_sums : Sums → Option Sums
held_sums s = cond (ltb 0 s.steps) (some s) none

first_more : (p : Plan) → first_of p ≡ more p nothing_yet
first_more p = let a : 0 + p.drafts ≡ p.drafts = omega arith in let b : 0 + p.sequences ≡ p.sequences = omega arith in let c : 0 + p.committed ≡ p.committed = omega arith in rw (a, b, c)

grown_held : (p : Plan) (s : Sums) → (s.steps ≡ 0 → s ≡ nothing_yet) → grown p (held_sums s) ≡ more p s
unfolding grown held_sums
grown_held p s h = by_test (ltb 0 s.steps)
    (λ q. rw q)
    (λ q. let z : s.steps ≡ 0 = omega (arith, ltb-false 0 s.steps q) in
    let e : s ≡ nothing_yet = h z in
    rw q (first_more p ∙ ap (more p) (sym e)))

held_more : (p : Plan) (s : Sums) → held_sums (more p s) ≡ some (more p s)
unfolding held_sums
held_more p s = rw (lt-ltb 0 (s.steps + 1) (omega arith))

at_added : (t : ℕ) (p : Plan) (rows : List (ℕ × Sums)) (s : ℕ → Sums) → ((j : ℕ) → at ltb eqb j rows ≡ held_sums (s j)) → ((s t).steps ≡ 0 → s t ≡ nothing_yet)
    → at ltb eqb t (add_plan p rows) ≡ held_sums (counted t p (s t))
unfolding add_plan counted
at_added t p rows s h z = by_test (eqb p.second t)
    (λ q. let e : p.second ≡ t = eqb-true p.second t q in
    rw q
    (ap (λ (k : ℕ). at ltb eqb t (put_at ltb eqb k (grown p (at ltb eqb k rows)) rows)) e
    ∙ at_put ltb eqb second_order t (grown p (at ltb eqb t rows)) rows
    ∙ ap (λ (o : Option Sums). some (grown p o)) (h t)
    ∙ ap (λ (x : Sums). some x) (grown_held p (s t) z)
    ∙ sym (held_more p (s t))))
    (λ q. rw (q, at_put_other ltb eqb second_order p.second (grown p (at ltb eqb p.second rows)) rows t q) (h t))

pub at_seconds : (t : ℕ) (cs : List Change) → at ltb eqb t (seconds_given cs) ≡ held_sums (sums_at t cs)
unfolding seconds_given sums_at at held_sums
at_seconds t [] = refl
at_seconds t (planned p ∷ cs) = at_added t p (seconds_given cs) (λ j. sums_at j cs) (λ j. at_seconds j cs) (no_steps t cs)
at_seconds t (decided p w f ∷ cs) = at_added t p (seconds_given cs) (λ j. sums_at j cs) (λ j. at_seconds j cs) (no_steps t cs)
at_seconds t (cleared w ∷ cs) = at_seconds t cs

-- ---- a worker's record

at_cleaned : (w v : Worker) (rows : List (Worker × Switching)) (o : Option Switching) → at worker_less worker_same v rows ≡ o
    → at worker_less worker_same w (clean_at v o rows) ≡ cond (worker_same v w) (cleaned_of (at worker_less worker_same w rows)) (at worker_less worker_same w rows)
unfolding clean_at cleaned_of
at_cleaned w v rows none h = by_test (worker_same v w)
    (λ q. let e : v ≡ w = worker_order.equal v w q in let g : at worker_less worker_same w rows ≡ none = rw e at h in rw (q, g))
    (λ q. rw q)
at_cleaned w v rows (some r) h = by_test (worker_same v w)
    (λ q. let e : v ≡ w = worker_order.equal v w q in let g : at worker_less worker_same w rows ≡ some r = rw e at h in
    rw (q, g, e) (at_put worker_less worker_same worker_order w (cleaned r) rows))
    (λ q. rw q (at_put_other worker_less worker_same worker_order v (cleaned r) rows w q))

pub at_workers : (w : Worker) (cs : List Change) → at worker_less worker_same w (workers_given cs) ≡ record_of w cs
unfolding workers_given record_of at
at_workers w [] = refl
at_workers w (planned p ∷ cs) = at_workers w cs
at_workers w (decided p v f ∷ cs) = by_test (worker_same v w)
    (λ q. let e : v ≡ w = worker_order.equal v w q in
    rw (q, e) (at_put worker_less worker_same worker_order w (f (at worker_less worker_same w (workers_given cs))) (workers_given cs) ∙ rw (at_workers w cs)))
    (λ q. rw q (at_put_other worker_less worker_same worker_order v (f (at worker_less worker_same v (workers_given cs))) (workers_given cs) w q ∙ at_workers w cs))
at_workers w (cleared v ∷ cs) = at_cleaned w v (workers_given cs) (at worker_less worker_same v (workers_given cs)) refl ∙ rw (at_workers w cs)

-- ---- how many

pub held_test : (s : Sums) → is_held (held_sums s) ≡ ltb 0 s.steps
unfolding held_sums
held_test s = by_test (ltb 0 s.steps) (λ q. rw q) (λ q. rw q)

length_added : (p : Plan) (rows : List (ℕ × Sums)) (s : Sums) → at ltb eqb p.second rows ≡ held_sums s → length (add_plan p rows) ≡ cond (ltb 0 s.steps) (length rows) (suc (length rows))
unfolding add_plan
length_added p rows s h = length_put ltb eqb second_order p.second (grown p (at ltb eqb p.second rows)) rows ∙ rw (h, held_test s)

pub length_seconds : (cs : List Change) → length (seconds_given cs) ≡ seconds_of cs
unfolding seconds_given seconds_of
length_seconds [] = refl
length_seconds (planned p ∷ cs) = length_added p (seconds_given cs) (sums_at p.second cs) (at_seconds p.second cs) ∙ rw (length_seconds cs)
length_seconds (decided p w f ∷ cs) = length_added p (seconds_given cs) (sums_at p.second cs) (at_seconds p.second cs) ∙ rw (length_seconds cs)
length_seconds (cleared w ∷ cs) = length_seconds cs

length_cleaned : (w : Worker) (o : Option Switching) (rows : List (Worker × Switching)) → at worker_less worker_same w rows ≡ o → length (clean_at w o rows) ≡ length rows
unfolding clean_at
length_cleaned w none rows h = refl
length_cleaned w (some r) rows h = length_put worker_less worker_same worker_order w (cleaned r) rows ∙ rw h

pub length_workers : (cs : List Change) → length (workers_given cs) ≡ workers_of cs
unfolding workers_given workers_of
length_workers [] = refl
length_workers (planned p ∷ cs) = length_workers cs
length_workers (decided p w f ∷ cs) = length_put worker_less worker_same worker_order w (f (at worker_less worker_same w (workers_given cs))) (workers_given cs) ∙ rw (at_workers w cs, length_workers cs)
length_workers (cleared w ∷ cs) = length_cleaned w (at worker_less worker_same w (workers_given cs)) (workers_given cs) refl ∙ length_workers cs

-- ---- what the accepted changes keep

-- each change was within the bounds, and accepted where it was made
unfoldable pub Sound : List Change → Type 0
Sound [] = Unit
Sound (planned p ∷ cs) = Small p × (step_rule p.second cs ≡ 0) × Sound cs
Sound (decided p w f ∷ cs) = Small p × (worker_rule w cs ≡ 0) × (step_rule p.second cs ≡ 0) × Sound cs
Sound (cleared w ∷ cs) = (is_held (record_of w cs) ≡ true) × Sound cs

pub rule_steps : (t : ℕ) (cs : List Change) → step_rule t cs ≡ 0 → (sums_at t cs).steps < steps_most
unfolding step_rule
rule_steps t cs e = by_test (ltb 0 (sums_at t cs).steps)
    (λ l. by_test (ltb (sums_at t cs).steps steps_most) (λ m. ltb-true _ _ m) (λ m. let z : 19 ≡ 0 = rw (l, m) at e in absurd (omega arith)))
    (λ l. let h : (sums_at t cs).steps ≤ 0 = ltb-false 0 (sums_at t cs).steps l in omega arith)

pub rule_seconds : (t : ℕ) (cs : List Change) → step_rule t cs ≡ 0 → ltb 0 (sums_at t cs).steps ≡ false → seconds_of cs < seconds_most
unfolding step_rule
rule_seconds t cs e l = by_test (ltb (seconds_of cs) seconds_most) (λ m. ltb-true _ _ m) (λ m. let z : 18 ≡ 0 = rw (l, m) at e in absurd (omega arith))

pub rule_workers : (w : Worker) (cs : List Change) → worker_rule w cs ≡ 0 → is_held (record_of w cs) ≡ false → workers_of cs < workers_most
unfolding worker_rule
rule_workers w cs e l = by_test (ltb (workers_of cs) workers_most) (λ m. ltb-true _ _ m) (λ m. let z : 17 ≡ 0 = rw (l, m) at e in absurd (omega arith))

one_more : (t : ℕ) (cs : List Change) → step_rule t cs ≡ 0 → seconds_of cs ≤ seconds_most → cond (ltb 0 (sums_at t cs).steps) (seconds_of cs) (suc (seconds_of cs)) ≤ seconds_most
one_more t cs e h = by_test (ltb 0 (sums_at t cs).steps) (λ l. rw l h) (λ l. rw l (rule_seconds t cs e l))

pub few_seconds : (cs : List Change) → Sound cs → seconds_of cs ≤ seconds_most
unfolding Sound seconds_of
few_seconds [] s = zero-le
few_seconds (planned p ∷ cs) s = one_more p.second cs s.1 (few_seconds cs s.2)
few_seconds (decided p w f ∷ cs) s = one_more p.second cs s.2 (few_seconds cs s.3)
few_seconds (cleared w ∷ cs) s = few_seconds cs s.1

pub few_workers : (cs : List Change) → Sound cs → workers_of cs ≤ workers_most
unfolding Sound workers_of
few_workers [] s = zero-le
few_workers (planned p ∷ cs) s = few_workers cs s.2
few_workers (decided p w f ∷ cs) s = by_test (is_held (record_of w cs)) (λ l. rw l (few_workers cs s.3)) (λ l. rw l (rule_workers w cs s.1 l))
few_workers (cleared w ∷ cs) s = few_workers cs s.1

-- a second's steps bound its sums: committed ≤ drafts ≤ 64 * sequences, and each step has 1 to 1,024 sequences
pub record Fair (s : Sums) : Type 0 where
  pub few : s.steps ≤ steps_most
  pub some_sequences : s.steps ≤ s.sequences
  pub sequences_few : s.sequences ≤ 1024 * s.steps
  pub drafts_few : s.drafts ≤ 64 * s.sequences
  pub committed_few : s.committed ≤ s.drafts

fair_more : (p : Plan) (s : Sums) → Small p → s.steps < steps_most → Fair s → Fair (more p s)
fair_more p s small h f = record {
  few = omega arith;
  some_sequences = omega (arith, small.some_sequences, f.some_sequences);
  sequences_few = omega (arith, small.sequences_small, f.sequences_few);
  drafts_few = omega (arith, small.drafts_small, f.drafts_few);
  committed_few = omega (arith, small.committed_small, f.committed_few);
}

fair_counted : (t : ℕ) (p : Plan) (cs : List Change) → Small p → step_rule p.second cs ≡ 0 → Fair (sums_at t cs) → Fair (counted t p (sums_at t cs))
unfolding counted
fair_counted t p cs small e f = by_test (eqb p.second t)
    (λ q. let s : p.second ≡ t = eqb-true p.second t q in
    let g : step_rule t cs ≡ 0 = rw s at e in
    rw q (fair_more p (sums_at t cs) small (rule_steps t cs g) f))
    (λ q. rw q f)

pub fair : (t : ℕ) (cs : List Change) → Sound cs → Fair (sums_at t cs)
unfolding Sound sums_at
fair t [] s = record { few = omega arith; some_sequences = omega arith; sequences_few = omega arith; drafts_few = omega arith; committed_few = omega arith }
fair t (planned p ∷ cs) s = fair_counted t p cs s.0 s.1 (fair t cs s.2)
fair t (decided p w f ∷ cs) s = fair_counted t p cs s.0 s.2 (fair t cs s.3)
fair t (cleared w ∷ cs) s = fair t cs s.1
