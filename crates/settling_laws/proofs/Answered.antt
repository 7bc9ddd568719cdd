-- WHAT AN ANSWER ABOUT A WIDTH MEANS, over a switching record and over the planner's own calls. Assumes nothing.
use mathlib.Core.Path.{◌≡◌, refl, sym, ap, ◌∙◌, subst}
use mathlib.Core.Logic.{inl, inr}
use mathlib.Core.Bool.{Bool, true, false, ◌&&◌, cond}
use mathlib.Core.List.{List, [], ◌∷◌}
use mathlib.Core.Option.{some}
use Prim.Native.Nat.{ℕ, zero, suc, ◌*◌, ◌≤◌, ◌<◌}
use native.Mathlib.Omega.{arith}
use lib.ListN.{length, get_or, drop, get_or-append}
use lib.Ieee.{Float}
use Rattle.laws.proofs.Both.{both}
use Rattle.float.proofs.Classes.{clash}
use Rattle.switch_settings.specs.Switch.{is_unconstrained}
use Rattle.switch_settings.specs.declared.MaxStep.{MaxStep}
use Rattle.width_walk.specs.Walk.{walk_candidates}
use Rattle.switching.specs.declared.Switching.{Switching}
use Rattle.ledger_workers.specs.Workers.{worker_same}
use Rattle.ledger_laws.specs.Model.{Worker, Switching as Held, record_of}
use Rattle.settings.specs.declared.Policy.{Policy}
use Rattle.settings.specs.declared.Policy.TheVariants.{Fixed, GoodputBudget, GatedBudget, GatedAggregate}
use Rattle.settings.specs.declared.Settings.{Settings}
use Rattle.asked_rooms.specs.declared.Ask.{Ask}
use Rattle.asking.specs.Asked.{Lent}
use Rattle.ledger_rows.specs.declared.layout.Past.{Past}
use Rattle.deciding.specs.Deciding.{all_at, best_in, decided_by}
use Rattle.planner.specs.Plan.{curve_of, best}
use Rattle.planner_laws.specs.Calls.{Call, plan, collect, withdraw}
use Rattle.planner_laws.specs.Standing.{Standing, given, step, after, is_plan, answer_on}
use Rattle.width_way.specs.Way.{is_candidate, stands_still, away_from, walks_for, pause, rounds_for, way, on_way, settled}
use Rattle.width_way.specs.declared.Settling.{Settling}
use Rattle.width_way.specs.declared.Settling.TheVariants.{Within, NoStep, NoCandidate, AtOnce}
use Rattle.std.specs.Prelude.{Ok, Err}
use Rattle.refusals.specs.Refusals.{Judgement}
use Rattle.settling.specs.Settling.{PricesLent, candidates_in, settles, settles_unless, settles_judged}
use Rattle.settling_laws.specs.Record.{Alike, after_all}
use Rattle.settling_laws.specs.Rounds.{is_aggregate, is_round, rounds_of, Still, AsBefore, EachRound, Premises}
use Rattle.settling_laws.specs.Asked.{prices_of, AskedAlike, Says}
use Rattle.settling_laws.proofs.Pacing.{walk}
use Rattle.settling_laws.proofs.Record.{width_settles, no_sooner, on_the_way}
use Rattle.settling_laws.proofs.Rest.{record_rests, calls_rest}
use Rattle.settling_laws.proofs.Settled.{Settled, width_settles as calls_settle}
use Rattle.settling_laws.proofs.Candidates.{plan_candidates}

-- ---- rounds that are asked for alike have the same candidates
gated : (p : Policy) → is_aggregate p ≡ true → p ≡ GatedAggregate
gated Fixed h = clash h
gated GoodputBudget h = clash h
gated GatedBudget h = clash h
gated GatedAggregate h = refl

module _ (s : Settings) (a : Ask) (p : PricesLent) (target : ℕ) where
  as_before : (v : Worker) (k : Call) (S : Standing) → is_round v k S ≡ true → AskedAlike s a p target k → AsBefore s.switch (candidates_in s a p) target k
  as_before v (plan t b l ds cs) S q same =
      let one = both (is_plan (answer_on t b l (length ds) (length cs) (given S.changes))) (is_aggregate t.policy && worker_same (b.a, b.b) v) q in
      let policy = gated t.policy (both (is_aggregate t.policy) (worker_same (b.a, b.b) v) one.1).0 in
      let alike : candidates_in t b (prices_of l) ≡ candidates_in s a p =
      ap (λ (lent : PricesLent). candidates_in t b lent) same.prices_same ∙ rw (same.gamma_same, same.model_same, same.depth_same, same.source_same, same.rows_same) in
      (same.switch_same, plan_candidates t b l policy (length ds) (length cs) (given S.changes) one.0 ∙ alike, same.target_same)
  as_before v (collect x y) S q same = tt
  as_before v withdraw S q same = tt

  premises : (v : Worker) (ks : List Call) (S : Standing) → EachRound v (AskedAlike s a p target) ks S → Premises v s.switch (candidates_in s a p) target ks S
  unfolding EachRound
  premises v [] S h = tt
  premises v (k ∷ ks) S h = (h.0, λ q. as_before v k S q (h.1 q), premises v ks (step k S) h.2)

-- ---- the way's entries stand at the front of the buffer
way_long : (step : MaxStep) (l : List ℕ) (target width n : ℕ) → length (way step l target width n) ≡ n
unfolding way
way_long step l target width zero = refl
way_long step l target width (suc n) = ap suc (way_long step l target (walk_candidates l width target step) n)

module _ (s : Settings) (a : Ask) (p : PricesLent) (width target : ℕ) (widths : List ℕ) where
  abbrev candidates : List ℕ
  candidates = candidates_in s a p

  abbrev answer : Settling × List ℕ
  answer = settles s a p width target widths

  settled_says : Says s a p target width widths (settled candidates width target s.switch widths).1 (settled candidates width target s.switch widths).0
  unfolding settled
  settled_says = go (is_unconstrained s.switch) (is_candidate candidates target) (stands_still s.switch.max_step) refl refl refl
    where
      go : (u i z : Bool) → is_unconstrained s.switch ≡ u → is_candidate candidates target ≡ i → stands_still s.switch.max_step ≡ z
          → let next = walk_candidates candidates width target s.switch.max_step in
          let away = away_from candidates width target in
          let m = walks_for s.switch.max_step away in
          let said : Settling × List ℕ = cond u (AtOnce, widths)
          (cond i (cond z (NoStep next, widths) (Within (rounds_for s.switch away) m, on_way s.switch.max_step candidates target width m widths)) (NoCandidate next, widths)) in
          Says s a p target width widths said.1 said.0
      go true i z e f g = (e, refl)
      go false true true e f g = (e, g, refl, refl)
      go false true false e f g = (record { constrained = e; steps = g; there = f }, refl, refl, refl)
      go false false z e f g = (e, f, refl, refl)

  -- THE ANSWER SAYS SO
  pub says : Says s a p target width widths answer.1 answer.0
  unfolding settles
  says = go (settles_judged s a p width (length widths))
    where
      go : (j : Judgement) → let said = settles_unless j (settled candidates width target s.switch widths) widths in Says s a p target width widths said.1 said.0
      go (Ok tt) = settled_says
      go (Err refusal) = refl

  -- ---- it settles
  module _ (rounds walks : ℕ) (e : answer.0 ≡ Within rounds walks) where
    within : Says s a p target width widths answer.1 (Within rounds walks)
    within = subst (Says s a p target width widths answer.1) e says

    -- the planner's rounds for the worker, after so many of which its width is the target
    pub calls_are_enough : (v : Worker) (ks : List Call) (S : Standing) (r : Held) → record_of v (given S.changes) ≡ some r → r.width ≡ width
        → EachRound v (AskedAlike s a p target) ks S → rounds ≤ rounds_of v ks S → Settled (record_of v (given (after ks S).changes)) target
    calls_are_enough v ks S r is at each many =
        calls_settle v s.switch candidates target within.0 ks S r is (premises s a p target v ks S each)
        (subst (λ (n : ℕ). n ≤ rounds_of v ks S) (within.1 ∙ ap (λ (w : ℕ). rounds_for s.switch (away_from candidates w target)) (sym at)) many)

    -- over a record by itself
    module _ (r : Switching) (at : r.width ≡ width) (curves : List (List Float)) (alike : Alike candidates curves) where
      rounds_are : rounds ≡ rounds_for s.switch (away_from candidates r.width target)
      rounds_are = within.1 ∙ ap (λ (w : ℕ). rounds_for s.switch (away_from candidates w target)) (sym at)

      pub rounds_are_enough : rounds ≤ length curves → (after_all s.switch target r curves).width ≡ target
      rounds_are_enough many =
          width_settles s.switch candidates target r curves alike within.0.steps within.0.there (subst (λ (n : ℕ). n ≤ length curves) rounds_are many)

      pub fewer_are_not : r.rounds ≡ 0 → (width ≡ target → ⊥) → length curves < rounds → (after_all s.switch target r curves).width ≡ target → ⊥
      fewer_are_not fresh apart early =
          no_sooner s.switch candidates target r curves alike within.0.steps within.0.there (λ is. apart (sym at ∙ is))
          (let k = rounds_are in omega (arith, fresh, early, k))

      -- entry k of the buffer is the width after walk k + 1
      pub widths_are : (k : ℕ) → k < walks → r.rounds ≡ 0 → length curves ≡ suc k * pause s.switch → (after_all s.switch target r curves).width ≡ get_or answer.1 k 0
      widths_are k inside fresh many =
          let step : MaxStep = s.switch.max_step in
          let long = way_long step candidates target width walks in
          on_the_way s.switch candidates target r curves alike walks k inside fresh many
          ∙ ap (λ (w : ℕ). get_or (way step candidates target w walks) k 0) at
          ∙ sym (get_or-append (way step candidates target width walks) (drop walks widths) 0 k (omega (arith, long, inside)))
          ∙ ap (λ (x : List ℕ). get_or x k 0) (sym within.3)

  -- ---- it never does: the width that is answered is where it stays from the first walk on
  pub record Rests (w : ℕ) : Type 0 where
    pub by_record : (r : Switching) (curves : List (List Float)) → r.width ≡ width → Alike candidates curves
        → pause s.switch ≤ length curves → (after_all s.switch target r curves).width ≡ w
    pub by_calls : (v : Worker) (ks : List Call) (S : Standing) (r : Held) → record_of v (given S.changes) ≡ some r → r.width ≡ width
        → EachRound v (AskedAlike s a p target) ks S → pause s.switch ≤ rounds_of v ks S → Settled (record_of v (given (after ks S).changes)) w

  rests_at : (w : ℕ) → is_unconstrained s.switch ≡ false → Still s.switch candidates target → w ≡ walk s.switch candidates target width → Rests w
  rests_at w bound still e = record {
    by_record = λ r curves at alike many. (record_rests s.switch candidates target still r curves alike).1 many ∙ ap (walk s.switch candidates target) at ∙ sym e;
    by_calls = λ v ks S r is at each many.
        subst (Settled (record_of v (given (after ks S).changes))) (ap (walk s.switch candidates target) at ∙ sym e)
        (calls_rest v s.switch candidates target bound still ks S r is (premises s a p target v ks S each) many);
  }

  pub no_step_stays : (w : ℕ) → answer.0 ≡ NoStep w → Rests w
  no_step_stays w e = let said = subst (Says s a p target width widths answer.1) e says in rests_at w said.0 (inl said.1) said.2

  pub no_candidate_stays : (w : ℕ) → answer.0 ≡ NoCandidate w → Rests w
  no_candidate_stays w e = let said = subst (Says s a p target width widths answer.1) e says in rests_at w said.0 (inr said.1) said.2

  -- ---- it is there at once: every plan drafts its best depth, and no record is used
  pub at_once : answer.0 ≡ AtOnce → (t : Settings) (b : Ask) (l : Lent) (past : Past) → t.switch ≡ s.switch → decided_by (best t b l) t b l (curve_of t b l) GatedAggregate past ≡ all_at b.sequences (best_in (best t b l) t b l (curve_of t b l))
  unfolding decided_by
  at_once e t b l past same = let said = subst (Says s a p target width widths answer.1) e says in rw (same, said.0)
