-- WHICH NUMBERS a plan may refuse by, on any content of the storage, and that 17 is for a constrained GatedAggregate alone. Assumes nothing.
use mathlib.Core.Path.{◌≡◌, refl, sym, ap, ◌∙◌}
use mathlib.Core.Logic.{◌⊎◌, inl, inr, ⊎_elim}
use mathlib.Core.Bool.{Bool, true, false, ◌&&◌, cond}
use mathlib.Core.List.{List, [], ◌∷◌}
use Prim.Native.Nat.{ℕ, zero, suc, ◌+◌, ◌≤◌, ◌<◌}
use native.Mathlib.Omega.{arith}
use lib.Dec.{leb, ltb, eqb}
use lib.Ieee.{Float}
use lib.ListN.{length, get_or, take, drop}
use Rattle.std.specs.Prelude.{Result, Ok, Err}
use Rattle.refusals.specs.declared.Refusal.{Refusal}
use Rattle.refusals.specs.declared.Refusal.TheVariants.{Size, Setting, AbsentDraw, Draw, Input, ShortBuffer, WorkerRoom, SecondRoom, StepRoom}
use Rattle.refusals.specs.Refusals.{Judgement, passed_if, and_then, number_of, number_in, first_of}
use Rattle.numeral.specs.Moment.{second_of}
use Rattle.acceptance.specs.declared.AcceptanceModel.{AcceptanceModel}
use Rattle.acceptance.specs.declared.AcceptanceModel.TheVariants.{Constant, PerPosition, Trace}
use Rattle.acceptance.specs.declared.Sample.{Sample}
use Rattle.acceptance.specs.Acceptance.{is_model, model_judged, model_refusal, sampled}
use Rattle.acceptance.proofs.Draws.{draw_refused}
use Rattle.speculative.specs.Drafter.{is_drafter, drafter_judged, drafter_refusal}
use Rattle.float.specs.Floats.{f0}
use Rattle.float.specs.Range.{in_range}
use Rattle.switch_settings.specs.Switch.{most_cost, is_unconstrained, switch_judged}
use Rattle.ledger_rows.specs.Layout.{seconds_most, workers_most, steps_most, second_at, room, steps_in}
use Rattle.ledger_rows.proofs.Tests.{by_test, not_both}
use Rattle.ledger_acts.specs.Acts.{place_allows, step_allows, worker_allows}
use Rattle.ledger_seconds.specs.Seconds.{second_place}
use Rattle.ledger_workers.specs.Workers.{worker_place, past_of}
use Rattle.ledger.specs.Calls.{step_allowed, worker_allowed, step_judged, worker_judged}
use Rattle.settings.specs.declared.Policy.{Policy}
use Rattle.settings.specs.declared.Policy.TheVariants.{Fixed, GoodputBudget, GatedBudget, GatedAggregate}
use Rattle.settings.specs.declared.Settings.{Settings}
use Rattle.settings.specs.Settings.{settings_judged, settings_refusal, gamma_in, uses_signals, is_trace}
use Rattle.rounds.specs.Drawing.{and_used, sequence_then, analytic, replayed}
use Rattle.rounds.specs.declared.drawing.Drawn.{Drawn}
use Rattle.rounds.specs.declared.drawing.Drawn.TheVariants.{Used, Refused as NotDrawn}
use Rattle.asked_rooms.specs.declared.Ask.{Ask}
use Rattle.rounds.specs.Signals.{are_finite}
use Rattle.asked_rooms.specs.declared.Lengths.{Lengths}
use Rattle.asking.specs.Asked.{Lent, lengths_of, costs_valued, asked_judged, asked_refusal, values_judged, values_refusal}
use Rattle.asking.specs.Values.{policy_valued}
use Rattle.asked_rooms.specs.Rooms.{own_rooms, cost_rooms, bank_rooms, rooms_judged, rooms_refusal}
use Rattle.asked_rooms.specs.Sizes.{bank_fits, table_fits, sizes_judged, sizes_refusal}
use Rattle.deciding.specs.Deciding.{Decided, decided_by}
use Rattle.judged_plans.specs.declared.Planned.TheVariants.{Refused}
use Rattle.planner.specs.Plan.{Left, depth_of, curve_of, drawn_by, drawn, drawn_refusal, signals_refusal, best, is_put, plan_refusal, made, unless_refused, nothing_planned, planned}

-- ---- the numbers: whatever holds of these holds of every number that a plan refuses by

pub record Numbers (P : ℕ → Type 0) : Type 0 where
  pub none : P 0
  pub eleven : P 11
  pub twelve : P 12
  pub thirteen : P 13
  pub fourteen : P 14
  pub fifteen : P 15
  pub sixteen : P 16
  pub eighteen : P 18
  pub nineteen : P 19

module _ (P : ℕ → Type 0) where
  either : (b : Bool) (x y : ℕ) → P x → P y → P (cond b x y)
  either true x y p q = p
  either false x y p q = q

  -- the same of a judgement's number
  either_judged : (b : Bool) (x y : Judgement) → P (number_in x) → P (number_in y) → P (number_in (cond b x y))
  either_judged true x y p q = p
  either_judged false x y p q = q

  first_judged : (x y : Judgement) → P (number_in x) → P (number_in y) → P (number_in (and_then x y))
  first_judged (Ok tt) y p q = q
  first_judged (Err r) y p q = p

  first : (x y : ℕ) → P x → P y → P (first_of x y)
  first zero y p q = q
  first (suc x) y p q = p

  module _ (thirteen : P 13) (fourteen : P 14) where
    -- a draw is refused 13 or 14
    drawn_by_lem : (r : ℕ) → (r ≡ 13) ⊎ (r ≡ 14) → P r
    drawn_by_lem r h = ⊎_elim (λ (e : r ≡ 13). rw e thirteen) (λ (e : r ≡ 14). rw e fourteen) h

    after_draws : (more : ℕ) (d : Drawn) (r : ℕ) → ((k : ℕ) → d ≡ NotDrawn k → P k) → and_used more d ≡ NotDrawn r → P r
    after_draws more (Used u) r h e = absurd (let z : ◌≡◌ {A = ℕ} 0 1 = cc in omega arith)
    after_draws more (NotDrawn k) r h e = h r e

    analytic_numbers : (model : AcceptanceModel) (positions : List Float) (gamma k : ℕ) (draws : List Float) (r : ℕ) → (analytic model positions gamma k draws).answer ≡ NotDrawn r → P r
    unfolding analytic
    analytic_numbers model positions gamma zero draws r e = absurd (let z : ◌≡◌ {A = ℕ} 0 1 = cc in omega arith)
    analytic_numbers model positions gamma (suc k) draws r e =
        go (sampled model positions 0 gamma draws) refl e (λ (u : ℕ). analytic_numbers model positions gamma k (drop u draws))
      where
        go : (t : Result Sample Refusal) → sampled model positions 0 gamma draws ≡ t → (sequence_then t (λ u. analytic model positions gamma k (drop u draws))).answer ≡ NotDrawn r
            → ((u q : ℕ) → (analytic model positions gamma k (drop u draws)).answer ≡ NotDrawn q → P q) → P r
        go (Ok sample) q h ih = after_draws sample.used (analytic model positions gamma k (drop sample.used draws)).answer r (ih sample.used) h
        go (Err m) q h ih =
            let z : number_of m ≡ r = cc in
            ⊎_elim (λ (e : m ≡ AbsentDraw). drawn_by_lem r (inl (sym z ∙ ap number_of e))) (λ (e : m ≡ Draw). drawn_by_lem r (inr (sym z ∙ ap number_of e))) (draw_refused model positions 0 gamma draws m q)

    replayed_numbers : (commits : List ℕ) (rounds k : ℕ) (indices : List ℕ) (r : ℕ) → (replayed commits rounds k indices).answer ≡ NotDrawn r → P r
    unfolding replayed
    replayed_numbers commits rounds zero indices r e = absurd (let z : ◌≡◌ {A = ℕ} 0 1 = cc in omega arith)
    replayed_numbers commits rounds (suc k) [] r e = drawn_by_lem r (inl (cc))
    replayed_numbers commits rounds (suc k) (i ∷ indices) r e = by_test (ltb i rounds)
        (λ q. after_draws 1 (replayed commits rounds k indices).answer r (replayed_numbers commits rounds k indices) (rw q at e))
        (λ q. drawn_by_lem r (inr (let z : NotDrawn 14 ≡ NotDrawn r = rw q at e in cc)))

    module _ (s : Settings) (a : Ask) (l : Lent) where
      drawn_numbers : (model : AcceptanceModel) (r : ℕ) → (drawn_by s a l model).answer ≡ NotDrawn r → P r
      unfolding drawn_by
      drawn_numbers (Constant alpha) r e = analytic_numbers (Constant alpha) l.positions s.gamma a.sequences l.draws r e
      drawn_numbers PerPosition r e = analytic_numbers PerPosition l.positions s.gamma a.sequences l.draws r e
      drawn_numbers Trace r e = replayed_numbers l.bank_commits_of a.rounds a.sequences l.indices r e

  module _ (n : Numbers P) where
    settings_numbers : (s : Settings) (positions : List Float) → P (settings_refusal s positions)
    unfolding settings_judged model_judged drafter_judged
    settings_numbers s positions =
        let m : Judgement = model_judged s.model positions in
        let d : Judgement = drafter_judged s.drafter in
        let w : Judgement = switch_judged s.switch in
        first_judged m (and_then d w) (either_judged (is_model s.model positions) (Ok tt) (Err Setting) n.none n.twelve)
        (first_judged d w (either_judged (is_drafter s.drafter) (Ok tt) (Err Setting) n.none n.twelve) (either_judged (in_range f0 most_cost s.switch.cost_ms) (Ok tt) (Err Setting) n.none n.twelve))

    module _ (s : Settings) (a : Ask) (l : Lent) where
      refusal_numbers : (d : Drawn) → ((r : ℕ) → d ≡ NotDrawn r → P r) → P (drawn_refusal s a l d)
      refusal_numbers (Used u) h = n.none
      refusal_numbers (NotDrawn r) h = h r refl

      signal_numbers : P (signals_refusal s a l)
      unfolding signals_refusal
      signal_numbers =
          let fine : Bool = are_finite l.signals a.depth (depth_of s a l) (take a.sequences l.indices) in
          either (uses_signals s.policy && is_trace s.model) (cond fine 0 15) 0 (either fine 0 15 n.none n.fifteen) n.none

      asked_numbers : (ws : List ℕ) (drafts commits : ℕ) → P (asked_refusal s a l ws drafts commits)
      unfolding asked_judged sizes_judged rooms_judged values_judged
      asked_numbers ws drafts commits =
          let x : Judgement = sizes_judged s.model s.gamma a.sequences a.depth a.rounds a.source a.rows in
          let y : Judgement = rooms_judged s a (lengths_of l (length ws) drafts commits) in
          let z : Judgement = values_judged s a l (past_of ws a.a a.b) in
          let g : ℕ = gamma_in s a.depth in
          let r : Lengths = lengths_of l (length ws) drafts commits in
          let sized : Bool = (leb s.gamma 64 && leb a.sequences 1024) && (bank_fits s.model a.depth a.rounds && table_fits a.source a.rows) in
          let roomy : Bool = own_rooms a.sequences r && (cost_rooms s.policy s.drafter a.source g a.sequences a.rows r && bank_rooms s.model s.policy g a.depth a.rounds r) in
          let valued : Bool = costs_valued s a l && policy_valued s.policy s.model s.switch g l.bank_curve_of (past_of ws a.a a.b) in
          first_judged x (and_then y z) (either_judged sized (Ok tt) (Err Size) n.none n.eleven)
          (first_judged y z (either_judged roomy (Ok tt) (Err ShortBuffer) n.none n.sixteen) (either_judged valued (Ok tt) (Err Input) n.none n.fifteen))

      step_numbers : (ws : List ℕ) (t : ℕ) → P (step_judged ws t)
      unfolding step_allowed step_allows place_allows
      step_numbers ws t =
          let few : Bool = ltb (get_or ws (second_at (second_place ws t).row + steps_in) 0) steps_most in
          let free : Bool = ltb (second_place ws t).rows seconds_most in
          either_judged (ltb (length ws) room) (Err ShortBuffer) (step_allows ws t) n.sixteen
          (either_judged (second_place ws t).known (passed_if few StepRoom) (passed_if free SecondRoom) (either_judged few (Ok tt) (Err StepRoom) n.none n.nineteen) (either_judged free (Ok tt) (Err SecondRoom) n.none n.eighteen))

      worker_numbers : (ws : List ℕ) → P 17 → P (worker_judged ws a.a a.b)
      unfolding worker_allowed worker_allows
      worker_numbers ws p =
          let free : Bool = ltb (worker_place ws a.a a.b).rows workers_most in
          either_judged (ltb (length ws) room) (Err ShortBuffer) (worker_allows ws a.a a.b) n.sixteen
          (either_judged (worker_place ws a.a a.b).known (Ok tt) (passed_if free WorkerRoom) n.none (either_judged free (Ok tt) (Err WorkerRoom) n.none p))

      module _ (put : is_put s a l s.policy ≡ true → P 17) (ws ds cs : List ℕ) where
        put_numbers : P (cond (is_put s a l s.policy) (worker_judged ws a.a a.b) 0)
        put_numbers = by_test (is_put s a l s.policy) (λ q. rw q (worker_numbers ws (put q))) (λ q. rw q n.none)

        plan_numbers : P (plan_refusal s a l ws ds cs)
        unfolding plan_refusal
        plan_numbers =
            let x : ℕ = asked_refusal s a l ws (length ds) (length cs) in
            let d : ℕ = drawn_refusal s a l (drawn s a l).answer in
            let g : ℕ = signals_refusal s a l in
            let w : ℕ = cond (is_put s a l s.policy) (worker_judged ws a.a a.b) 0 in
            let t : ℕ = step_judged ws (second_of a.end) in
            first x (first_of d (first_of g (first_of w t))) (asked_numbers ws (length ds) (length cs))
            (first d (first_of g (first_of w t)) (refusal_numbers (drawn s a l).answer (drawn_numbers n.thirteen n.fourteen s a l s.model))
            (first g (first_of w t) signal_numbers (first w t put_numbers (step_numbers ws (second_of a.end)))))

        abbrev Says : Left → Type 0
        Says left = (k : ℕ) → left.answer ≡ Refused k → P k

        unless_says : (r : ℕ) (left : Left) → P r → Says left → Says (unless_refused s a l ws ds cs r left)
        unless_says zero left p h = h
        unless_says (suc r) left p h = λ k e. let z : suc r ≡ k = cc in rw z at p

        either_says : (b : Bool) (x y : Left) → Says x → Says y → Says (cond b x y)
        either_says true x y p q = p
        either_says false x y p q = q

        empty_says : Says (nothing_planned s a l ws ds cs)
        empty_says k e = absurd (let z : ◌≡◌ {A = ℕ} 0 1 = cc in omega arith)

        made_says : (draws : Drawn) (d : Decided) → (drawn s a l).answer ≡ draws → Says (made s a l ws ds cs draws d)
        unfolding made
        made_says (Used u) d q = λ k e. absurd (let z : ◌≡◌ {A = ℕ} 0 1 = cc in omega arith)
        made_says (NotDrawn r) d q = λ k e. let z : r ≡ k = cc in rw z at (drawn_numbers n.thirteen n.fourteen s a l s.model r q)

        pub numbers : (k : ℕ) → (planned s a l ws ds cs).answer ≡ Refused k → P k
        unfolding planned
        numbers =
            let d : Decided = decided_by (best s a l) s a l (curve_of s a l) s.policy (past_of ws a.a a.b) in
            let m : Left = made s a l ws ds cs (drawn s a l).answer d in
            let u : Left = unless_refused s a l ws ds cs (plan_refusal s a l ws ds cs) m in
            unless_says (settings_refusal s l.positions) (cond (eqb a.sequences 0) (nothing_planned s a l ws ds cs) u) (settings_numbers s l.positions)
            (either_says (eqb a.sequences 0) (nothing_planned s a l ws ds cs) u empty_says (unless_says (plan_refusal s a l ws ds cs) m plan_numbers (made_says (drawn s a l).answer d refl)))

-- ---- what follows

-- a refusal has a number
module _ (s : Settings) (a : Ask) (l : Lent) (ws ds cs : List ℕ) where
  abbrev Numbered : Left → Type 0
  Numbered left = left.answer ≡ Refused 0 → ⊥

  unless_numbered : (r : ℕ) (left : Left) → Numbered left → Numbered (unless_refused s a l ws ds cs r left)
  unless_numbered zero left h = h
  unless_numbered (suc r) left h = λ e. let z : suc r ≡ 0 = cc in omega arith

  either_numbered : (b : Bool) (x y : Left) → Numbered x → Numbered y → Numbered (cond b x y)
  either_numbered true x y p q = p
  either_numbered false x y p q = q

  made_numbered : (draws : Drawn) (d : Decided) → (drawn s a l).answer ≡ draws → Numbered (made s a l ws ds cs draws d)
  unfolding made
  made_numbered (Used u) d q = λ e. let z : ◌≡◌ {A = ℕ} 0 1 = cc in omega arith
  made_numbered (NotDrawn r) d q = λ e. let z : r ≡ 0 = cc in drawn_numbers (λ k. k ≡ 0 → ⊥) (λ h. omega arith) (λ h. omega arith) s a l s.model r q z

  numbered : (planned s a l ws ds cs).answer ≡ Refused 0 → ⊥
  unfolding planned
  numbered =
      let d : Decided = decided_by (best s a l) s a l (curve_of s a l) s.policy (past_of ws a.a a.b) in
      let m : Left = made s a l ws ds cs (drawn s a l).answer d in
      let u : Left = unless_refused s a l ws ds cs (plan_refusal s a l ws ds cs) m in
      unless_numbered (settings_refusal s l.positions) (cond (eqb a.sequences 0) (nothing_planned s a l ws ds cs) u)
      (either_numbered (eqb a.sequences 0) (nothing_planned s a l ws ds cs) u (λ e. let z : ◌≡◌ {A = ℕ} 0 1 = cc in omega arith)
      (unless_numbered (plan_refusal s a l ws ds cs) m (made_numbered (drawn s a l).answer d refl)))

-- and it is one of 11 to 19
abbrev Between : ℕ → Type 0
Between n = 0 < n → (11 ≤ n) × (n ≤ 19)

all_between : Numbers Between
all_between = record {
  none = λ h. (absurd (omega arith), absurd (omega arith));
  eleven = λ h. (omega arith, omega arith);
  twelve = λ h. (omega arith, omega arith);
  thirteen = λ h. (omega arith, omega arith);
  fourteen = λ h. (omega arith, omega arith);
  fifteen = λ h. (omega arith, omega arith);
  sixteen = λ h. (omega arith, omega arith);
  eighteen = λ h. (omega arith, omega arith);
  nineteen = λ h. (omega arith, omega arith);
}

pub refused_by : (s : Settings) (a : Ask) (l : Lent) (ws ds cs : List ℕ) (k : ℕ) → (planned s a l ws ds cs).answer ≡ Refused k → (11 ≤ k) × (k ≤ 19)
refused_by s a l ws ds cs zero e = absurd (numbered s a l ws ds cs e)
refused_by s a l ws ds cs (suc k) e = numbers Between all_between s a l (λ q. λ h. (omega arith, omega arith)) ws ds cs (suc k) e (omega arith)

-- a plan that puts a record is a constrained GatedAggregate's
put_says : (s : Settings) (a : Ask) (l : Lent) (policy : Policy) → is_put s a l policy ≡ true → (policy ≡ GatedAggregate) × (is_unconstrained s.switch ≡ false)
put_says s a l Fixed e = absurd (not_both false e refl)
put_says s a l GoodputBudget e = absurd (not_both false e refl)
put_says s a l GatedBudget e = absurd (not_both false e refl)
put_says s a l GatedAggregate e = by_test (is_unconstrained s.switch)
    (λ q. absurd (not_both false (rw q at e) refl))
    (λ q. (refl, q))

-- 17 arises for nothing else
pub seventeen_is : (s : Settings) (a : Ask) (l : Lent) (ws ds cs : List ℕ) → (planned s a l ws ds cs).answer ≡ Refused 17 → (s.policy ≡ GatedAggregate) × (is_unconstrained s.switch ≡ false)
seventeen_is s a l ws ds cs e = by_test (is_put s a l s.policy)
    (λ q. put_says s a l s.policy q)
    (λ q. absurd (numbers Elsewise all_others s a l (λ t. absurd (not_both (is_put s a l s.policy) t q)) ws ds cs 17 e refl))
  where
    Elsewise : ℕ → Type 0
    Elsewise n = n ≡ 17 → ⊥

    all_others : Numbers Elsewise
    all_others = record {
      none = λ h. omega arith;
      eleven = λ h. omega arith;
      twelve = λ h. omega arith;
      thirteen = λ h. omega arith;
      fourteen = λ h. omega arith;
      fifteen = λ h. omega arith;
      sixteen = λ h. omega arith;
      eighteen = λ h. omega arith;
      nineteen = λ h. omega arith;
    }
