-- Each way through a plan, over plain variables. Assumes nothing.
use mathlib.Core.Path.{◌≡◌, refl, sym, ap, ◌∙◌}
use mathlib.Core.Bool.{cond}
use mathlib.Core.List.{List, [], ◌++◌}
use Prim.Native.Nat.{ℕ, zero, suc, ◌+◌, ◌≤◌, ◌<◌}
use native.Mathlib.Nat.{not-suc-le-zero}
use native.Mathlib.Omega.{arith}
use lib.ListN.{length, take, drop, length-append}
use lib.Seq.{take-append_seam}
use borrow.Author.Tests.{eq-eqb, ne_eqb}
use Rattle.refusals.specs.Refusals.{first_of}
use Rattle.refusals.proofs.First.{goes_first, goes_next}
use Rattle.numeral.specs.Moment.{second_of}
use Rattle.ledger_workers.specs.Workers.{past_of}
use Rattle.ledger.specs.Calls.{step_judged, worker_judged}
use Rattle.settings.specs.declared.Settings.{Settings}
use Rattle.settings.specs.Settings.{settings_refusal}
use Rattle.rounds.specs.Drawing.{Batch}
use Rattle.rounds.specs.declared.drawing.Drawn.{Drawn}
use Rattle.rounds.specs.declared.drawing.Drawn.TheVariants.{Used, Refused as NotDrawn}
use Rattle.asked_rooms.specs.declared.Ask.{Ask}
use Rattle.asking.specs.Asked.{Lent, asked_refusal}
use Rattle.deciding.specs.Deciding.{decided_by}
use Rattle.deciding.specs.Ready.{lent_of}
use Rattle.plan_draws.specs.Draws.{unless_either, drawn_unless, drawn, drawn_refusal, lent_to_draw}
use Rattle.planning.specs.Steps.{curve_of, signals_refusal, best, put_under}
use Rattle.planning.specs.Acting.{Acted, acted_by, decided_priced}
use Rattle.plan_draws.proofs.Batches.{all_drawn, refusal_numbered, draws_same}
use Rattle.judged_plans.specs.declared.Planned.TheVariants.{Plan, Refused}
use Rattle.judged_plans.specs.Plan.{Left, held_refusal, plan_refusal, made, unless_refused, nothing_planned, some_planned, planned}
use Rattle.judged_plans.proofs.Facts.{act_lists, rules_priced}

-- ---- numbers
pub is_none : (r x : ℕ) → r ≡ x → r ≤ 0 → x ≡ 0
is_none r x e h = let z : r ≡ 0 = omega arith in sym e ∙ z

-- ---- answers of a draw
two_answers : {A : Type 0} (used number : ℕ) → Used used ≡ NotDrawn number → A
two_answers used number e = let z : ◌≡◌ {A = ℕ} 0 1 = cc in absurd (let w : ⊥ = omega arith in w)

same_number : (m n : ℕ) → NotDrawn m ≡ NotDrawn n → m ≡ n
same_number m n e = cc

-- all that was drawn stands at the front
used_by : (new old : List ℕ) (answer : Drawn) (out : List ℕ) (x : Drawn) (late used : ℕ) → record { answer = answer; commits = out } ≡ unless_either x late new old → answer ≡ Used used
    → (Used used ≡ x) × (late ≡ 0) × (out ≡ new ++ drop (length new) old)
used_by new old answer out (Used more) zero used d u = (sym u ∙ ap (λ (y : Batch). y.answer) d, refl, ap (λ (y : Batch). y.commits) d)
used_by new old answer out (Used more) (suc late) used d u = two_answers used (suc late) (sym u ∙ ap (λ (y : Batch). y.answer) d)
used_by new old answer out (NotDrawn number) late used d u = two_answers used number (sym u ∙ ap (λ (y : Batch). y.answer) d)

module _ (s : Settings) (a : Ask) (l : Lent) (ws ds cs : List ℕ) where
  -- ---- a refusal leaves all as it was
  abbrev pub unwritten : ℕ → Left
  unwritten number = record { answer = Refused number; storage = ws; drafts = ds; commits = cs }

  refused_is : (r n : ℕ) (left : Left) → r ≡ n → 0 < r → unwritten r ≡ unless_refused s a l ws ds cs n left
  refused_is r n left e h = go r h ∙ ap (λ (k : ℕ). unless_refused s a l ws ds cs k left) e
    where
      go : (k : ℕ) → 0 < k → unwritten k ≡ unless_refused s a l ws ds cs k left
      go zero p = absurd (not-suc-le-zero p)
      go (suc k) p = refl

  passed_is : (n : ℕ) (left : Left) → n ≡ 0 → left ≡ unless_refused s a l ws ds cs n left
  passed_is n left e = sym (ap (λ (k : ℕ). unless_refused s a l ws ds cs k left) e)

  -- ---- the settings, and no sequences
  pub settings_refused : (r : ℕ) → r ≡ settings_refusal s l.positions → 0 < r → unwritten r ≡ planned s a l ws ds cs
  unfolding planned
  settings_refused r e h = refused_is r _ _ e h

  pub none_planned : (r : ℕ) → r ≡ settings_refusal s l.positions → r ≤ 0 → a.sequences ≡ 0 → nothing_planned s a l ws ds cs ≡ planned s a l ws ds cs
  unfolding planned
  none_planned r e h n =
      sym (ap (λ t. cond t (nothing_planned s a l ws ds cs) (some_planned s a l ws ds cs)) (eq-eqb a.sequences 0 n)) ∙ passed_is _ _ (is_none r _ e h)

  pub some_planned_lem : (r : ℕ) (left : Left) → r ≡ settings_refusal s l.positions → r ≤ 0 → (a.sequences ≡ 0 → ⊥) → left ≡ some_planned s a l ws ds cs → left ≡ planned s a l ws ds cs
  unfolding planned
  some_planned_lem r left e h n p =
      p ∙ sym (ap (λ t. cond t (nothing_planned s a l ws ds cs) (some_planned s a l ws ds cs)) (ne_eqb a.sequences 0 n)) ∙ passed_is _ _ (is_none r _ e h)

  -- ---- what it is asked with
  pub asked_refused : (r : ℕ) → r ≡ asked_refusal s a l ws (length ds) (length cs) → 0 < r → unwritten r ≡ some_planned s a l ws ds cs
  unfolding plan_refusal
  asked_refused r e h = refused_is r _ _ (goes_first r _ _ e h) h

  -- ---- the draws, and what is refused after them
  refused_by : (new old : List ℕ) (answer : Drawn) (out : List ℕ) (x : Drawn) (late number : ℕ) → ((m : ℕ) → NotDrawn m ≡ x → 0 < m)
      → record { answer = answer; commits = out } ≡ unless_either x late new old → answer ≡ NotDrawn number
      → (number ≡ first_of (drawn_refusal s a l x) late) × (0 < number) × (out ≡ old)
  refused_by new old answer out (Used more) zero number p d u = two_answers more number (sym (ap (λ (y : Batch). y.answer) d) ∙ u)
  refused_by new old answer out (Used more) (suc late) number p d u =
      let e : number ≡ suc late = same_number number (suc late) (sym u ∙ ap (λ (y : Batch). y.answer) d) in
      (e, omega (arith, e), ap (λ (y : Batch). y.commits) d)
  refused_by new old answer out (NotDrawn m) late number p d u =
      let e : number ≡ m = same_number number m (sym u ∙ ap (λ (y : Batch). y.answer) d) in
      let q : 0 < number = omega (arith, e, p m refl) in
      (goes_first number m late e q, q, ap (λ (y : Batch). y.commits) d)

  module _ (asked : asked_refusal s a l ws (length ds) (length cs) ≡ 0) (late : ℕ)
      (h : late ≡ first_of (signals_refusal s a (lent_of [] [] l.signals [] l.indices)) (first_of (cond (put_under s.switch s.policy) (worker_judged ws a.a a.b) 0) (step_judged ws (second_of a.end))))
      (answer : Drawn) (out : List ℕ)
      (d : record { answer = answer; commits = out } ≡ drawn_unless late (drawn s a (lent_to_draw l.positions l.bank_commits_of l.draws l.indices)) cs) where
    late_is : late ≡ first_of (signals_refusal s a l) (held_refusal s a l ws ds cs)
    unfolding signals_refusal
    late_is = h

    drawn_is : record { answer = answer; commits = out } ≡ drawn_unless late (drawn s a l) cs
    drawn_is = d ∙ ap (λ (b : Batch). drawn_unless late b cs) (draws_same s a l)

    pub draw_refused : (number : ℕ) → answer ≡ NotDrawn number → record { answer = Refused number; storage = ws; drafts = ds; commits = out } ≡ some_planned s a l ws ds cs
    unfolding plan_refusal
    draw_refused number u =
        let r = refused_by (drawn s a l).commits cs answer out (drawn s a l).answer late number (refusal_numbered s a l) drawn_is u in
        let e = r.0 ∙ ap (first_of (drawn_refusal s a l (drawn s a l).answer)) late_is ∙ goes_next 0 _ _ (sym asked) (omega arith) in
        ap (λ (xs : List ℕ). record { answer = Refused number; storage = ws; drafts = ds; commits = xs }) r.2 ∙ refused_is number _ _ e r.1

    -- ---- a plan that is made
    module _ (used : ℕ) (u : answer ≡ Used used) where
      told : (Used used ≡ (drawn s a l).answer) × (late ≡ 0) × (out ≡ (drawn s a l).commits ++ drop (length (drawn s a l).commits) cs)
      told = used_by (drawn s a l).commits cs answer out (drawn s a l).answer late used drawn_is u

      pub used_is : Used used ≡ (drawn s a l).answer
      used_is = told.0

      pub none_late : first_of (signals_refusal s a l) (held_refusal s a l ws ds cs) ≡ 0
      none_late = sym late_is ∙ told.1

      none_refused : plan_refusal s a l ws ds cs ≡ 0
      unfolding plan_refusal
      none_refused = sym (sym none_late ∙ goes_next 0 _ _ (ap (drawn_refusal s a l) used_is) (omega arith) ∙ goes_next 0 _ _ (sym asked) (omega arith))

      -- the commits that the act is lent are all that was drawn
      lent_drawn : take a.sequences out ≡ (drawn s a l).commits
      lent_drawn =
          let n = all_drawn s a l used used_is in
          ap (λ (i : ℕ). take i out) (sym n) ∙ ap (take (length (drawn s a l).commits)) told.2 ∙ take-append_seam (drawn s a l).commits (drop (length (drawn s a l).commits) cs)

      pub as_many_lent : a.sequences ≤ length (take a.sequences out)
      as_many_lent = omega (arith, ap (λ (xs : List ℕ). length xs) lent_drawn, all_drawn s a l used used_is)

      pub commits_long : a.sequences ≤ length out
      commits_long =
          let n = all_drawn s a l used used_is in
          let k : length ((drawn s a l).commits ++ drop (length (drawn s a l).commits) cs) ≡ length (drawn s a l).commits + length (drop (length (drawn s a l).commits) cs) = rw length-append in
          let m : length out ≡ length (drawn s a l).commits + length (drop (length (drawn s a l).commits) cs) = ap (λ (xs : List ℕ). length xs) told.2 ∙ k in
          omega arith

      pub plan_made : settings_refusal s l.positions ≡ 0 → (weighed : ℕ) (storage drafts : List ℕ)
          → record { weighed = weighed; drafts = drafts; storage = storage } ≡ acted_by a (take a.sequences out) ws (decided_priced s a (act_lists l) (past_of ws a.a a.b))
          → record { answer = Plan used weighed; storage = storage; drafts = drafts ++ drop a.sequences ds; commits = out } ≡ some_planned s a l ws ds cs
      unfolding made
      plan_made settled weighed storage drafts act =
          let b = decided_by (best s a l) s a l (curve_of s a l) s.policy (past_of ws a.a a.b) in
          let done : record { weighed = weighed; drafts = drafts; storage = storage } ≡ acted_by a (drawn s a l).commits ws b = act ∙ ap (λ (xs : List ℕ). acted_by a xs ws (decided_priced s a (act_lists l) (past_of ws a.a a.b))) lent_drawn ∙ ap (acted_by a (drawn s a l).commits ws) (rules_priced s a l ws ds cs asked used used_is none_late settled) in
          let k : out ≡ (drawn s a l).commits ++ drop a.sequences cs = told.2 ∙ ap (λ (i : ℕ). (drawn s a l).commits ++ drop i cs) (all_drawn s a l used used_is) in
          ap (λ (xs : List ℕ). record { answer = Plan used weighed; storage = storage; drafts = drafts ++ drop a.sequences ds; commits = xs }) k
          ∙ ap (λ (x : Acted). record { answer = Plan used x.weighed; storage = x.storage; drafts = x.drafts ++ drop a.sequences ds; commits = (drawn s a l).commits ++ drop a.sequences cs }) done
          ∙ ap (λ (x : Drawn). made s a l ws ds cs x b) used_is
          ∙ passed_is _ _ none_refused
