-- HOW LONG UNTIL A WORKER'S WIDTH SETTLES, over the planner's own calls from any history: whatever other plans, refusals and collections stand between its
-- rounds. Assumes nothing.
use mathlib.Core.Path.{◌≡◌, refl, sym, ap, ◌∙◌, subst}
use mathlib.Core.Bool.{Bool, true, false, not, ◌&&◌, cond}
use mathlib.Core.List.{List, [], ◌∷◌}
use mathlib.Core.Option.{Option, none, some}
use Prim.Native.Nat.{ℕ, zero, suc, ◌+◌, ◌*◌, ◌≤◌, ◌<◌}
use native.Mathlib.Nat.{mul-le-mul_right}
use native.Mathlib.Omega.{arith}
use lib.ListN.{length, drop}
use Rattle.float.proofs.Classes.{clash}
use Rattle.switch_settings.specs.Switch.{is_unconstrained}
use Rattle.switch_settings.specs.declared.SwitchConstraints.{SwitchConstraints}
use Rattle.switching.specs.Deciding.{candidates_of}
use Rattle.switching.proofs.Widths.{candidates_rise}
use Rattle.ledger_rows.specs.Map.{is_held}
use Rattle.ledger_rows.specs.Layout.{room}
use Rattle.ledger_rows.specs.declared.layout.Past.{Past}
use Rattle.ledger_rows.proofs.Tests.{by_test}
use Rattle.ledger_workers.specs.Workers.{worker_same, past_of}
use Rattle.ledger.specs.Calls.{emptied}
use Rattle.ledger_laws.specs.Model.{Worker, Switching, Change, record_of, cleaned, cleaned_of}
use Rattle.ledger_laws.specs.Encode.{past_from}
use Rattle.ledger_laws.proofs.Forth.{record_read}
use Rattle.settings.specs.declared.Policy.{Policy}
use Rattle.settings.specs.declared.Policy.TheVariants.{Fixed, GoodputBudget, GatedBudget, GatedAggregate}
use Rattle.settings.specs.declared.Settings.{Settings}
use Rattle.asked_rooms.specs.declared.Ask.{Ask}
use Rattle.asking.specs.Asked.{Lent}
use Rattle.asking.specs.Values.{held_of}
use Rattle.deciding.specs.Deciding.{best_in}
use Rattle.planner.specs.Plan.{curve_of, best, is_put}
use Rattle.planner_laws.specs.Calls.{Call, plan, collect, withdraw, run}
use Rattle.planner_laws.specs.Standing.{Standing, nothing_stands, ledger_of, given, stands, step, after, is_plan, answer_on, change_on, new_record}
use Rattle.planner_laws.proofs.Theorem.{reached, afresh, after_holds, demand_3}
use Rattle.width_walk.specs.Walk.{Rising}
use Rattle.width_way.specs.Way.{away_from, pause, rounds_for}
use Rattle.settling_laws.specs.Rounds.{is_aggregate, is_round, rounds_of, Moves, AsBefore, NotBack, EachRound, Premises}
use Rattle.settling_laws.proofs.Walks.{some_walk}
use Rattle.settling_laws.proofs.Pacing.{paced, paces}
use Rattle.settling_laws.proofs.Arrival.{settles, no_sooner as not_yet}
use Rattle.settling_laws.proofs.Record.{decided_paced}

-- ---- some record, with this width and this counter
pub record Stands (o : Option Switching) (p : ℕ × ℕ) : Type 0 where
  pub held : Switching
  pub is : o ≡ some held
  pub paired : ◌≡◌ {A = ℕ × ℕ} (held.width, held.rounds) p

module _ (v : Worker) (c : SwitchConstraints) (l : List ℕ) (target : ℕ) (bound : is_unconstrained c ≡ false) where
  -- ---- an accepted plan
  module _ (s : Settings) (a : Ask) (lent : Lent) (ds cs : List ℕ) (older : List Change) (r : Switching) (e : record_of v older ≡ some r) where
    unput : (o : Option Switching) → is_put s a lent s.policy ≡ false → record_of v (change_on s a lent o ∷ older) ≡ some r
    unfolding change_on record_of
    unput o q = rw q e

    other : (o : Option Switching) → worker_same (a.a, a.b) v ≡ false → record_of v (change_on s a lent o ∷ older) ≡ some r
    unfolding change_on record_of
    other o q = by_test (is_put s a lent s.policy) (λ p. rw p (rw q e)) (λ p. rw p e)

    own : (o : Option Switching) → is_put s a lent s.policy ≡ true → worker_same (a.a, a.b) v ≡ true
        → record_of v (change_on s a lent o ∷ older) ≡ some (new_record s a lent (some r))
    unfolding change_on record_of
    own o p q = rw (p, q, e)

    -- what switching makes of the record is one round more
    new_paced : AsBefore c l target (plan s a lent ds cs)
        → ◌≡◌ {A = ℕ × ℕ} ((new_record s a lent (some r)).width, (new_record s a lent (some r)).rounds) (paced c l target (r.width, r.rounds))
    new_paced same =
        let best_here = best_in (best s a lent) s a lent (curve_of s a lent) in
        decided_paced (held_of (past_from (some r))) (curve_of s a lent) best_here s.switch
        ∙ ap (λ (x : SwitchConstraints). paced x (candidates_of (curve_of s a lent)) best_here (r.width, r.rounds)) same.0
        ∙ ap (λ (x : List ℕ). paced c x best_here (r.width, r.rounds)) same.1
        ∙ ap (λ (x : ℕ). paced c l x (r.width, r.rounds)) same.2

    planned_stands : (o : Option Switching) (p : Policy) → s.policy ≡ p → (w : Bool) → worker_same (a.a, a.b) v ≡ w
        → (is_aggregate p && w ≡ true → AsBefore c l target (plan s a lent ds cs))
        → Stands (record_of v (change_on s a lent o ∷ older)) (cond (is_aggregate p && w) (paced c l target (r.width, r.rounds)) (r.width, r.rounds))
    planned_stands o Fixed q w h same = record { held = r; is = unput o (ap (is_put s a lent) q); paired = refl }
    planned_stands o GoodputBudget q w h same = record { held = r; is = unput o (ap (is_put s a lent) q); paired = refl }
    planned_stands o GatedBudget q w h same = record { held = r; is = unput o (ap (is_put s a lent) q); paired = refl }
    planned_stands o GatedAggregate q false h same = record { held = r; is = other o h; paired = refl }
    planned_stands o GatedAggregate q true h same =
        let put : is_put s a lent s.policy ≡ true =
        ap (is_put s a lent) q ∙ ap (λ (x : SwitchConstraints). not (is_unconstrained x)) (same refl).0 ∙ ap not bound in
        record { held = new_record s a lent (some r); is = own o put h; paired = new_paced (same refl) }

  -- ---- one call
  pub one_call : (k : Call) (S : Standing) (r : Switching) → record_of v (given S.changes) ≡ some r → NotBack k → (is_round v k S ≡ true → AsBefore c l target k)
      → Stands (record_of v (given (step k S).changes)) (cond (is_round v k S) (paced c l target (r.width, r.rounds)) (r.width, r.rounds))
  unfolding step given record_of cleaned_of
  one_call (plan s a lent ds cs) S r e n same = go (is_plan (answer_on s a lent (length ds) (length cs) (given S.changes))) same
    where
      go : (b : Bool) → (b && (is_aggregate s.policy && worker_same (a.a, a.b) v) ≡ true → AsBefore c l target (plan s a lent ds cs))
          → Stands (record_of v (given (cond {A = Standing} b (stands (plan s a lent ds cs) S) S).changes))
          (cond (b && (is_aggregate s.policy && worker_same (a.a, a.b) v)) (paced c l target (r.width, r.rounds)) (r.width, r.rounds))
      go true h =
          planned_stands s a lent ds cs (given S.changes) r e (record_of (a.a, a.b) (given S.changes)) s.policy refl (worker_same (a.a, a.b) v) refl h
      go false h = record { held = r; is = e; paired = refl }
  one_call (collect a b) S r e n same = go (is_held (record_of (a, b) (given S.changes)))
    where
      clear : (w : Bool) → Stands (cond w (cleaned_of (record_of v (given S.changes))) (record_of v (given S.changes))) (r.width, r.rounds)
      clear true = record { held = cleaned r; is = rw e; paired = refl }
      clear false = record { held = r; is = e; paired = refl }

      go : (h : Bool) → Stands (record_of v (given (cond {A = Standing} h (stands (collect a b) S) S).changes)) (r.width, r.rounds)
      go true = clear (worker_same (a, b) v)
      go false = record { held = r; is = e; paired = refl }
  one_call withdraw S r e n same = absurd n

  -- ---- all of them
  counted : (b : Bool) (k : ℕ) (p : ℕ × ℕ) → paces c l target k (cond b (paced c l target p) p) ≡ paces c l target (cond b 1 0 + k) p
  counted true k p = let m : 1 + k ≡ suc k = omega arith in rw m refl
  counted false k p = let m : 0 + k ≡ k = omega arith in rw m refl

  pub goes_on : (ks : List Call) (S : Standing) (r : Switching) → record_of v (given S.changes) ≡ some r → Premises v c l target ks S
      → Stands (record_of v (given (after ks S).changes)) (paces c l target (rounds_of v ks S) (r.width, r.rounds))
  unfolding after EachRound rounds_of
  goes_on [] S r e h = record { held = r; is = e; paired = refl }
  goes_on (k ∷ ks) S r e h =
      let one = one_call k S r e h.0 h.1 in
      let rest = goes_on ks (step k S) one.held one.is h.2 in
      record {
        held = rest.held;
        is = rest.is;
        paired = rest.paired ∙ ap (paces c l target (rounds_of v ks (step k S))) one.paired ∙ counted (is_round v k S) (rounds_of v ks (step k S)) (r.width, r.rounds);
      }

-- ---- where there is a round, the candidates rise
round_rise : (v : Worker) (c : SwitchConstraints) (l : List ℕ) (target : ℕ) (k : Call) (S : Standing) → is_round v k S ≡ true → AsBefore c l target k → Rising 0 l
round_rise v c l target (plan s a lent ds cs) S q same = subst (Rising 0) same.1 (candidates_rise 0 (curve_of s a lent))
round_rise v c l target (collect a b) S q same = clash q
round_rise v c l target withdraw S q same = clash q

pub rounds_rise : (v : Worker) (c : SwitchConstraints) (l : List ℕ) (target : ℕ) (ks : List Call) (S : Standing) → Premises v c l target ks S → 1 ≤ rounds_of v ks S → Rising 0 l
unfolding EachRound rounds_of
rounds_rise v c l target [] S h many = absurd (let w : ⊥ = omega arith in w)
rounds_rise v c l target (k ∷ ks) S h many = by_test (is_round v k S)
    (λ q. round_rise v c l target k S q (h.1 q))
    (λ q. rounds_rise v c l target ks (step k S) h.2 (let m = rw q at many in omega (arith, m)))

-- ---- THE WIDTH IS THE TARGET after at most m times max(cooldown, 1) rounds, and stays there while the premises hold: it is so after any number of rounds from
-- there on
pub record Settled (o : Option Switching) (target : ℕ) : Type 0 where
  pub held : Switching
  pub is : o ≡ some held
  pub width_is : held.width ≡ target

pub width_settles : (v : Worker) (c : SwitchConstraints) (candidates : List ℕ) (target : ℕ) → Moves c candidates target
    → (ks : List Call) (S : Standing) (r : Switching) → record_of v (given S.changes) ≡ some r → Premises v c candidates target ks S
    → rounds_for c (away_from candidates r.width target) ≤ rounds_of v ks S
    → Settled (record_of v (given (after ks S).changes)) target
width_settles v c candidates target moves ks S r e h many =
    let on = goes_on v c candidates target moves.constrained ks S r e h in
    let walks = some_walk c.max_step (away_from candidates r.width target) in
    let least : 1 * pause c ≤ rounds_for c (away_from candidates r.width target) = mul-le-mul_right (pause c) walks in
    let rising = rounds_rise v c candidates target ks S h (omega (arith, least, many)) in
    record {
      held = on.held;
      is = on.is;
      width_is = ap (λ (p : ℕ × ℕ). p.0) on.paired ∙ settles c candidates target rising moves.there moves.steps (rounds_of v ks S) (r.width, r.rounds) many;
    }

-- and no sooner, if it was not the target at first: while the rounds and the counter together are fewer
pub no_sooner : (v : Worker) (c : SwitchConstraints) (candidates : List ℕ) (target : ℕ) → Moves c candidates target
    → (ks : List Call) (S : Standing) (r : Switching) → record_of v (given S.changes) ≡ some r → Premises v c candidates target ks S
    → (r.width ≡ target → ⊥) → rounds_of v ks S + r.rounds < rounds_for c (away_from candidates r.width target)
    → Settled (record_of v (given (after ks S).changes)) target → ⊥
no_sooner v c candidates target moves ks S r e h apart early d =
    let on = goes_on v c candidates target moves.constrained ks S r e h in
    let same : ◌≡◌ {A = Option Switching} (some on.held) (some d.held) = sym on.is ∙ d.is in
    let widths : on.held.width ≡ d.held.width = ap (λ (o : Option Switching). width_of o) same in
    let is : (paces c candidates target (rounds_of v ks S) (r.width, r.rounds)).0 ≡ target = sym (ap (λ (p : ℕ × ℕ). p.0) on.paired) ∙ widths ∙ d.width_is in
    go (rounds_of v ks S) (rounds_rise v c candidates target ks S h) early is
  where
    width_of : Option Switching → ℕ
    width_of none = 0
    width_of (some x) = x.width

    go : (n : ℕ) → (1 ≤ n → Rising 0 candidates) → n + r.rounds < rounds_for c (away_from candidates r.width target) → (paces c candidates target n (r.width, r.rounds)).0 ≡ target → ⊥
    go zero rising early is = apart is
    go (suc n) rising early is = not_yet c candidates target (rising (omega arith)) moves.there moves.steps (suc n) (r.width, r.rounds) apart early is

-- ---- in the storage: after any calls from a fresh one, and then those of the premises
module _ (before ks : List Call) (ws : List ℕ) (large : room ≤ length ws) (v : Worker) where
  pub in_words : (target : ℕ) → Settled (record_of v (given (after ks (after before nothing_stands)).changes)) target
      → ((past_of (run ks (run before (emptied ws).1)) v.0 v.1).kind ≡ 2) × ((past_of (run ks (run before (emptied ws).1)) v.0 v.1).width ≡ target)
  in_words target d =
      let S = after before nothing_stands in
      let on = afresh ks S (drop room ws) (after_holds before) in
      let past : past_of (run ks (run before (emptied ws).1)) v.0 v.1 ≡ past_from (some d.held) =
      ap (λ (w : List ℕ). past_of (run ks w) v.0 v.1) (demand_3 before ws large)
      ∙ ap (λ (w : List ℕ). past_of w v.0 v.1) on.0
      ∙ record_read (ledger_of (after ks S)) (drop room ws) (reached (after ks S) on.1) v
      ∙ ap past_from d.is in
      (ap (λ (p : Past). p.kind) past, ap (λ (p : Past). p.width) past ∙ d.width_is)
