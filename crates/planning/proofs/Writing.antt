-- Laws of what an accepted plan writes. Assumes nothing.
use mathlib.Core.Path.{◌≡◌, refl, sym, ap, ◌∙◌}
use mathlib.Core.Bool.{true, false, not}
use mathlib.Core.List.{List}
use Prim.Native.Nat.{ℕ, ◌≤◌}
use native.Mathlib.Omega.{arith}
use lib.Dec.{ltb}
use borrow.Author.Tests.{ltb-false}
use lib.ListN.{length, length-take}
use lib.Ieee.{Float}
use Rattle.numeral.specs.Moment.{second_of}
use Rattle.switch_settings.specs.Switch.{is_unconstrained}
use Rattle.switch_settings.specs.declared.SwitchConstraints.{SwitchConstraints}
use Rattle.ledger_rows.specs.Layout.{room}
use Rattle.ledger_rows.specs.declared.layout.Past.{Past}
use Rattle.ledger_rows.specs.declared.layout.Step.{Step}
use Rattle.verifies.specs.declared.inner.Counts.{Counts}
use Rattle.verifies.specs.Accepted.{counts_of, Shallow}
use Rattle.ledger_rows.proofs.Tests.{by_test}
use Rattle.ledger_workers.specs.Workers.{past_of}
use Rattle.ledger_acts.specs.Acts.{plain_done, decided_done}
use Rattle.ledger.specs.declared.answer.Decision.{Decision}
use Rattle.ledger.specs.declared.answer.Decision.TheVariants.{Nothing, Put}
use Rattle.ledger.specs.Calls.{step_allowed, worker_allowed, step_judged, worker_judged, recorded}
use Rattle.refusals.proofs.First.{passed_is_zero}
use Rattle.settings.specs.declared.Policy.{Policy}
use Rattle.settings.specs.declared.Policy.TheVariants.{Fixed, GoodputBudget, GatedBudget, GatedAggregate}
use Rattle.settings.specs.declared.Settings.{Settings}
use Rattle.asked_rooms.specs.declared.Ask.{Ask}
use Rattle.asking.specs.Asked.{Lent}
use Rattle.asking.proofs.Passed.{under_le}
use Rattle.deciding.specs.Deciding.{Decided, decided_by}
use Rattle.deciding.proofs.Narrow.{loop_low, decided_narrow}
use Rattle.deciding.specs.Ready.{looped}
use Rattle.planning.specs.Steps.{put_under, curve_of}
use Rattle.planning.specs.Acting.{acted_by, Priced, Judged, decided_priced, change_judged}

-- ---- what the storage keeps
pub has_room : (ws : List ℕ) (t : ℕ) → step_judged ws t ≡ 0 → room ≤ length ws
unfolding step_allowed
has_room ws t z = by_test (ltb (length ws) room)
    (λ l. let q : ◌≡◌ {A = ℕ} 16 0 = rw l at z in absurd (let w : ⊥ = omega arith in w))
    (λ l. ltb-false (length ws) room l)

module _ (ws : List ℕ) (step : Step) (change : Decision) (out : List ℕ) (z : step_judged ws step.second ≡ 0) where
  pub kept_plain : change ≡ Nothing → out ≡ plain_done ws step → out ≡ (recorded ws step change).1
  unfolding recorded
  kept_plain e h = rw (e, passed_is_zero (step_allowed ws step.second) z) h

  pub kept_put : (a b width rounds stall : ℕ) → change ≡ Put a b width rounds stall → change_judged ws change ≡ 0
      → out ≡ decided_done ws step a b width rounds stall (past_of ws a b) → out ≡ (recorded ws step change).1
  unfolding recorded
  kept_put a b width rounds stall e j h =
      let w : worker_judged ws a b ≡ 0 = sym (ap (change_judged ws) e) ∙ j in
      rw (e, passed_is_zero (worker_allowed ws a b) w, passed_is_zero (step_allowed ws step.second) z) h

-- ---- the worker's record is read and put only where it is used
module _ (best : List Float → List Float → ℕ) (s : Settings) (a : Ask) (l : Lent) (curve : List Float) where
  pub past_same : (p : Policy) (past past' : Past) → (put_under s.switch p ≡ true → past ≡ past') → decided_by best s a l curve p past ≡ decided_by best s a l curve p past'
  unfolding decided_by
  past_same Fixed past past' h = refl
  past_same GoodputBudget past past' h = refl
  past_same GatedBudget past past' h = refl
  past_same GatedAggregate past past' h = by_test (is_unconstrained s.switch) (λ u. rw u) (λ u. ap (decided_by best s a l curve GatedAggregate) (h (ap not u)))

  pub change_fits : (p : Policy) (past : Past) (ws : List ℕ) → (put_under s.switch p ≡ true → worker_judged ws a.a a.b ≡ 0) → change_judged ws (decided_by best s a l curve p past).change ≡ 0
  unfolding decided_by
  change_fits Fixed past ws h = refl
  change_fits GoodputBudget past ws h = refl
  change_fits GatedBudget past ws h = refl
  change_fits GatedAggregate past ws h = by_test (is_unconstrained s.switch) (λ u. rw u) (λ u. rw u (h (ap not u)))

aggregate_put : (switch : SwitchConstraints) (p : Policy) → p ≡ GatedAggregate → is_unconstrained switch ≡ false → put_under switch p ≡ true
aggregate_put switch p e u = ap (put_under switch) e ∙ ap not u

-- the curve has a price for each depth up to 64 at most
pub curve_short : (s : Settings) (a : Ask) (l : Lent) → s.gamma ≤ 64 → length (curve_of s a l) ≤ 65
unfolding curve_of
curve_short s a l h = simp length-take (omega (arith, under_le s.policy s.model s.gamma a.depth))

pub few_drafts : (s : Settings) (a : Ask) (l : Lent) (ws drafts : List ℕ) → Judged s a l ws drafts → (n : ℕ) → n ≡ length drafts → n ≤ 1024
few_drafts s a l ws drafts j n e = omega (arith, j.priced.room, j.priced.few)

-- there is a round's commits for each draft
pub all_committed : (s : Settings) (a : Ask) (l : Lent) (ws drafts : List ℕ) → Judged s a l ws drafts → (n : ℕ) → n ≡ length drafts → (m : ℕ) → a.sequences ≤ m → n ≤ m
all_committed s a l ws drafts j n e m h = omega (arith, j.priced.room)

module _ (s : Settings) (a : Ask) (l : Lent) (ws drafts : List ℕ) (j : Judged s a l ws drafts) (past : Past) (e : put_under s.switch s.policy ≡ true → past ≡ past_of ws a.a a.b) where
  pub still_priced : Priced s a past l drafts
  still_priced =
      let p = j.priced in
      record {
        shallow = p.shallow;
        few = p.few;
        room = p.room;
        roofed = p.roofed;
        tabled = p.tabled;
        banked = p.banked;
        indexed = p.indexed;
        held = λ g u k. let q : past ≡ past_of ws a.a a.b = e (aggregate_put s.switch s.policy g u) in rw q (p.held g u (rw q at k));
      }

  module _ (d : Decided) (h : d ≡ decided_priced s a l past) where
    pub decided_same : d ≡ decided_priced s a l (past_of ws a.a a.b)
    decided_same = h ∙ past_same _ s a l (curve_of s a l) s.policy past (past_of ws a.a a.b) e

    pub change_judged_lem : change_judged ws d.change ≡ 0
    change_judged_lem = ap (λ (x : Decided). change_judged ws x.change) h ∙ change_fits _ s a l (curve_of s a l) s.policy past ws j.worker

    -- no draft is above 64
    pub all_shallow : Shallow d.drafts
    all_shallow =
        let p = still_priced in
        let short = curve_short s a l p.shallow in
        let narrow = decided_narrow (looped s a l.loaded) s a l (curve_of s a l) p.shallow (λ es. loop_low s.drafter a.sequences a.rates _ es (curve_of s a l) short) short s.policy past (λ g u k. (p.held g u k).narrow) in
        rw h (record { each = λ k inside. narrow.each k (omega (arith, narrow.count)) })

    pub acted_is : (commits : List ℕ) (second : ℕ) (counts : Counts) (storage : List ℕ) → second ≡ second_of a.end → counts ≡ counts_of d.drafts commits
        → storage ≡ (recorded ws (record { second = second; drafts = counts.drafts; sequences = a.sequences; committed = counts.committed }) d.change).1
        → record { weighed = d.weighed; drafts = d.drafts; storage = storage } ≡ acted_by a commits ws (decided_priced s a l (past_of ws a.a a.b))
    acted_is commits second counts storage u v k = rw (k, u, v) (ap (acted_by a commits ws) decided_same)
