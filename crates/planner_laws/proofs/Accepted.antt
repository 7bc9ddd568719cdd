-- What an accepted plan has passed: its sizes, the record of its worker, and the rules for seconds and workers. Assumes nothing.
use mathlib.Core.Path.{◌≡◌, refl}
use mathlib.Core.Bool.{Bool, true, false, ◌&&◌, cond}
use mathlib.Core.List.{List}
use Prim.Native.Nat.{ℕ, zero, suc, ◌≤◌}
use native.Mathlib.Omega.{arith}
use borrow.Author.Tests.{leb-true, eqb-false}
use lib.Dec.{leb, eqb}
use Rattle.refusals.specs.Refusals.{first_of}
use Rattle.numeral.specs.Moment.{second_of}
use Rattle.acceptance.specs.declared.AcceptanceModel.{AcceptanceModel}
use Rattle.goodput.specs.declared.curve.Source.{Source}
use Rattle.ledger_rows.proofs.Tests.{not_both}
use Rattle.ledger_laws.specs.Model.{Change, record_of, step_rule, worker_rule}
use Rattle.ledger_laws.specs.Encode.{past_from}
use Rattle.refusals.specs.declared.Refusal.TheVariants.{Size, Input}
use Rattle.planner_laws.proofs.Asked.{judge_holds}
use Rattle.settings.specs.declared.Settings.{Settings}
use Rattle.settings.specs.Settings.{settings_refusal, gamma_in}
use Rattle.ledger_rows.specs.declared.layout.Past.{Past}
use Rattle.asked_rooms.specs.declared.Ask.{Ask}
use Rattle.ledger_rows.specs.Layout.{room}
use Rattle.asking.specs.Asked.{Lent, lengths_of, costs_valued, values_judged, values_refusal}
use Rattle.asked_rooms.specs.Rooms.{rooms_refusal}
use Rattle.asked_rooms.specs.Sizes.{bank_fits, table_fits, sizes_judged, sizes_refusal}
use Rattle.asking.specs.Values.{policy_valued}
use Rattle.judged_plans.specs.declared.Planned.{Planned}
use Rattle.judged_plans.specs.declared.Planned.TheVariants.{Empty}
use Rattle.planner.specs.Plan.{drawn, drawn_refusal, signals_refusal, is_put}
use Rattle.planner_laws.specs.Standing.{plan_answer, worker_in, decision_on, refusal_on, answer_unless, answer_on, is_plan}

-- ---- refusals, one after the other

pub first_none : (x y : ℕ) → first_of x y ≡ 0 → x ≡ 0
first_none zero y e = refl
first_none (suc x) y e = e

pub then_none : (x y : ℕ) → first_of x y ≡ 0 → y ≡ 0
then_none zero y e = e
then_none (suc x) y e = absurd (let z : ◌≡◌ {A = ℕ} (suc x) 0 = e in omega arith)

all_none : (sizes rooms values draws signals worker step : ℕ) → first_of (first_of sizes (first_of rooms values)) (first_of draws (first_of signals (first_of worker step))) ≡ 0
    → (sizes ≡ 0) × (values ≡ 0) × (worker ≡ 0) × (step ≡ 0)
all_none sizes rooms values draws signals worker step e =
    let asked = first_none (first_of sizes (first_of rooms values)) (first_of draws (first_of signals (first_of worker step))) e in
    let later = then_none (first_of sizes (first_of rooms values)) (first_of draws (first_of signals (first_of worker step))) e in
    let held = then_none signals (first_of worker step) (then_none draws (first_of signals (first_of worker step)) later) in
    (first_none sizes (first_of rooms values) asked, then_none rooms values (then_none sizes (first_of rooms values) asked), first_none worker step held, then_none worker step held)

-- a test that refuses where it fails
test_holds : (b : Bool) (n : ℕ) → cond b 0 (suc n) ≡ 0 → b ≡ true
test_holds true n e = refl
test_holds false n e = absurd (let z : ◌≡◌ {A = ℕ} (suc n) 0 = e in omega arith)

pub left_holds : (a b : Bool) → a && b ≡ true → a ≡ true
left_holds true b e = refl
left_holds false b e = e

pub right_holds : (a b : Bool) → a && b ≡ true → b ≡ true
right_holds true b e = e
right_holds false b e = absurd (not_both false e refl)

-- ---- sizes

pub sizes_gamma : (model : AcceptanceModel) (gamma n depth rounds : ℕ) (source : Source) (rows : ℕ) → sizes_refusal model gamma n depth rounds source rows ≡ 0 → (gamma ≤ 64) × (n ≤ 1024)
unfolding sizes_judged
sizes_gamma model gamma n depth rounds source rows e =
    let both : (leb gamma 64 && leb n 1024) && (bank_fits model depth rounds && table_fits source rows) ≡ true = judge_holds _ Size e in
    let sizes : leb gamma 64 && leb n 1024 ≡ true = left_holds (leb gamma 64 && leb n 1024) _ both in
    (leb-true gamma 64 (left_holds (leb gamma 64) (leb n 1024) sizes), leb-true n 1024 (right_holds (leb gamma 64) (leb n 1024) sizes))

-- ---- what was passed
pub record Passed (s : Settings) (a : Ask) (l : Lent) (cs : List Change) : Type 0 where
  pub gamma_most : s.gamma ≤ 64
  pub sequences_some : 1 ≤ a.sequences
  pub sequences_most : a.sequences ≤ 1024
  pub costs_pass : costs_valued s a l ≡ true
  pub values_pass : policy_valued s.policy s.model s.switch (gamma_in s a.depth) l.bank_curve_of (past_from (record_of (worker_in s a l) cs)) ≡ true
  pub worker_passes : cond (is_put s a l s.policy) (worker_rule (worker_in s a l) cs) 0 ≡ 0
  pub step_passes : step_rule (second_of a.end) cs ≡ 0

module _ (s : Settings) (a : Ask) (l : Lent) (drafts commits : ℕ) (cs : List Change) where
  unless_plan : (n : ℕ) (answer : Planned) → is_plan (answer_unless s a l drafts commits cs n answer) ≡ true → (n ≡ 0) × (is_plan answer ≡ true)
  unless_plan zero answer e = (refl, e)
  unless_plan (suc n) answer e = absurd (not_both false e refl)

  unless_empty : (b : Bool) (answer : Planned) → is_plan (cond b Empty answer) ≡ true → (b ≡ false) × (is_plan answer ≡ true)
  unless_empty true answer e = absurd (not_both false e refl)
  unless_empty false answer e = (refl, e)

  values_hold : (past : Past) → values_refusal s a l past ≡ 0 → (costs_valued s a l ≡ true) × (policy_valued s.policy s.model s.switch (gamma_in s a.depth) l.bank_curve_of past ≡ true)
  unfolding values_judged
  values_hold past e = let h = judge_holds _ Input e in (left_holds (costs_valued s a l) _ h, right_holds (costs_valued s a l) _ h)

  -- nothing is refused
  pub accepted : is_plan (answer_on s a l drafts commits cs) ≡ true → refusal_on s a l drafts commits cs ≡ 0
  unfolding answer_on
  accepted e =
      let one = unless_plan (settings_refusal s l.positions) _ e in
      let two = unless_empty (eqb a.sequences 0) _ one.1 in
      (unless_plan (refusal_on s a l drafts commits cs) _ two.1).0

  -- and there is a sequence
  pub some_asked : is_plan (answer_on s a l drafts commits cs) ≡ true → 1 ≤ a.sequences
  unfolding answer_on
  some_asked e =
      let one = unless_plan (settings_refusal s l.positions) _ e in
      let two = unless_empty (eqb a.sequences 0) _ one.1 in
      let none : a.sequences ≡ 0 → ⊥ = eqb-false a.sequences 0 two.0 in
      omega (arith, none)

  -- and all its rounds are drawn
  pub draws_there : is_plan (answer_on s a l drafts commits cs) ≡ true → is_plan (plan_answer (drawn s a l).answer (decision_on s a l (record_of (worker_in s a l) cs)).weighed) ≡ true
  unfolding answer_on
  draws_there e =
      let one = unless_plan (settings_refusal s l.positions) _ e in
      let two = unless_empty (eqb a.sequences 0) _ one.1 in
      (unless_plan (refusal_on s a l drafts commits cs) _ two.1).1

  pub passed : 1 ≤ a.sequences → refusal_on s a l drafts commits cs ≡ 0 → Passed s a l cs
  unfolding refusal_on
  passed some e =
      let sizes : ℕ = sizes_refusal s.model s.gamma a.sequences a.depth a.rounds a.source a.rows in
      let rooms : ℕ = rooms_refusal s a (lengths_of l room drafts commits) in
      let refused : ℕ = values_refusal s a l (past_from (record_of (worker_in s a l) cs)) in
      let draws : ℕ = drawn_refusal s a l (drawn s a l).answer in
      let worker : ℕ = cond (is_put s a l s.policy) (worker_rule (worker_in s a l) cs) 0 in
      let none = all_none sizes rooms refused draws (signals_refusal s a l) worker (step_rule (second_of a.end) cs) e in
      let most = sizes_gamma s.model s.gamma a.sequences a.depth a.rounds a.source a.rows none.0 in
      let values = values_hold (past_from (record_of (worker_in s a l) cs)) none.1 in
      record {
        gamma_most = most.0;
        sequences_some = some;
        sequences_most = most.1;
        costs_pass = values.0;
        values_pass = values.1;
        worker_passes = none.2;
        step_passes = none.3;
      }
