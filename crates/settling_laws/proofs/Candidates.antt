-- Which depths are candidates does not hang on the batch or on kv_delta: of every accepted GatedAggregate plan they are those of its prices for one sequence and
-- kv_delta 0. So it can be asked where a width settles before there is a batch. Assumes nothing.
use mathlib.Core.Path.{◌≡◌, refl, sym, ap, ◌∙◌}
use mathlib.Core.Bool.{Bool, true, ◌&&◌, cond}
use mathlib.Core.List.{List, [], ◌∷◌}
use Prim.Native.Nat.{ℕ, suc, ◌+◌, ◌≤◌, ◌<◌, zero-le, suc-le-suc}
use native.Mathlib.Omega.{arith}
use lib.Dec.{eqb}
use borrow.Author.Tests.{eqb-true}
use lib.ListN.{length, get_or, take}
use lib.Ieee.{Float, nan, is_nan, neg, lt, of_bits}
use Rattle.std.specs.Prelude.{is_ok}
use Rattle.refusals.specs.Refusals.{number_in}
use Rattle.refusals.proofs.First.{ok_passed}
use Rattle.laws.proofs.Both.{both}
use Rattle.float.specs.Floats.{f0, is_finite}
use Rattle.float.specs.Range.{in_signed_range}
use Rattle.speculative.specs.Drafter.{billion, rates_judged, rates_refusal}
use Rattle.cost_rows.specs.Table.{Row}
use Rattle.cost_rows.specs.Lawful.{lawful}
use Rattle.step_times.specs.Prices.{prices}
use Rattle.goodput.specs.declared.curve.Source.{Source}
use Rattle.goodput.specs.declared.curve.Source.TheVariants.{Roofline, Table}
use Rattle.goodput.specs.Curve.{in_force}
use Rattle.switching.specs.Deciding.{finite_from, candidates_of}
use Rattle.ledger_laws.specs.Model.{Change}
use Rattle.settings.specs.declared.Policy.{Policy}
use Rattle.settings.specs.declared.Policy.TheVariants.{GatedAggregate}
use Rattle.settings.specs.declared.Settings.{Settings}
use Rattle.settings.specs.Settings.{gamma_in, gamma_under, uses_costs}
use Rattle.asked_rooms.specs.declared.Ask.{Ask}
use Rattle.asking.specs.Asked.{Lent, table_of, costs_valued}
use Rattle.asking.specs.Values.{prices_valued, loaded_valued}
use Rattle.asking.proofs.Passed.{under_le}
use Rattle.planner.specs.Plan.{curve_of}
use Rattle.planner_laws.specs.Standing.{answer_on, is_plan}
use Rattle.planner_laws.proofs.Theorem.{plan_passes}
use Rattle.bridged_laws.proofs.Planned.{rates_delta}
use Rattle.bridged_laws.proofs.Tabled.{force_long, measured_exactly}
use Rattle.settling.specs.Settling.{candidates_in}
use Rattle.settling_laws.specs.Asked.{prices_of}

-- ---- two curves that are finite at the same depths have the same candidates
pub same_candidates : (g : ℕ) (xs ys : List Float) → length xs ≡ length ys → ((i : ℕ) → i < length xs → is_finite (get_or xs i nan) ≡ is_finite (get_or ys i nan))
    → finite_from g xs ≡ finite_from g ys
unfolding finite_from
same_candidates g [] [] e same = refl
same_candidates g [] (y ∷ ys) e same = absurd (let w : ⊥ = omega arith in w)
same_candidates g (x ∷ xs) [] e same = absurd (let w : ⊥ = omega arith in w)
same_candidates g (x ∷ xs) (y ∷ ys) e same =
    let later : finite_from (suc g) xs ≡ finite_from (suc g) ys = same_candidates (suc g) xs ys (omega arith) (λ i h. same (suc i) (suc-le-suc h)) in
    ap (λ (l : List ℕ). cond (is_finite x) (g ∷ l) l) later ∙ ap (λ (b : Bool). cond b (g ∷ finite_from (suc g) ys) (finite_from (suc g) ys)) (same 0 (suc-le-suc zero-le))

-- ---- by a table: the depths that have a row
no_delta : in_signed_range (neg billion) billion f0 ≡ true
unfolding in_signed_range is_nan lt neg of_bits
no_delta = refl

pub by_table : (gamma n : ℕ) (kv : Float) (t : List Row) → gamma ≤ 64 → in_signed_range (neg billion) billion kv ≡ true → lawful t ≡ true
    → candidates_of (take (gamma + 1) (prices n kv t)) ≡ candidates_of (take (gamma + 1) (prices 1 f0 t))
by_table gamma n kv t small range law =
    let long = force_long gamma n kv t small in
    same_candidates 0 (take (gamma + 1) (prices n kv t)) (take (gamma + 1) (prices 1 f0 t)) (long ∙ sym (force_long gamma 1 f0 t small))
    (λ i h. measured_exactly gamma n small kv range t law i (omega (arith, long, h)) ∙ sym (measured_exactly gamma 1 small f0 no_delta t law i (omega (arith, long, h))))

-- ---- of an accepted plan
module _ (s : Settings) (a : Ask) (l : Lent) (gated : s.policy ≡ GatedAggregate) where
  costs_valued_lem : costs_valued s a l ≡ true → (rates_refusal a.rates ≡ 0) × (prices_valued a.source (gamma_in s a.depth) l.roofline (table_of a l) ≡ true)
  costs_valued_lem e =
      let rates = is_ok (rates_judged a.rates) in
      let priced = prices_valued a.source (gamma_in s a.depth) l.roofline (table_of a l) in
      let loaded = loaded_valued s.drafter a.sequences l.loaded in
      let used : rates && (priced && loaded) ≡ true = sym (ap (λ (p : Policy). cond (uses_costs p) (rates && (priced && loaded)) true) gated) ∙ e in
      let one = both rates (priced && loaded) used in
      (ap number_in (ok_passed (rates_judged a.rates) one.0), (both priced loaded one.1).0)

  by_source : s.gamma ≤ 64 → rates_refusal a.rates ≡ 0 → (x : Source) → prices_valued x (gamma_in s a.depth) l.roofline (table_of a l) ≡ true
      → candidates_of (in_force l.roofline (prices a.sequences a.rates.kv_delta (table_of a l)) x (gamma_in s a.depth))
      ≡ candidates_of (in_force l.roofline (prices 1 f0 (table_of a l)) x (gamma_in s a.depth))
  by_source small rates Roofline valued = refl
  by_source small rates Table valued =
      by_table (gamma_in s a.depth) a.sequences a.rates.kv_delta (table_of a l)
      (omega (arith, under_le s.policy s.model s.gamma a.depth, small)) (rates_delta a.rates rates) valued

  pub plan_candidates : (drafts commits : ℕ) (cs : List Change) → is_plan (answer_on s a l drafts commits cs) ≡ true → candidates_of (curve_of s a l) ≡ candidates_in s a (prices_of l)
  unfolding curve_of
  plan_candidates drafts commits cs e =
      let passes = plan_passes s a l drafts commits cs e in
      let values = costs_valued_lem passes.costs_pass in
      by_source passes.gamma_most values.0 a.source values.1
      ∙ ap (λ (p : Policy). candidates_of (in_force l.roofline (prices 1 f0 (table_of a l)) a.source (gamma_under p s.model s.gamma a.depth))) gated
