-- The bridged price in a plan that was not refused before its draws and looks at costs. `curve_of` is the plan's price curve, of the depths 0 to gamma, by a table
-- or a roofline; `table_of` is its table. Assumes nothing.
use mathlib.Core.Path.{◌≡◌, refl, sym, ap, ◌∙◌, subst}
use mathlib.Core.Bool.{true, false}
use mathlib.Core.List.{List}
use Prim.Native.Nat.{ℕ, ◌+◌, ◌≤◌, ◌<◌}
use native.Mathlib.Omega.{arith}
use lib.ListN.{length, get_or, take, replicate, length-take, length-replicate}
use lib.Ieee.{Float, nan, binary64, neg, le, is_nan, fits}
use Rattle.refusals.specs.declared.Refusal.TheVariants.{Setting, Input}
use Rattle.refusals.proofs.First.{passed_is_zero}
use Rattle.float.specs.Floats.{whole, f0, infinity, is_finite}
use Rattle.float.specs.Range.{in_signed_range}
use Rattle.speculative.specs.Drafter.{billion, is_streamed, is_drafter, rates_judged, rates_refusal, drafter_judged, drafter_refusal, drafter_seconds, loaded_at}
use Rattle.speculative.specs.declared.drafter.Rates.{Rates}
use Rattle.speculative.specs.declared.drafter.DrafterCost.{DrafterCost}
use Rattle.speculative.specs.declared.drafter.DrafterCost.TheVariants.{BlockParallel}
use Rattle.chains.specs.Tests.{is_price}
use Rattle.chains.proofs.Tested.{all_says}
use Rattle.step_times.specs.Prices.{prices}
use Rattle.step_times.specs.Between.{step_time_frac}
use Rattle.batch_ranges.specs.Range.{measures}
use Rattle.goodput_judges.proofs.Judges.{test_passed, both_tests}
use Rattle.goodput.specs.Curve.{source_of, in_force}
use Rattle.goodput.specs.declared.curve.Source.{Source}
use Rattle.goodput.specs.declared.curve.Source.TheVariants.{Roofline, Table}
use Rattle.verify_prices.specs.Price.{mean_width}
use Rattle.verify_prices.specs.Bridge.{is_measured, bridged_cost}
use Rattle.verify_prices.specs.Rule.{rule_of}
use Rattle.verify_prices.specs.declared.PriceMode.{PriceMode}
use Rattle.verify_prices.specs.declared.PriceMode.TheVariants.{Bridged}
use Rattle.block.specs.Block.{block_gate}
use Rattle.ledger_rows.specs.declared.layout.Past.{Past}
use Rattle.settings.specs.declared.Policy.{Policy}
use Rattle.settings.specs.declared.Policy.TheVariants.{GatedBudget}
use Rattle.settings.specs.declared.Settings.{Settings}
use Rattle.settings.specs.Settings.{gamma_in, uses_costs}
use Rattle.asked_rooms.specs.declared.Ask.{Ask}
use Rattle.asking.specs.Asked.{Lent, table_of, asked_refusal}
use Rattle.asking.proofs.Passed.{depth_small, sequences_few, rates_valued, roofline_room, roofline_valued, table_lawful}
use Rattle.gating.specs.Chains.{chains_expected, gate_at}
use Rattle.deciding.specs.Deciding.{chains_in, best_in, each, decided_by}
use Rattle.planning.specs.Steps.{curve_of, best}
use Rattle.gates_laws.specs.Entries.{Curve}
use Rattle.gates_laws.specs.Holes.{is_inside}
use Rattle.gates_laws.proofs.Prices.{price_entry}
use Rattle.gates_laws.proofs.Bridged.{bridged_finite, bridged_number, bridged_open}
use Rattle.bridged_laws.specs.Rows.{every_row, or_infinity}
use Rattle.bridged_laws.specs.Paying.{paying_widths}
use Rattle.bridged_laws.proofs.Means.{finite_mean}
use Rattle.bridged_laws.proofs.Tabled.{table_curve}
use Rattle.bridged_laws.proofs.Lookup.{is_the_lookup}
use Rattle.bridged_laws.proofs.NeverPasses.{never_passes_judged}
use Rattle.bridged_laws.proofs.Chosen.{chosen_measured, measured_on}

pub rates_delta : (rates : Rates) → rates_refusal rates ≡ 0 → in_signed_range (neg billion) billion rates.kv_delta ≡ true
unfolding rates_judged
rates_delta rates e = (both_tests (is_streamed rates) (in_signed_range (neg billion) billion rates.kv_delta) Input (passed_is_zero (rates_judged rates) e)).1

module _ (s : Settings) (a : Ask) (l : Lent) (ws : List ℕ) (drafts commits : ℕ) (e : asked_refusal s a l ws drafts commits ≡ 0) (u : uses_costs s.policy ≡ true) where
  abbrev gamma : ℕ
  gamma = gamma_in s a.depth

  abbrev n : ℕ
  n = a.sequences

  abbrev kv : Float
  kv = a.rates.kv_delta

  small : gamma ≤ 64
  small = depth_small s a l ws drafts commits e

  force_is : (x : Source) → a.source ≡ x → curve_of s a l ≡ in_force l.roofline (prices n kv (table_of a l)) x gamma
  unfolding curve_of
  force_is x q = ap (λ (y : Source). in_force l.roofline (prices n kv (table_of a l)) y gamma) q

  -- a judged roofline
  roofline_curve : a.source ≡ Roofline → 1 ≤ gamma → Curve (take (gamma + 1) l.roofline)
  roofline_curve q some =
      let room = roofline_room s a l ws drafts commits e u q in
      let long : length (take (gamma + 1) l.roofline) ≡ gamma + 1 = simp length-take (omega arith) in
      record {
        many = omega (arith, long);
        few = omega (arith, long, small);
        each = λ g h. price_entry (get_or (take (gamma + 1) l.roofline) g nan) (all_says is_price nan (take (gamma + 1) l.roofline) (roofline_valued s a l ws drafts commits e u q) g h);
      }

  -- the plan's curve is one of prices up to 2^57 and holes
  pub plan_curve : 1 ≤ gamma → Curve (curve_of s a l)
  plan_curve some = go a.source refl
    where
      go : (x : Source) → a.source ≡ x → Curve (curve_of s a l)
      go Roofline q = subst Curve (sym (force_is Roofline q)) (roofline_curve q some)
      go Table q =
          subst Curve (sym (force_is Table q))
          (table_curve gamma n small kv (rates_delta a.rates (rates_valued s a l ws drafts commits e u)) (table_of a l) (table_lawful s a l ws drafts commits e u q) some)

  curve_long : length (curve_of s a l) ≤ gamma + 1
  curve_long = go a.source refl
    where
      go : (x : Source) → a.source ≡ x → length (curve_of s a l) ≤ gamma + 1
      go x q = subst (λ (c : List Float). length c ≤ gamma + 1) (sym (force_is x q)) (let z : length (take (gamma + 1) (source_of l.roofline (prices n kv (table_of a l)) x)) ≤ gamma + 1 = simp length-take (omega arith) in z)

  -- so a bridged price in the plan is finite exactly inside the measured depths, +infinity outside them, and never a NaN
  module _ (some : 1 ≤ gamma) (t : Float) where
    pub plan_bridged_finite : is_finite (bridged_cost (curve_of s a l) n t) ≡ is_inside (curve_of s a l) n t
    plan_bridged_finite = bridged_finite (curve_of s a l) (plan_curve some) n t

    pub plan_bridged_open : is_inside (curve_of s a l) n t ≡ false → bridged_cost (curve_of s a l) n t ≡ infinity
    plan_bridged_open = bridged_open (curve_of s a l) (plan_curve some) n t

    pub plan_bridged_number : is_nan (bridged_cost (curve_of s a l) n t) ≡ false
    plan_bridged_number = bridged_number (curve_of s a l) (plan_curve some) n t

  -- priced by a table whose seconds are f64s, with kv_delta 0, at any finite number of tokens: the bridged price is the table's fractional lookup at the mean
  -- width, where a depth at or above it is measured that is no deeper than gamma
  module _ (q : a.source ≡ Table) (zero_delta : kv ≡ f0) (held : every_row (fits binary64) (table_of a l) ≡ true) (some : 1 ≤ n) (t : Float) (finite : is_finite t ≡ true) where
    free_is : curve_of s a l ≡ take (gamma + 1) (prices n f0 (table_of a l))
    free_is = force_is Table q ∙ ap (λ (x : Float). take (gamma + 1) (prices n x (table_of a l))) zero_delta

    pub plan_lookup : (k : ℕ) → k ≤ gamma → measures k (table_of a l) ≡ true → le (mean_width gamma n t) (whole k) ≡ true
        → bridged_cost (curve_of s a l) n t ≡ or_infinity (step_time_frac n (mean_width gamma n t) (table_of a l))
    plan_lookup k h m r =
        ap (λ (c : List Float). bridged_cost c n t) free_is
        ∙ is_the_lookup gamma n small (table_of a l) (table_lawful s a l ws drafts commits e u q) held t (finite_mean gamma n t some (omega (arith, sequences_few s a l ws drafts commits e)) finite) k h m r

  -- a GatedBudget plan with a judged block head, bridged, with depth 0 measured and a best depth above 0: no slot is passed over
  module _ (params : Float) (block : ℕ) (head : s.drafter ≡ BlockParallel params block) (judged : drafter_refusal s.drafter ≡ 0) (gated : s.policy ≡ GatedBudget)
      (mode : s.prices ≡ Bridged) (first : is_measured (curve_of s a l) 0 ≡ true) where
    abbrev kind : DrafterCost
    kind = BlockParallel params block

    abbrev curve : List Float
    curve = curve_of s a l

    abbrev chains : List Float
    chains = chains_in (best s a l) s a l curve

    abbrev depth : ℕ
    depth = best_in (best s a l) s a l curve

    drafter : is_drafter kind ≡ true
    unfolding drafter_judged
    drafter = ap is_drafter (sym head) ∙ test_passed (is_drafter s.drafter) Setting (passed_is_zero (drafter_judged s.drafter) judged)

    streamed : is_streamed a.rates ≡ true
    unfolding rates_judged
    streamed =
        (both_tests (is_streamed a.rates) (in_signed_range (neg billion) billion kv) Input
        (passed_is_zero (rates_judged a.rates) (rates_valued s a l ws drafts commits e u))).0

    -- the gate's answer is that of the gate which takes each slot that pays and stops at the first that does not
    pub plan_never_passes : 0 < depth → (past : Past)
        → decided_by (best s a l) s a l curve s.policy past ≡ each (paying_widths (bridged_cost curve n) chains depth (drafter_seconds kind depth n a.rates (get_or curve depth nan) (loaded_at kind l.loaded n)) (replicate n gamma))
    unfolding decided_by
    plan_never_passes some past =
        let measured = chosen_measured s.drafter n a.rates l.loaded (chains_expected n gamma chains) curve some in
        let on_curve = measured_on curve depth measured in
        let many = length-replicate {A = ℕ} n gamma in
        let deep : 1 ≤ gamma = omega (arith, on_curve, some, curve_long) in
        let answer = never_passes_judged curve (plan_curve deep) first depth some (omega (arith, on_curve)) measured chains (replicate n gamma) a.rates l.loaded params block (omega (arith, many, sequences_few s a l ws drafts commits e)) drafter streamed in
        ap (λ (p : Policy). decided_by (best s a l) s a l curve p past) gated
        ∙ ap (λ (m : PriceMode). each (gate_at m s.drafter a.rates l.loaded curve n gamma chains depth)) mode
        ∙ ap (λ (k : DrafterCost). each (gate_at Bridged k a.rates l.loaded curve n gamma chains depth)) head
        ∙ ap each (subst (λ (m : ℕ). block_gate (rule_of Bridged curve m) chains (replicate n gamma) curve depth kind a.rates l.loaded
        ≡ paying_widths (bridged_cost curve m) chains depth (drafter_seconds kind depth m a.rates (get_or curve depth nan) (loaded_at kind l.loaded m)) (replicate n gamma)) many answer)
