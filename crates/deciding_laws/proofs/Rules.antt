-- What is decided by the loop's depth is what the rules decide: the best depth is the smallest of finite cost whose goodput no other exceeds. Assumes nothing.
use Prim.Native.Nat.{ℕ, ◌+◌, ◌≤◌, ◌<◌}
use mathlib.Core.Path.{◌≡◌, refl, sym, ap, ◌∙◌}
use mathlib.Core.Bool.{true, cond}
use mathlib.Core.List.{List}
use native.Mathlib.Omega.{arith}
use lib.ListN.{length, take, replicate}
use lib.Seq.{length-take-le}
use lib.Ieee.{Float}
use Rattle.asking.proofs.Passed.{gamma_in_le}
use Rattle.float.proofs.Classes.{clash}
use Rattle.acceptance.specs.Acceptance.{model_refusal}
use Rattle.acceptance.specs.declared.AcceptanceModel.{AcceptanceModel}
use Rattle.acceptance.specs.declared.AcceptanceModel.TheVariants.{Constant, PerPosition, Trace}
use Rattle.speculative.specs.Drafter.{loaded_at}
use Rattle.chains.specs.Tests.{all_of, is_accepted}
use Rattle.chains.specs.Expected.{expected_over}
use Rattle.depth_laws.proofs.Wins.{AllClear}
use Rattle.depth_laws.proofs.Domain.{over_best}
use Rattle.goodput.specs.Depth.{best_priced}
use Rattle.goodput.proofs.Answers.{expected_length}
use Rattle.switch_settings.specs.Switch.{is_unconstrained}
use Rattle.ledger_rows.specs.declared.layout.Past.{Past}
use Rattle.settings.specs.declared.Policy.{Policy}
use Rattle.settings.specs.declared.Policy.TheVariants.{Fixed, GoodputBudget, GatedBudget, GatedAggregate}
use Rattle.settings.specs.declared.Settings.{Settings}
use Rattle.settings.specs.Settings.{capped_by, gamma_under, gamma_in, uses_costs, uses_signals, is_trace}
use Rattle.rounds.specs.Signals.{are_finite}
use Rattle.asked_rooms.specs.declared.Ask.{Ask}
use Rattle.asking.specs.Asked.{Lent}
use Rattle.deciding.specs.Deciding.{mean_expected, toward, all_at, each, all_put, chains_in, decided_by}
use Rattle.gating.specs.Chains.{chains_expected, gate_at}
use Rattle.deciding.specs.Ready.{looped, lent_of}
use Rattle.deciding.proofs.Means.{mean_length}
use Rattle.deciding_laws.proofs.Clear.{chained_clear, Bank, mean_clear}

-- a decision reads five of the lists
pub reads : (best : List Float → List Float → ℕ) (s : Settings) (a : Ask) (l : Lent) (curve : List Float) (p : Policy) (past : Past)
    → decided_by best s a l curve p past ≡ decided_by best s a (lent_of l.positions l.loaded l.signals l.bank_curve_of l.indices) curve p past
unfolding decided_by
reads best s a l curve Fixed past = refl
reads best s a l curve GoodputBudget past = refl
reads best s a l curve GatedBudget past = refl
reads best s a l curve GatedAggregate past = refl

-- what the judges let through
pub record Judged (s : Settings) (a : Ask) (l : Lent) (curve : List Float) : Type 0 where
  pub shallow : s.gamma ≤ 64
  pub few : a.sequences ≤ 1024
  pub modelled : model_refusal s.model l.positions ≡ 0
  pub priced : uses_costs s.policy ≡ true → length curve ≡ gamma_in s a.depth + 1
  pub deep : is_trace s.model ≡ true → (1 ≤ a.depth) × (a.depth ≤ 64)
  pub banked : s.policy ≡ GoodputBudget → is_trace s.model ≡ true → gamma_in s a.depth < length l.bank_curve_of
  pub accepted : s.policy ≡ GoodputBudget → is_trace s.model ≡ true → all_of is_accepted (take (gamma_in s a.depth + 1) l.bank_curve_of) ≡ true
  pub finite : uses_signals s.policy ≡ true → is_trace s.model ≡ true → are_finite l.signals a.depth (gamma_in s a.depth) (take a.sequences l.indices) ≡ true

-- a bank's depth caps gamma where the policy is not Fixed
capped_deep : (model : AcceptanceModel) (gamma depth : ℕ) → is_trace model ≡ true → capped_by model gamma depth ≤ depth
capped_deep (Constant alpha) gamma depth t = clash t
capped_deep PerPosition gamma depth t = clash t
capped_deep Trace gamma depth t = omega arith

module _ (s : Settings) (a : Ask) (l : Lent) (curve : List Float) (j : Judged s a l curve) (past : Past) where
  -- the rules' best depth
  abbrev best : List Float → List Float → ℕ
  best es prices = best_priced s.drafter a.sequences a.rates l.loaded es prices

  low : gamma_in s a.depth ≤ 64
  low = omega (arith, gamma_in_le s a.depth, j.shallow)

  over : (es : List Float) → length es ≡ gamma_in s a.depth + 1 → uses_costs s.policy ≡ true → AllClear es → looped s a l.loaded es curve ≡ best es curve
  over es n u E = over_best s.drafter a.sequences a.rates (loaded_at s.drafter l.loaded a.sequences) es curve (n ∙ sym (j.priced u)) E

  mean : s.policy ≡ GoodputBudget
      → looped s a l.loaded (mean_expected s.model l.positions l.bank_curve_of a.depth a.sequences (gamma_in s a.depth)) curve
      ≡ best (mean_expected s.model l.positions l.bank_curve_of a.depth a.sequences (gamma_in s a.depth)) curve
  mean e =
      let g = gamma_in s a.depth in
      let capped : g ≡ capped_by s.model s.gamma a.depth = ap (λ (p : Policy). gamma_under p s.model s.gamma a.depth) e in
      let bank : is_trace s.model ≡ true → Bank g low a.sequences j.few l.bank_curve_of a.depth = λ t. record {
        some = (j.deep t).0;
        shallow = (j.deep t).1;
        within = omega (arith, capped, capped_deep s.model s.gamma a.depth t);
        there = j.banked e t;
        in_range_lem = j.accepted e t;
      } in
      over _ (mean_length s.model l.positions l.bank_curve_of a.depth a.sequences g) (ap uses_costs e)
      (mean_clear g low a.sequences j.few s.model l.positions l.bank_curve_of a.depth j.modelled bank)

  chained : uses_costs s.policy ≡ true → uses_signals s.policy ≡ true
      → looped s a l.loaded (chains_expected a.sequences (gamma_in s a.depth) (chains_in best s a l curve)) curve
      ≡ best (chains_expected a.sequences (gamma_in s a.depth) (chains_in best s a l curve)) curve
  chained c u =
      let g = gamma_in s a.depth in
      let es = expected_over g (replicate a.sequences g) (chains_in best s a l curve) in
      over (take (g + 1) es) (length-take-le (g + 1) es (omega (arith, expected_length g (replicate a.sequences g) (chains_in best s a l curve), low))) c
      (chained_clear g low s.model l.positions l.signals a.depth l.indices a.sequences j.modelled (j.finite u))

  by_policy : (p : Policy) → s.policy ≡ p → decided_by (looped s a l.loaded) s a l curve p past ≡ decided_by best s a l curve p past
  unfolding decided_by
  by_policy Fixed e = refl
  by_policy GoodputBudget e = ap (all_at a.sequences) (mean e)
  by_policy GatedBudget e =
      ap (λ (d : ℕ). each (gate_at s.prices s.drafter a.rates l.loaded curve a.sequences (gamma_in s a.depth) (chains_in best s a l curve) d)) (chained (ap uses_costs e) (ap uses_signals e))
  by_policy GatedAggregate e =
      ap (λ (d : ℕ). cond (is_unconstrained s.switch) (all_at a.sequences d) (all_put a.sequences a.a a.b (toward s.switch curve d past))) (chained (ap uses_costs e) (ap uses_signals e))

  -- the loop's decision is the rules'
  pub loop_decides : decided_by (looped s a l.loaded) s a l curve s.policy past ≡ decided_by best s a l curve s.policy past
  loop_decides = by_policy s.policy refl

  -- so what `decide` gives, of the five lists that it is lent, is what the rules decide of all of them
  pub rules_decide : decided_by (looped s a l.loaded) s a (lent_of l.positions l.loaded l.signals l.bank_curve_of l.indices) curve s.policy past ≡ decided_by best s a l curve s.policy past
  rules_decide = sym (reads (looped s a l.loaded) s a l curve s.policy past) ∙ loop_decides
