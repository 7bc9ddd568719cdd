-- What is known where nothing is refused, and that the answer is then the rules' best depth. Assumes nothing.
use mathlib.Core.Path.{◌≡◌, refl, sym, ap, ◌∙◌}
use mathlib.Core.List.{List, [], ◌∷◌}
use Prim.Native.Nat.{ℕ, ◌+◌, ◌-◌, ◌≤◌, min}
use native.Mathlib.Omega.{arith}
use lib.ListN.{length, take, drop, replicate, length-take}
use lib.Ieee.{Float}
use Rattle.laws.proofs.Both.{both}
use Rattle.std.specs.Prelude.{Ok}
use Rattle.speculative.specs.Drafter.{loaded_at}
use Rattle.speculative.specs.declared.drafter.Rates.{Rates}
use Rattle.speculative.specs.declared.drafter.DrafterCost.{DrafterCost}
use Rattle.float.specs.Floats.{f0}
use Rattle.chains.specs.Tests.{all_of, is_expected, is_price}
use Rattle.chains.specs.Expected.{Fits, are_chains, with_chain, sums_with, expected_over}
use Rattle.depths.specs.Pricing.{depth_over}
use Rattle.goodput.specs.Depth.{best_priced, depth_answer, aggregate_answer}
use Rattle.goodput_judges.specs.Refusals.{depth_judged, aggregate_judged}
use Rattle.depths.specs.Pricing.{gate_depth}
use Rattle.goodput.proofs.Batches.{narrow}
use Rattle.chains.proofs.Summed.{with_length}
use Rattle.goodput_judges.proofs.Passed.{depth_passed, aggregate_passed}
use Rattle.depth_laws.proofs.Domain.{expected_clear, chains_clear, over_best}

-- the first gamma + 1 of as many or more
front : (gamma : ℕ) (xs : List Float) → gamma + 1 ≤ length xs → length (take (gamma + 1) xs) ≡ gamma + 1
front gamma xs h = length-take (gamma + 1) xs ∙ omega arith

-- ---- of expected values that are lent
pub depth_found : (es curve : List Float) (gamma n : ℕ) (kind : DrafterCost) (rates : Rates) (loaded : List Float) (experts : Float) (g : ℕ)
    → depth_judged es curve gamma n kind rates loaded ≡ Ok tt → experts ≡ loaded_at kind loaded n
    → g ≡ depth_over kind n rates experts (take (gamma + 1) es) (take (gamma + 1) curve) → Ok g ≡ depth_answer es curve gamma n kind rates loaded
unfolding depth_answer
depth_found es curve gamma n kind rates loaded experts g e x d =
    let w = depth_passed es curve gamma n kind rates loaded e in
    let es' = take (gamma + 1) es in
    let curve' = take (gamma + 1) curve in
    let b = both (all_of is_expected es') (all_of is_price curve') w.lent.in_range_lem in
    let best : depth_over kind n rates (loaded_at kind loaded n) es' curve' ≡ best_priced kind n rates loaded es' curve' =
    over_best kind n rates (loaded_at kind loaded n) es' curve' (front gamma es w.values ∙ sym (front gamma curve w.prices)) (expected_clear es' b.0) in
    let found : g ≡ best_priced kind n rates loaded es' curve' = d ∙ ap (λ (y : Float). depth_over kind n rates y es' curve') x ∙ best in
    rw (e, found)

-- ---- of a batch's chains: there are 65 values
sums_length : (gamma : ℕ) (lengths : List ℕ) (slots sums : List Float) → length (sums_with gamma lengths slots sums) ≡ length sums
unfolding sums_with
sums_length gamma [] slots sums = refl
sums_length gamma (l ∷ ls) slots sums = sums_length gamma ls (drop 64 slots) (with_chain (take (min gamma l) slots) sums) ∙ with_length (take (min gamma l) slots) sums

pub expected_length : (gamma : ℕ) (lengths : List ℕ) (slots : List Float) → length (expected_over gamma lengths slots) ≡ 65
expected_length gamma lengths slots = sums_length gamma lengths slots (replicate 65 f0)

module _ (chains : List Float) (lengths : List ℕ) (curve : List Float) (gamma : ℕ) (kind : DrafterCost) (rates : Rates) (loaded : List Float) (e : aggregate_judged chains lengths curve gamma kind rates loaded ≡ Ok tt) where
  abbrev n : ℕ
  n = length lengths

  abbrev curve' : List Float
  curve' = take (gamma + 1) curve

  pub batch_fits : Fits chains lengths
  batch_fits =
      let w = aggregate_passed chains lengths curve gamma kind rates loaded e in
      let b = both (are_chains gamma lengths chains) (all_of is_price curve') w.lent.in_range_lem in
      record { room = w.there; few = w.sized.few; narrow = narrow gamma lengths chains b.0 }

  -- the curve has gamma + 1 entries
  same_gate : (experts : Float) (c : List Float) → length c ≡ gamma + 1
      → gate_depth kind rates experts lengths chains c ≡ depth_over kind n rates experts (take (gamma + 1) (expected_over gamma lengths chains)) c
  unfolding gate_depth
  same_gate experts c h =
      let m : length c - 1 ≡ gamma = omega arith in
      ap (λ (k : ℕ). depth_over kind n rates experts (take k (expected_over (length c - 1) lengths chains)) c) h
      ∙ ap (λ (k : ℕ). depth_over kind n rates experts (take (gamma + 1) (expected_over k lengths chains)) c) m

  pub batch_found : (experts : Float) (g : ℕ) → experts ≡ loaded_at kind loaded n → g ≡ gate_depth kind rates experts lengths chains curve' → Ok g ≡ aggregate_answer chains lengths curve gamma kind rates loaded
  unfolding aggregate_answer
  batch_found experts g x d =
      let w = aggregate_passed chains lengths curve gamma kind rates loaded e in
      let es = expected_over gamma lengths chains in
      let es' = take (gamma + 1) es in
      let b = both (are_chains gamma lengths chains) (all_of is_price curve') w.lent.in_range_lem in
      let all : gamma + 1 ≤ length es = omega (arith, expected_length gamma lengths chains, w.sized.shallow) in
      let long = front gamma curve w.prices in
      let best : depth_over kind n rates (loaded_at kind loaded n) es' curve' ≡ best_priced kind n rates loaded es' curve' =
      over_best kind n rates (loaded_at kind loaded n) es' curve' (front gamma es all ∙ sym long) (chains_clear gamma (gamma + 1) lengths chains b.0) in
      let found : g ≡ best_priced kind n rates loaded es' curve' =
      d ∙ ap (λ (y : Float). gate_depth kind rates y lengths chains curve') x ∙ same_gate (loaded_at kind loaded n) curve' long ∙ best in
      rw (e, found)
