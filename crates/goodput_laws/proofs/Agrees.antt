-- What is worked out in one call is what the calls for one depth, or two calls, answer: n times the model's and the bank's own expected acceptance, and the best depth of a batch. Assumes nothing.
use mathlib.Core.Path.{◌≡◌, sym, ap, ◌∙◌}
use mathlib.Core.Bool.{true}
use mathlib.Core.List.{List}
use Prim.Native.Nat.{ℕ, ◌+◌, ◌*◌, ◌≤◌, ◌<◌, min}
use native.Mathlib.Omega.{arith}
use borrow.Author.Tests.{le-leb, lt-ltb}
use lib.ListN.{length, get_or, take, length-take}
use lib.Seq.{get_or-take, take-take}
use lib.Ieee.{Float, nan}
use Rattle.std.specs.Prelude.{Ok}
use Rattle.refusals.proofs.First.{passed_is_zero}
use Rattle.bank.specs.Acceptance.{sizes_judged, entry_of, curve_entry, expected_accepted}
use Rattle.acceptance.specs.Acceptance.{expected_to, expected_accepted as model_accepted}
use Rattle.acceptance.specs.declared.AcceptanceModel.{AcceptanceModel}
use Rattle.speculative.specs.declared.drafter.Rates.{Rates}
use Rattle.speculative.specs.declared.drafter.DrafterCost.{DrafterCost}
use Rattle.acceptance.proofs.Judged.{none_refused}
use Rattle.acceptance.proofs.Expectation.{valued}
use Rattle.chains.specs.Tests.{is_accepted}
use Rattle.chains.specs.Expected.{expected_over}
use Rattle.chains.proofs.Tested.{all_says}
use Rattle.goodput_judges.specs.Refusals.{chains_judged as judged_chains, model_values_judged, bank_values_judged, depth_judged, aggregate_judged, chains_refusal, model_values_refusal, bank_values_refusal}
use Rattle.goodput_judges.proofs.Passed.{model_passed, bank_passed}
use Rattle.goodput.specs.Depth.{depth_answer, aggregate_answer}
use Rattle.goodput.proofs.Batches.{fits}
use Rattle.goodput.proofs.Answers.{expected_length}
use Rattle.goodput_laws.proofs.Bounds.{expected_taken, chains_judged}

-- ---- at each depth the model itself answers what is multiplied by n
pub model_agrees : (model : AcceptanceModel) (positions : List Float) (gamma n room : ℕ) → model_values_refusal model positions gamma n room ≡ 0 → (g : ℕ) → g ≤ gamma
    → model_accepted model positions g ≡ Ok (expected_to model positions g)
model_agrees model positions gamma n room e g h =
    let p = model_passed model positions gamma n room (passed_is_zero (model_values_judged model positions gamma n room) e) in
    let low = p.counted.shallow in
    valued model positions g (none_refused model positions g p.judged (omega arith))

-- ---- and so does the bank
pub bank_agrees : (curve : List Float) (depth gamma n room : ℕ) → bank_values_refusal curve depth gamma n room ≡ 0 → (g : ℕ) → g ≤ gamma
    → expected_accepted curve depth g ≡ Ok (get_or curve (min g depth) nan)
unfolding expected_accepted sizes_judged curve_entry entry_of
bank_agrees curve depth gamma n room e g h =
    let p = bank_passed curve depth gamma n room (passed_is_zero (bank_values_judged curve depth gamma n room) e) in
    let low = p.counted.shallow in
    let used = take (min gamma depth + 1) curve in
    let i : min g depth < min gamma depth + 1 = omega arith in
    let there : min g depth < length curve = omega (arith, p.there) in
    let held : is_accepted (get_or curve (min g depth) nan) ≡ true =
    ap is_accepted (sym (get_or-take (min gamma depth + 1) curve (min g depth) nan i)) ∙ all_says is_accepted nan used p.in_range_lem (min g depth) (omega (arith, length-take (min gamma depth + 1) curve, p.there)) in
    rw (lt-ltb 0 depth p.low, le-leb depth 64 p.deep, le-leb g 64 (omega arith), lt-ltb (min g depth) (length curve) there, held)

-- ---- the best depth of what `expected_by_depth` writes is that of the batch, refusals included
pub two_calls : (chains : List Float) (lengths : List ℕ) (curve : List Float) (gamma room : ℕ) (kind : DrafterCost) (rates : Rates) (loaded : List Float) → chains_refusal chains lengths gamma room ≡ 0
    → depth_answer (take (gamma + 1) (expected_over gamma lengths chains)) curve gamma (length lengths) kind rates loaded ≡ aggregate_answer chains lengths curve gamma kind rates loaded
unfolding depth_answer aggregate_answer depth_judged aggregate_judged
two_calls chains lengths curve gamma room kind rates loaded e =
    let f = fits chains lengths gamma room (passed_is_zero (judged_chains chains lengths gamma room) e) in
    let low = f.0 in
    let all = expected_over gamma lengths chains in
    let es = take (gamma + 1) all in
    let long : length es ≡ gamma + 1 = length-take (gamma + 1) all ∙ omega (arith, expected_length gamma lengths chains) in
    let whole : take (gamma + 1) es ≡ es = take-take (gamma + 1) (gamma + 1) all (omega arith) in
    rw (whole, le-leb (gamma + 1) (length es) (omega arith), le-leb (length lengths * 64) (length chains) f.1.1.room, expected_taken chains lengths gamma room e, chains_judged chains lengths gamma room e)
