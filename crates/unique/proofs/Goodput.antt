-- The contracts of `goodput` leave one outcome each. Assumes nothing.
use mathlib.Core.List.{List}
use mathlib.Core.Path.{◌≡◌}
use Prim.Native.Nat.{ℕ}
use lib.Ieee.{Float}
use Rattle.std.specs.Prelude.{Result}
use Rattle.refusals.specs.declared.Refusal.{Refusal}
use Rattle.refusals.specs.Refusals.{Judgement}
use Rattle.acceptance.specs.declared.AcceptanceModel.{AcceptanceModel}
use Rattle.goodput.specs.Curve.{in_force}
use Rattle.goodput.specs.Depth.{aggregate_answer, depth_answer}
use Rattle.goodput.specs.Expected.{Left, bank_expected, expected_by_depth, model_expected}
use Rattle.goodput.specs.Pricing.{cost_of}
use Rattle.goodput.specs.Survival.{survival_of}
use Rattle.goodput.specs.declared.curve.Source.{Source}
use Rattle.goodput.specs.declared.survival.Survival.{Survival}
use Rattle.speculative.specs.declared.drafter.DrafterCost.{DrafterCost}
use Rattle.speculative.specs.declared.drafter.Rates.{Rates}
use Rattle.unique.specs.Only.{OnlyOne, OnlyTwo}
use Rattle.unique.proofs.Law.{once, two_once}

pub survival_survival_chain_once : (signal : List Float) (length : ℕ) → OnlyOne (λ (r : Survival). r ≡ survival_of signal length)
survival_survival_chain_once signal length x y p q = once p q

pub curve_curve_once : (roofline measured : List Float) (source : Source) (gamma : ℕ) → OnlyOne (λ (r : List Float). r ≡ in_force roofline measured source gamma)
curve_curve_once roofline measured source gamma x y p q = once p q

pub expected_expected_by_depth_once : (chains : List Float) (lengths : List ℕ) (gamma : ℕ) (out : List Float) → OnlyTwo (λ (r : Judgement) (out' : List Float). record { answer = r; out = out' } ≡ expected_by_depth chains lengths gamma out)
expected_expected_by_depth_once chains lengths gamma out x b y c p q = two_once (λ (o : Left). o.answer) (λ (o : Left). o.out) p q

pub expected_model_expected_once : (model : AcceptanceModel) (positions : List Float) (gamma n : ℕ) (out : List Float) → OnlyTwo (λ (r : Judgement) (out' : List Float). record { answer = r; out = out' } ≡ model_expected model positions gamma n out)
expected_model_expected_once model positions gamma n out x b y c p q = two_once (λ (o : Left). o.answer) (λ (o : Left). o.out) p q

pub expected_bank_expected_once : (curve : List Float) (depth gamma n : ℕ) (out : List Float) → OnlyTwo (λ (r : Judgement) (out' : List Float). record { answer = r; out = out' } ≡ bank_expected curve depth gamma n out)
expected_bank_expected_once curve depth gamma n out x b y c p q = two_once (λ (o : Left). o.answer) (λ (o : Left). o.out) p q

pub pricing_total_cost_once : (drafter : DrafterCost) (g n : ℕ) (rates : Rates) (verify : Float) (loaded : List Float) → OnlyOne (λ (r : Result Float Refusal). r ≡ cost_of drafter g n rates verify loaded)
pricing_total_cost_once drafter g n rates verify loaded x y p q = once p q

pub depth_best_depth_once : (expected curve : List Float) (gamma n : ℕ) (drafter : DrafterCost) (rates : Rates) (loaded : List Float) → OnlyOne (λ (r : Result ℕ Refusal). r ≡ depth_answer expected curve gamma n drafter rates loaded)
depth_best_depth_once expected curve gamma n drafter rates loaded x y p q = once p q

pub depth_aggregate_depth_once : (chains : List Float) (lengths : List ℕ) (curve : List Float) (gamma : ℕ) (drafter : DrafterCost) (rates : Rates) (loaded : List Float) → OnlyOne (λ (r : Result ℕ Refusal). r ≡ aggregate_answer chains lengths curve gamma drafter rates loaded)
depth_aggregate_depth_once chains lengths curve gamma drafter rates loaded x y p q = once p q
