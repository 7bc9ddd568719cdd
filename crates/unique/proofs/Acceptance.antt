-- The contracts of `acceptance` leave one outcome each. Assumes nothing.
use mathlib.Core.List.{List}
use mathlib.Core.Path.{◌≡◌}
use Prim.Native.Nat.{ℕ}
use lib.Ieee.{Float}
use Rattle.std.specs.Prelude.{Result}
use Rattle.refusals.specs.declared.Refusal.{Refusal}
use Rattle.refusals.specs.Refusals.{Judgement}
use Rattle.acceptance.specs.Acceptance.{a_d, expected_accepted, model_judged, sample_accepted}
use Rattle.acceptance.specs.declared.AcceptanceModel.{AcceptanceModel}
use Rattle.acceptance.specs.declared.Sample.{Sample}
use Rattle.unique.specs.Only.{OnlyOne}
use Rattle.unique.proofs.Law.{once}

pub a_d_once : (model : AcceptanceModel) (positions : List Float) (d : ℕ) → OnlyOne (λ (r : Float). r ≡ a_d model positions d)
a_d_once model positions d x y p q = once p q

pub judge_model_once : (model : AcceptanceModel) (positions : List Float) → OnlyOne (λ (r : Judgement). r ≡ model_judged model positions)
judge_model_once model positions x y p q = once p q

pub expected_accepted_once : (model : AcceptanceModel) (positions : List Float) (gamma : ℕ) → OnlyOne (λ (r : Result Float Refusal). r ≡ expected_accepted model positions gamma)
expected_accepted_once model positions gamma x y p q = once p q

pub sample_accepted_once : (model : AcceptanceModel) (positions : List Float) (gamma : ℕ) (draws : List Float) → OnlyOne (λ (r : Result Sample Refusal). r ≡ sample_accepted model positions gamma draws)
sample_accepted_once model positions gamma draws x y p q = once p q
