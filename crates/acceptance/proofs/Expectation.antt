-- Laws of the expected number of accepted drafts: one draft more, and no drafts. Assumes nothing.
use mathlib.Core.Path.{◌≡◌, refl}
use mathlib.Core.List.{List}
use Prim.Native.Nat.{ℕ, ◌+◌, zero-le}
use native.Mathlib.Numerals.{add-one}
use lib.Ieee.{Float}
use Rattle.float.specs.Floats.{plus, times, f0, f1}
use Rattle.acceptance.specs.declared.AcceptanceModel.{AcceptanceModel}
use Rattle.std.specs.Prelude.{Ok, Err}
use Rattle.refusals.specs.Refusals.{Judgement, and_then, number_in}
use Rattle.acceptance.specs.Acceptance.{a_d, model_judged, acceptance_judged, product_to, expected_to, expected_accepted}
use Rattle.acceptance.proofs.Judged.{none_refused}

module _ (model : AcceptanceModel) (positions : List Float) where
  -- ---- the sum, a draft at a time
  pub sum_starts : (f1 ≡ product_to model positions 0) × (f0 ≡ expected_to model positions 0)
  unfolding product_to expected_to
  sum_starts = (refl, refl)

  pub sum_next : (d : ℕ) (p e a : Float) → p ≡ product_to model positions d → e ≡ expected_to model positions d → a ≡ a_d model positions d
      → (times p a ≡ product_to model positions (d + 1)) × (plus e (times p a) ≡ expected_to model positions (d + 1))
  unfolding product_to expected_to
  sum_next d p e a u v w = rw (add-one d) (rw (u, w), rw (u, v, w))

  -- ---- the answer
  pub valued : (gamma : ℕ) → acceptance_judged model positions gamma ≡ Ok tt → expected_accepted model positions gamma ≡ Ok (expected_to model positions gamma)
  unfolding expected_accepted
  valued gamma e = rw e

  -- what it is refused for is what the settings and gamma are
  pub refusal_is : (gamma : ℕ) → number_in (expected_accepted model positions gamma) ≡ number_in (acceptance_judged model positions gamma)
  unfolding expected_accepted
  refusal_is gamma = go (acceptance_judged model positions gamma)
    where
      go : (judgement : Judgement) → number_in (and_then judgement (Ok (expected_to model positions gamma))) ≡ number_in judgement
      go (Ok tt) = refl
      go (Err refusal) = refl

  -- of no drafts it is 0.0
  pub expected_none : model_judged model positions ≡ Ok tt → expected_accepted model positions 0 ≡ Ok f0
  unfolding expected_to
  expected_none e = valued 0 (none_refused model positions 0 e zero-le)
