-- Worked examples of the definitions, by computation. Assumes nothing.
use mathlib.Core.Path.{◌≡◌, refl}
use mathlib.Core.List.{[], ◌∷◌}
use lib.ListN.{replicate}
use lib.Ieee.{Float, nan, binary64, neg, lt, of_bits, add, mul, round}
use Rattle.float.specs.Floats.{f0, f1, is_clear}
use Rattle.float.specs.Range.{in_range}
use Rattle.acceptance.specs.declared.AcceptanceModel.TheVariants.{Constant, PerPosition, Trace}
use Rattle.std.specs.Prelude.{Ok, Err}
use Rattle.refusals.specs.declared.Refusal.TheVariants.{Size, Setting, AbsentDraw, Draw}
use Rattle.acceptance.specs.Acceptance.{model_judged, model_refusal, acceptance_judged, product_to, expected_to, expected_accepted, accepted, is_draw, sampled, sample_accepted}

abbrev quarter : Float
quarter = of_bits binary64 0x3fd0_0000_0000_0000

abbrev half : Float
half = of_bits binary64 0x3fe0_0000_0000_0000

-- alpha 0.5, gamma 3, draws 0.25 and 0.5: the first is below, and the second is not
pub half_of_three : sample_accepted (Constant half) [] 3 (quarter ∷ half ∷ []) ≡ Ok (accepted 1 2)
unfolding sample_accepted acceptance_judged model_judged in_range is_clear lt of_bits is_draw sampled
half_of_three = refl

-- no draw is used where gamma is 0, and none behind the last that is used is looked at
no_drafts : sample_accepted (Constant half) [] 0 (nan ∷ []) ≡ Ok (accepted 0 0)
unfolding sample_accepted acceptance_judged model_judged in_range is_clear lt of_bits is_draw sampled
no_drafts = refl

later_draws : sample_accepted (Constant half) [] 3 (half ∷ nan ∷ []) ≡ Ok (accepted 0 1)
unfolding sample_accepted acceptance_judged model_judged in_range is_clear lt of_bits is_draw sampled
later_draws = refl

-- past the list, and under the trace model, no draw is below
past_the_list : sample_accepted PerPosition (half ∷ []) 3 (quarter ∷ f0 ∷ []) ≡ Ok (accepted 1 2)
unfolding sample_accepted acceptance_judged model_judged in_range is_clear lt of_bits is_draw sampled
past_the_list = refl

trace : sample_accepted Trace [] 3 (f0 ∷ []) ≡ Ok (accepted 0 1)
unfolding sample_accepted acceptance_judged model_judged in_range is_clear lt of_bits is_draw sampled
trace = refl

-- a needed draw that is absent; 1, minus zero and NaN are no draws
absent : sample_accepted (Constant half) [] 3 (quarter ∷ []) ≡ Err AbsentDraw
unfolding sample_accepted acceptance_judged model_judged in_range is_clear lt of_bits is_draw sampled
absent = refl

no_draws : (sample_accepted (Constant half) [] 3 (f1 ∷ []) ≡ Err Draw) × (sample_accepted (Constant half) [] 3 (neg f0 ∷ []) ≡ Err Draw) × (sample_accepted (Constant half) [] 3 (nan ∷ []) ≡ Err Draw)
unfolding sample_accepted acceptance_judged model_judged in_range is_clear lt neg of_bits is_draw sampled
no_draws = (refl, refl, refl)

-- the settings go before gamma, and both before a draw; a position is judged under every model
settings : (sample_accepted (Constant (neg f0)) [] 65 [] ≡ Err Setting) × (sample_accepted (Constant half) (nan ∷ []) 3 [] ≡ Err Setting) × (sample_accepted Trace [] 65 [] ≡ Err Size)
unfolding sample_accepted acceptance_judged model_judged in_range is_clear lt neg of_bits is_draw sampled
settings = (refl, refl, refl)

sizes : (model_refusal PerPosition (replicate 64 f1) ≡ 0) × (model_refusal PerPosition (replicate 65 f1) ≡ 12)
unfolding model_judged in_range is_clear lt of_bits
sizes = (refl, refl)

-- 0.5 + 0.25 + 0.125
seven_eighths : expected_accepted (Constant half) [] 3 ≡ Ok (of_bits binary64 0x3fec_0000_0000_0000)
unfolding expected_accepted expected_to product_to acceptance_judged model_judged in_range is_clear lt of_bits add mul round
seven_eighths = refl

too_deep : expected_accepted (Constant half) [] 65 ≡ Err Size
unfolding expected_accepted acceptance_judged model_judged in_range is_clear lt of_bits
too_deep = refl
