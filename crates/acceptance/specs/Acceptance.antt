-- How the target accepts a draft: the value of each position, what is refused, the expected number of accepted drafts, and what draws accept.
-- Assumes nothing.
use Rattle.std.specs.Prelude.{ℕ, zero, suc, Bool, true, false, ◌&&◌, cond, List, [], ◌∷◌, leb, ltb, length, get_or, drop, Float, Result, Ok, Err}
use Rattle.std.specs.Float.{nan}
use Rattle.std.specs.Float.Ieee.{lt}
use Rattle.float.specs.Floats.{plus, times, f0, f1, is_clear}
use Rattle.float.specs.Range.{in_range}
use Rattle.refusals.specs.declared.Refusal.{Refusal}
use Rattle.refusals.specs.declared.Refusal.TheVariants.{Size, Setting, AbsentDraw, Draw}
use Rattle.refusals.specs.Refusals.{Judgement, passed_if, and_then, number_in}
use Rattle.acceptance.specs.declared.AcceptanceModel.{AcceptanceModel}
use Rattle.acceptance.specs.declared.AcceptanceModel.TheVariants.{Constant, PerPosition, Trace}
use Rattle.acceptance.specs.declared.Sample.{Sample}

-- ---- sizes
abbrev pub most_positions : ℕ
most_positions = 64

abbrev pub most_gamma : ℕ
most_gamma = 64

-- ---- the value of position d: alpha; the list's entry, or 0.0 past the list. Under the trace model it is 0.0, so that every expected number is 0.0 too:
-- what its rounds bring is not asked here
abbrev pub a_d : AcceptanceModel → List Float → ℕ → Float
a_d (Constant alpha) positions d = alpha
a_d PerPosition positions d = cond (ltb d (length positions)) (get_or positions d nan) f0
a_d Trace positions d = f0

-- ---- what is refused before anything else

-- in the range 0 to 1: no NaN, the sign bit clear
abbrev pub is_chance : Float → Bool
is_chance x = in_range f0 f1 x

abbrev pub all_chances : List Float → Bool
all_chances [] = true
all_chances (x ∷ xs) = is_chance x && all_chances xs

-- what the model itself carries
abbrev pub carries_chance : AcceptanceModel → Bool
carries_chance (Constant alpha) = is_chance alpha
carries_chance PerPosition = true
carries_chance Trace = true

-- a model with the positions beside it, whether it uses them or not
abbrev pub is_model : AcceptanceModel → List Float → Bool
is_model model positions = leb (length positions) most_positions && (all_chances positions && carries_chance model)

unfoldable pub model_judged : AcceptanceModel → List Float → Judgement
model_judged model positions = passed_if (is_model model positions) Setting

-- its number, 0 where it passes
abbrev pub model_refusal : AcceptanceModel → List Float → ℕ
model_refusal model positions = number_in (model_judged model positions)

abbrev pub gamma_judged : ℕ → Judgement
gamma_judged gamma = passed_if (leb gamma most_gamma) Size

-- the settings go before gamma
unfoldable pub acceptance_judged : AcceptanceModel → List Float → ℕ → Judgement
acceptance_judged model positions gamma = and_then (model_judged model positions) (gamma_judged gamma)

-- ---- the expected number of accepted drafts
module _ (model : AcceptanceModel) (positions : List Float) where
  -- the product of the first d values, from 1.0 on
  unfoldable pub product_to : ℕ → Float
  product_to zero = f1
  product_to (suc d) = times (product_to d) (a_d model positions d)

  -- the sum of the first d of these products, from 0.0 on
  unfoldable pub expected_to : ℕ → Float
  expected_to zero = f0
  expected_to (suc d) = plus (expected_to d) (product_to (suc d))

unfoldable pub expected_accepted : AcceptanceModel → List Float → ℕ → Result Float Refusal
expected_accepted model positions gamma = and_then (acceptance_judged model positions gamma) (Ok (expected_to model positions gamma))

-- ---- what draws accept

abbrev pub accepted : ℕ → ℕ → Sample
accepted commits used = record { commits = commits; used = used }

-- at least 0 and below 1: no NaN, and minus zero is out
unfoldable pub is_draw : Float → Bool
is_draw x = is_clear x && lt x f1

-- a draw that was below: one more commit and one more draw used
abbrev pub and_one : Result Sample Refusal → Result Sample Refusal
and_one (Ok sample) = Ok (accepted (suc sample.commits) (suc sample.used))
and_one (Err refusal) = Err refusal

-- a draw is consumed. Whether it is one, whether it is below its position's value, and what the later draws bring: a draw that is none is refused 14,
-- one that is not below is used and ends it, and after one that is below the later ones are consumed
abbrev pub consume : Bool → Bool → Result Sample Refusal → Result Sample Refusal
consume false below later = Err Draw
consume true false later = Ok (accepted 0 1)
consume true true later = and_one later

-- from position d on, with so many drafts left: nothing more is looked at where none is left, and a draw that is needed and absent is refused 13
unfoldable pub sampled : AcceptanceModel → List Float → ℕ → ℕ → List Float → Result Sample Refusal
sampled model positions d zero draws = Ok (accepted 0 0)
sampled model positions d (suc left) [] = Err AbsentDraw
sampled model positions d (suc left) (x ∷ draws) = consume (is_draw x) (lt x (a_d model positions d)) (sampled model positions (suc d) left draws)

-- one sequence, from a draw on
abbrev pub sample_from : AcceptanceModel → List Float → ℕ → List Float → ℕ → Result Sample Refusal
sample_from model positions gamma draws from = sampled model positions 0 gamma (drop from draws)

unfoldable pub sample_accepted : AcceptanceModel → List Float → ℕ → List Float → Result Sample Refusal
sample_accepted model positions gamma draws = and_then (acceptance_judged model positions gamma) (sample_from model positions gamma draws 0)

-- ---- the numbers of a sample; 0 where it is refused
abbrev pub commits_of : Result Sample Refusal → ℕ
commits_of (Ok sample) = sample.commits
commits_of (Err refusal) = 0

abbrev pub used_of : Result Sample Refusal → ℕ
used_of (Ok sample) = sample.used
used_of (Err refusal) = 0
