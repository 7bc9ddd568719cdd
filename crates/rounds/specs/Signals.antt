-- The signals of a batch's rounds, and their survival chains, 64 slots a sequence. Assumes nothing.
use Rattle.std.specs.Prelude.{ℕ, zero, suc, ◌-◌, ◌*◌, ◌≡◌, Bool, true, ◌&&◌, List, [], ◌∷◌, ◌++◌, length, get_or, take, drop, replicate, Float}
use Rattle.float.specs.Floats.{f0, is_finite}
use Rattle.acceptance.specs.Acceptance.{a_d}
use Rattle.acceptance.specs.declared.AcceptanceModel.{AcceptanceModel}
use Rattle.chains.specs.Tests.{all_of}
use Rattle.chains.specs.Survival.{survival_chain}

-- confidences in 64 slots, with 0.0 past them
abbrev pub slots : List Float → List Float
slots confidences = confidences ++ replicate (64 - length confidences) f0

-- slots that all hold 0.0
abbrev pub Zeros : List Float → Type 0
Zeros chains = (i : ℕ) → get_or chains i f0 ≡ f0

-- ---- by an acceptance model: every round has the same signal

-- the model's values at so many positions, from d on
unfoldable pub values_from : AcceptanceModel → List Float → ℕ → ℕ → List Float
values_from model positions d zero = []
values_from model positions d (suc left) = a_d model positions d ∷ values_from model positions (suc d) left

abbrev pub model_chain : AcceptanceModel → List Float → ℕ → List Float
model_chain model positions gamma = survival_chain (slots (values_from model positions 0 gamma)) gamma

unfoldable pub same_chains : List Float → ℕ → List Float
same_chains chain zero = []
same_chains chain (suc n) = chain ++ same_chains chain n

-- ---- by a bank, whose rounds have `depth` confidences each, of which the first gamma are used
module _ (signals : List Float) (depth gamma : ℕ) where
  abbrev pub confidences : ℕ → List Float
  confidences i = take gamma (drop (i * depth) signals)

  -- of every round that is drawn
  unfoldable pub are_finite : List ℕ → Bool
  are_finite [] = true
  are_finite (i ∷ indices) = all_of is_finite (confidences i) && are_finite indices

  abbrev pub round_chain : ℕ → List Float
  round_chain i = survival_chain (slots (confidences i)) gamma

  unfoldable pub round_chains : List ℕ → List Float
  round_chains [] = []
  round_chains (i ∷ indices) = round_chain i ++ round_chains indices
