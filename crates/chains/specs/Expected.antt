-- The expected acceptance of a batch at each depth, from its survival chains. Assumes nothing.
use Rattle.std.specs.Prelude.{ℕ, ◌*◌, ◌≤◌, ◌<◌, min, Bool, true, ◌&&◌, List, [], ◌∷◌, ◌++◌, leb, length, get_or, take, drop, replicate, Float}
use Rattle.float.specs.Floats.{plus, f0}
use Rattle.chains.specs.Tests.{all_of, is_survival}

-- ---- the sums

-- the sums from depth 1 on, each with the running sum of the chain added
unfoldable pub add_running : Float → List Float → List Float → List Float
add_running acc [] sums = sums
add_running acc (s ∷ chain) [] = []
add_running acc (s ∷ chain) (e ∷ sums) = let a = plus acc s in plus e a ∷ add_running a chain sums

-- depth 0 gains nothing
abbrev pub with_chain : List Float → List Float → List Float
with_chain chain sums = take 1 sums ++ add_running f0 chain (drop 1 sums)

-- the chains stand one after the other, 64 slots each; each adds its running sums up to gamma or its own length, and nothing past it
unfoldable pub sums_with : ℕ → List ℕ → List Float → List Float → List Float
sums_with gamma [] slots sums = sums
sums_with gamma (l ∷ ls) slots sums = sums_with gamma ls (drop 64 slots) (with_chain (take (min gamma l) slots) sums)

-- 65 slots: the value at each depth, and 0.0 past gamma
abbrev pub expected_over : ℕ → List ℕ → List Float → List Float
expected_over gamma lengths slots = sums_with gamma lengths slots (replicate 65 f0)

-- no entry is above `most`
abbrev pub AtMost : ℕ → List ℕ → Type 0
AtMost most ws = (k : ℕ) → k < length ws → get_or ws k 0 ≤ most

-- the chains of a batch are there, and none is longer than its slots
pub record Fits (slots : List Float) (lengths : List ℕ) : Type 0 where
  pub room : length lengths * 64 ≤ length slots
  pub few : length lengths ≤ 1024
  pub narrow : AtMost 64 lengths

-- ---- what is judged

-- each chain has at most 64 slots, and of these the first gamma hold survivals
unfoldable pub are_chains : ℕ → List ℕ → List Float → Bool
are_chains gamma [] slots = true
are_chains gamma (l ∷ ls) slots = (leb l 64 && all_of is_survival (take (min gamma l) slots)) && are_chains gamma ls (drop 64 slots)
