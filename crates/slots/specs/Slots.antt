-- The slots of the sequences' chains, which lie in one list, 64 a sequence, and the order in which a gate weighs them. Assumes nothing.
use Rattle.std.specs.Prelude.{ℕ, zero, suc, ◌+◌, ◌-◌, ◌*◌, ◌≤◌, ◌<◌, min, ◌≡◌, List, [], ◌∷◌, map, length, get_or, take, drop, Float}
use Rattle.std.specs.Float.{nan, binary64}
use Rattle.std.specs.Float.Ieee.{to_bits}
use Rattle.heap.specs.Greedy.{Stacks}

-- survivals are ordered by their bits, so minus zero comes above all of 0..1
abbrev pub bits : Float → ℕ
bits s = to_bits binary64 s

-- the rank where the smallest bits are to win
abbrev pub flipped : ℕ → ℕ
flipped b = 18446744073709551615 - b

-- how deep each sequence may be weighed: the batch's depth, capped by its chain's length
abbrev pub starts : ℕ → List ℕ → List ℕ
starts depth lengths = map (min depth) lengths

-- a chain's first w slots, the shallowest first, the largest bits before the smaller
unfoldable pub up_to : ℕ → List Float → List ℕ
up_to w chain = map bits (take w chain)

-- the same slots, the deepest first, the smallest bits before the larger
unfoldable pub down_from : ℕ → List Float → List ℕ
down_from zero chain = []
down_from (suc w) chain = flipped (bits (get_or chain w nan)) ∷ down_from w chain

-- a stack for each sequence
unfoldable pub stacks : (ℕ → List Float → List ℕ) → List ℕ → List Float → Stacks
stacks slots [] c = []
stacks slots (w ∷ ws) c = slots w c ∷ stacks slots ws (drop 64 c)

-- the slots of all sequences together
abbrev pub sum : List ℕ → ℕ
sum [] = 0
sum (w ∷ ws) = w + sum ws

-- the survival of slot d of sequence k
abbrev pub survival : List Float → ℕ → ℕ → Float
survival c k d = get_or c (k * 64 + d) nan

-- no entry is above `most`
abbrev pub AtMost : ℕ → List ℕ → Type 0
AtMost most ws = (k : ℕ) → k < length ws → get_or ws k 0 ≤ most

-- the chains of n sequences are there, and their lengths
pub record Fits (c : List Float) (lengths : List ℕ) (n : ℕ) : Type 0 where
  pub room : n * 64 ≤ length c
  pub count : length lengths ≡ n
  pub few : n ≤ 1024
  pub narrow : AtMost 64 lengths
