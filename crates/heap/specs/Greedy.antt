-- A greedy gate, over any verdict. Each sequence has a stack of slots, in the order in which they would be weighed, each by its rank. The next slot
-- weighed is the best of the stacks' heads (`next`). What the verdict takes leaves its stack; what it leaves closes the stack; or it stops the gate.
-- Assumes nothing.
use Rattle.std.specs.Prelude.{ℕ, zero, suc, ◌+◌, List, [], ◌∷◌, map, get_or, set, length}
use Rattle.std.proofs.Math.Option.{Option, none, some}
use Rattle.heap.specs.Frontier.{Frontier, Choice, nobody, chosen, next}

abbrev pub Stacks : Type 0
Stacks = List (List ℕ)

abbrev pub head_of : List ℕ → Option ℕ
head_of [] = none
head_of (r ∷ rs) = some r

abbrev pub tail_of : List ℕ → List ℕ
tail_of [] = []
tail_of (r ∷ rs) = rs

abbrev pub frontier : Stacks → Frontier
frontier s = map head_of s

-- the slots of all stacks
abbrev pub total : Stacks → ℕ
total [] = 0
total (x ∷ s) = length x + total s

pub data Verdict (A : Type 0) : Type 0 where
  takes : A → Verdict A
  leaves : A → Verdict A
  stops : A → Verdict A

pub record Outcome (A : Type 0) : Type 0 where
  pub state : A
  pub weighed : ℕ

module _ {A : Type 0} where
  abbrev pub afterwards : (A → Stacks → ℕ → Outcome A) → Stacks → ℕ → ℕ → Verdict A → Outcome A
  afterwards go s w k (takes a) = go a (set s k (tail_of (get_or s k []))) (w + 1)
  afterwards go s w k (leaves a) = go a (set s k []) (w + 1)
  afterwards go s w k (stops a) = record { state = a; weighed = w + 1 }

  abbrev pub upon : (A → ℕ → ℕ → Verdict A) → (A → Stacks → ℕ → Outcome A) → A → Stacks → ℕ → Choice → Outcome A
  upon weigh go a s w nobody = record { state = a; weighed = w }
  upon weigh go a s w (chosen k r) = afterwards go s w k (weigh a k r)

  -- from the state a and the stacks s, with w slots weighed so far; one unit of fuel a slot
  unfoldable pub run : (A → ℕ → ℕ → Verdict A) → ℕ → A → Stacks → ℕ → Outcome A
  run weigh zero a s w = record { state = a; weighed = w }
  run weigh (suc fuel) a s w = upon weigh (run weigh fuel) a s w (next (frontier s))

  -- every slot is weighed once at most, so the slots are fuel enough
  unfoldable pub greedy : (A → ℕ → ℕ → Verdict A) → A → Stacks → Outcome A
  greedy weigh a s = run weigh (total s) a s 0
