-- The marks of the plans that stand, as words, on any content. Word 0 of a clock is how many plans stand, word 1 which of the newest changes are
-- plans; then comes a ring of marks, 12 words each.
use Rattle.std.specs.Prelude.{ℕ, zero, suc, ◌+◌, ◌-◌, ◌*◌, ◌/◌, ◌%◌, ◌≤◌, ◌<◌, Bool, true, false, cond, List, ltb, eqb, length, get_or}

-- the words before the marks, and those of a mark
abbrev pub head : ℕ
head = 2

abbrev pub wide : ℕ
wide = 12

-- how many changes can be withdrawn
abbrev pub withdrawn : ℕ
withdrawn = 64

-- how many marks fit into so many words
abbrev pub ring_of : ℕ → ℕ
ring_of long = (long - head) / wide

-- a ring that has its words
pub record Ring (ring : ℕ) (ws : List ℕ) : Type 0 where
  pub some : 0 < ring
  pub fits : head + wide * ring ≤ length ws

-- the mark of a plan lies in the place of the plan's number, modulo how many fit
abbrev pub place_of : ℕ → ℕ → ℕ
place_of ring plan = head + wide * (plan % ring)

abbrev pub word_at : List ℕ → ℕ → ℕ → ℕ → ℕ
word_at ws ring plan column = get_or ws (place_of ring plan + column) 0

-- the columns of a mark: the worker's two numbers, the second
abbrev pub a_at : List ℕ → ℕ → ℕ → ℕ
a_at ws ring plan = word_at ws ring plan 0

abbrev pub b_at : List ℕ → ℕ → ℕ → ℕ
b_at ws ring plan = word_at ws ring plan 1

abbrev pub second_at : List ℕ → ℕ → ℕ → ℕ
second_at ws ring plan = word_at ws ring plan 2

-- the worker's plan before it
abbrev pub previous_at : List ℕ → ℕ → ℕ → ℕ
previous_at ws ring plan = word_at ws ring plan 6

-- a plan is that worker's
abbrev pub is_of : List ℕ → ℕ → ℕ → ℕ → ℕ → Bool
is_of ws ring a b plan = cond (eqb (a_at ws ring plan) a) (eqb (b_at ws ring plan) b) false

-- the mark of a plan lies in the ring: it is one of those that stand, and not older than the newest that the ring keeps
abbrev pub is_known : ℕ → ℕ → ℕ → Bool
is_known ring plans plan = cond (eqb plan 0) false (cond (ltb plans plan) false (ltb (plans - plan) (ring - withdrawn)))

-- the number of a worker's newest plan among so many, from a plan down: 0 where none is that worker's
unfoldable pub newest_of : List ℕ → ℕ → ℕ → ℕ → ℕ → ℕ → ℕ
newest_of ws ring a b zero plan = 0
newest_of ws ring a b (suc among) plan = cond (is_of ws ring a b plan) plan (newest_of ws ring a b among (plan - 1))

-- one of a worker's plans is of that second: from a plan on, each time the one before it, as far as they are known
unfoldable pub holds_from : List ℕ → ℕ → ℕ → ℕ → ℕ → ℕ → Bool
holds_from ws ring plans second zero plan = false
holds_from ws ring plans second (suc most) plan =
    cond (is_known ring plans plan) (cond (eqb (second_at ws ring plan) second) true (holds_from ws ring plans second most (previous_at ws ring plan))) false

-- 1 where a plan's second is that one or a later one
abbrev pub reaches : ℕ → ℕ → ℕ
reaches second its = cond (ltb its second) 0 1

-- how many of a worker's plans are of that second or a later one, by the same walk
unfoldable pub standing_from : List ℕ → ℕ → ℕ → ℕ → ℕ → ℕ → ℕ
standing_from ws ring plans second zero plan = 0
standing_from ws ring plans second (suc most) plan =
    cond (is_known ring plans plan) (reaches second (second_at ws ring plan) + standing_from ws ring plans second most (previous_at ws ring plan)) 0
