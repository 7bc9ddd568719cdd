-- What the clock lines of a day add to the times of its plans, as words, on any content: the seconds for all workers by their bits, how many workers
-- have their own, and of each its two numbers and its seconds by their bits.
use Rattle.std.specs.Prelude.{ℕ, zero, suc, ◌+◌, ◌*◌, min, Bool, false, cond, List, [], ◌∷◌, ltb, eqb, Float, Ok, Err, length, get_or, set}
use Rattle.std.specs.Float.{binary64}
use Rattle.std.specs.Float.Ieee.{of_bits, to_bits}
use Rattle.refusals.specs.Refusals.{Judgement}
use Rattle.refusals.specs.declared.Refusal.TheVariants.{ShortBuffer, WorkerRoom}
use Rattle.ledger_rows.specs.Words.{stored}

abbrev pub words : ℕ
words = 770

-- how many workers may have their own, and how many do, whatever the word says
abbrev pub most : ℕ
most = 256

abbrev pub held : List ℕ → ℕ
held ws = min (get_or ws 1 0) most

-- where a worker's row lies, and whether it is that worker's
abbrev pub row_at : ℕ → ℕ
row_at row = 2 + 3 * row

abbrev pub is_of : List ℕ → ℕ → ℕ → ℕ → Bool
is_of ws a b row = cond (eqb (get_or ws (row_at row) 0) a) (eqb (get_or ws (row_at row + 1) 0) b) false

-- the first of so many rows from one on that is that worker's: the one behind them where none is
unfoldable pub row_from : List ℕ → ℕ → ℕ → ℕ → ℕ → ℕ
row_from ws a b zero row = row
row_from ws a b (suc more) row = cond (is_of ws a b row) row (row_from ws a b more (row + 1))

abbrev pub row_of : List ℕ → ℕ → ℕ → ℕ
row_of ws a b = row_from ws a b (held ws) 0

-- ---- what is added to a worker's times: its own seconds, or those for all; 0 where the words are too few

unfoldable pub shift_bits : List ℕ → ℕ → ℕ → ℕ
shift_bits ws a b = cond (ltb (row_of ws a b) (held ws)) (get_or ws (row_at (row_of ws a b) + 2) 0) (get_or ws 0 0)

unfoldable pub shift_of : List ℕ → ℕ → ℕ → Float
shift_of ws a b = of_bits binary64 (cond (ltb (length ws) words) 0 (shift_bits ws a b))

-- ---- a clock line for all workers: what workers had of their own is gone

unfoldable pub for_all : List ℕ → Float → List ℕ
for_all ws seconds = cond (ltb (length ws) words) ws (set (set ws 0 (to_bits binary64 seconds)) 1 0)

-- ---- a clock line for one: its row is set anew, or is added behind the others

unfoldable pub added : List ℕ → ℕ → ℕ → ℕ → ℕ → List ℕ
added ws rows a b bits = set (stored (row_at rows) (a ∷ b ∷ bits ∷ []) ws) 1 (rows + 1)

-- in enough words, where `row` is the worker's row among so many
unfoldable pub for_one_at : List ℕ → ℕ → ℕ → Float → ℕ → ℕ → Judgement × List ℕ
for_one_at ws a b seconds row rows =
    cond (ltb row rows) (Ok tt, set ws (row_at row + 2) (to_bits binary64 seconds))
    (cond (ltb rows most) (Ok tt, added ws rows a b (to_bits binary64 seconds)) (Err WorkerRoom, ws))

unfoldable pub for_one : List ℕ → ℕ → ℕ → Float → Judgement × List ℕ
for_one ws a b seconds = cond (ltb (length ws) words) (Err ShortBuffer, ws) (for_one_at ws a b seconds (row_of ws a b) (held ws))
