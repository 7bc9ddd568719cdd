-- The clock of a day: its words, on any content. Word 0 is how many earlier marks are kept, word 1 the newest mark, and behind it stand the earlier
-- ones, the newest first. A mark is the second of a plan that stands, and one; 0 where there is none.
use Rattle.std.specs.Prelude.{ℕ, ◌+◌, ◌-◌, ◌^◌, min, cond, List, ◌∷◌, ◌++◌, ltb, length, get_or, drop}
use Rattle.std.proofs.Math.Seq.{slice}

abbrev pub words : ℕ
words = 66

-- how many earlier marks are kept: one for each change that can be withdrawn, whatever the word says
abbrev pub kept_by : ℕ → ℕ
kept_by word = min word 64

-- the mark of a second: the largest second has no number above it, and is kept as the one before it is
abbrev pub mark_of : ℕ → ℕ
mark_of second = min (second + 1) (2 ^ 64 - 1)

-- by how many seconds one lies before that of a mark: 0 where it does not, and where there is no plan
abbrev pub back_by : ℕ → ℕ → ℕ
back_by mark second = mark - 1 - second

-- a mark before the others: they move behind it, and the last of 64 is lost
unfoldable pub pushed : ℕ → List ℕ → List ℕ
pushed mark ws = kept_by (kept_by (get_or ws 0 0) + 1) ∷ mark ∷ (slice 1 65 ws ++ drop 66 ws)

-- the newest mark gone, if one before it is kept: the others move up, and 0 stands behind them
unfoldable pub popped : List ℕ → List ℕ
popped ws = cond (ltb 0 (kept_by (get_or ws 0 0))) ((kept_by (get_or ws 0 0) - 1) ∷ (slice 2 66 ws ++ (0 ∷ drop 66 ws))) ws

-- ---- the calls: too few words stay as they are

unfoldable pub passed_of : List ℕ → ℕ → ℕ × List ℕ
passed_of ws second = cond (ltb (length ws) words) (0, ws) (back_by (get_or ws 1 0) second, pushed (mark_of second) ws)

unfoldable pub changed_of : List ℕ → List ℕ
changed_of ws = cond (ltb (length ws) words) ws (pushed (get_or ws 1 0) ws)

unfoldable pub taken_back_of : List ℕ → List ℕ
taken_back_of ws = cond (ltb (length ws) words) ws (popped ws)
