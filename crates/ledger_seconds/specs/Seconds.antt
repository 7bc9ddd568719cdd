-- The seconds in the words: where one is, and a step added and taken away, on any content.
use Rattle.std.specs.Prelude.{Bool, false, cond, List, [], ◌∷◌, ℕ, ◌+◌, ◌-◌, ltb, eqb, get_or, set}
use Rattle.ledger_rows.specs.Words.{stored, opened, closed, last_first}
use Rattle.ledger_rows.specs.declared.layout.Place.{Place}
use Rattle.ledger_rows.specs.declared.layout.Step.{Step}
use Rattle.ledger_rows.specs.Layout.{seconds_most, second_at, seconds_held, drafts_in, sequences_in, committed_in, steps_in, plus}

-- row i is of an earlier second, and of that second
abbrev pub earlier_second : List ℕ → ℕ → ℕ → Bool
earlier_second ws t i = ltb (get_or ws (second_at i) 0) t

abbrev pub that_second : List ℕ → ℕ → ℕ → Bool
that_second ws t i = eqb (get_or ws (second_at i) 0) t

-- the row of a second among those held, or before which it belongs
unfoldable pub second_row : List ℕ → ℕ → ℕ
second_row ws t = last_first (earlier_second ws t) (that_second ws t) (seconds_held ws)

unfoldable pub second_place : List ℕ → ℕ → Place
second_place ws t = record {
  row = second_row ws t;
  rows = seconds_held ws;
  known = cond (ltb (second_row ws t) (seconds_held ws)) (that_second ws t (second_row ws t)) false;
}

-- row i, of the step's second, with that step more; a new row before row i of n, unless as many are held as there may be
unfoldable pub second_raised : List ℕ → ℕ → Step → List ℕ
second_raised ws i p =
    stored (second_at i)
    (p.second ∷ plus (get_or ws (second_at i + drafts_in) 0) p.drafts ∷ plus (get_or ws (second_at i + sequences_in) 0) p.sequences ∷ plus (get_or ws (second_at i + committed_in) 0) p.committed ∷ plus (get_or ws (second_at i + steps_in) 0) 1 ∷ [])
    ws

unfoldable pub second_inserted : List ℕ → ℕ → ℕ → Step → List ℕ
second_inserted ws i n p =
    cond (ltb n seconds_most) (set (opened (second_at i) (second_at n) (p.second ∷ p.drafts ∷ p.sequences ∷ p.committed ∷ 1 ∷ []) ws) 0 (n + 1)) ws

unfoldable pub step_added : List ℕ → Step → List ℕ
step_added ws p =
    cond (second_place ws p.second).known (second_raised ws (second_place ws p.second).row p) (second_inserted ws (second_place ws p.second).row (second_place ws p.second).rows p)

-- row i of n, of the step's second, with that step less, and gone with its last
unfoldable pub second_lowered : List ℕ → ℕ → ℕ → Step → List ℕ
second_lowered ws i n p =
    cond (ltb 1 (get_or ws (second_at i + steps_in) 0))
    (stored (second_at i)
    (p.second ∷ (get_or ws (second_at i + drafts_in) 0 - p.drafts) ∷ (get_or ws (second_at i + sequences_in) 0 - p.sequences) ∷ (get_or ws (second_at i + committed_in) 0 - p.committed) ∷ (get_or ws (second_at i + steps_in) 0 - 1) ∷ [])
    ws)
    (set (closed (second_at i) (second_at (n - 1)) (0 ∷ 0 ∷ 0 ∷ 0 ∷ 0 ∷ []) ws) 0 (n - 1))

unfoldable pub step_removed : List ℕ → Step → List ℕ
step_removed ws p =
    cond (second_place ws p.second).known (second_lowered ws (second_place ws p.second).row (second_place ws p.second).rows p) ws
