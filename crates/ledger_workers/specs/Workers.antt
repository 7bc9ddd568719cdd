-- The workers in the words: where one is, its record, and a record put and taken away, on any content.
use Rattle.std.specs.Prelude.{Bool, true, false, cond, List, [], ◌∷◌, ℕ, ◌+◌, ◌-◌, ltb, eqb, get_or, set}
use Rattle.ledger_rows.specs.Words.{stored, opened, closed, searched}
use Rattle.ledger_rows.specs.declared.layout.Place.{Place}
use Rattle.ledger_rows.specs.declared.layout.Past.{Past}
use Rattle.ledger_rows.specs.Layout.{workers_most, worker_at, workers_held}

-- workers stand by their first number, then by their second
abbrev pub worker_less : ℕ × ℕ → ℕ × ℕ → Bool
worker_less v w = cond (ltb v.0 w.0) true (cond (eqb v.0 w.0) (ltb v.1 w.1) false)

abbrev pub worker_same : ℕ × ℕ → ℕ × ℕ → Bool
worker_same v w = cond (eqb v.0 w.0) (eqb v.1 w.1) false

-- row i is of an earlier worker, and of that worker
abbrev pub earlier_worker : List ℕ → ℕ → ℕ → ℕ → Bool
earlier_worker ws a b i = worker_less (get_or ws (worker_at i) 0, get_or ws (worker_at i + 1) 0) (a, b)

abbrev pub that_worker : List ℕ → ℕ → ℕ → ℕ → Bool
that_worker ws a b i = worker_same (get_or ws (worker_at i) 0, get_or ws (worker_at i + 1) 0) (a, b)

-- the row of a worker among those held, or before which it belongs
unfoldable pub worker_row : List ℕ → ℕ → ℕ → ℕ
worker_row ws a b = searched (earlier_worker ws a b) (workers_held ws)

unfoldable pub worker_place : List ℕ → ℕ → ℕ → Place
worker_place ws a b = record {
  row = worker_row ws a b;
  rows = workers_held ws;
  known = cond (ltb (worker_row ws a b) (workers_held ws)) (that_worker ws a b (worker_row ws a b)) false;
}

-- the record in row i; a worker's record: kind 2 where it is held, kind 1 where there is none
unfoldable pub past_at : List ℕ → ℕ → Past
past_at ws i = record { kind = 2; width = get_or ws (worker_at i + 2) 0; rounds = get_or ws (worker_at i + 3) 0; stall = get_or ws (worker_at i + 4) 0 }

unfoldable pub past_of : List ℕ → ℕ → ℕ → Past
past_of ws a b = cond (worker_place ws a b).known (past_at ws (worker_place ws a b).row) (record { kind = 1; width = 0; rounds = 0; stall = 0 })

-- a record stored in row i; a new row before row i of n, unless as many are held as there may be
unfoldable pub worker_stored : List ℕ → ℕ → ℕ → ℕ → ℕ → ℕ → ℕ → List ℕ
worker_stored ws i a b width rounds stall = stored (worker_at i) (a ∷ b ∷ width ∷ rounds ∷ stall ∷ []) ws

unfoldable pub worker_inserted : List ℕ → ℕ → ℕ → ℕ → ℕ → ℕ → ℕ → ℕ → List ℕ
worker_inserted ws i n a b width rounds stall =
    cond (ltb n workers_most) (set (opened (worker_at i) (worker_at n) (a ∷ b ∷ width ∷ rounds ∷ stall ∷ []) ws) 1 (n + 1)) ws

unfoldable pub worker_put : List ℕ → ℕ → ℕ → ℕ → ℕ → ℕ → List ℕ
worker_put ws a b width rounds stall =
    cond (worker_place ws a b).known
    (worker_stored ws (worker_place ws a b).row a b width rounds stall)
    (worker_inserted ws (worker_place ws a b).row (worker_place ws a b).rows a b width rounds stall)

-- row i of n taken out
unfoldable pub worker_taken : List ℕ → ℕ → ℕ → List ℕ
worker_taken ws i n = set (closed (worker_at i) (worker_at (n - 1)) (0 ∷ 0 ∷ 0 ∷ 0 ∷ 0 ∷ []) ws) 1 (n - 1)

unfoldable pub worker_dropped : List ℕ → ℕ → ℕ → List ℕ
worker_dropped ws a b = cond (worker_place ws a b).known (worker_taken ws (worker_place ws a b).row (worker_place ws a b).rows) ws
