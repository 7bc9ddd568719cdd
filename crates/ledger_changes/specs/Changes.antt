-- The newest changes in the words: one kept, one no longer kept, and what one did taken back, on any content. They stand in a ring of slots.
-- A change is eleven words: second, drafts, sequences, committed, 1 where it is a plan; then the worker: kind, its two numbers, and the record from before:
-- width, rounds, stall. Kind is 0 for no worker, 1 where it had no record, 2 where it had that one.
use Rattle.std.specs.Prelude.{cond, List, [], ◌∷◌, ℕ, ◌+◌, ◌-◌, min, ltb, eqb, get_or, set}
use Rattle.ledger_rows.specs.Words.{stored}
use Rattle.ledger_rows.specs.declared.layout.Step.{Step}
use Rattle.ledger_rows.specs.Layout.{changes_most, available, change_at, next_slot, drafts_in, sequences_in, committed_in, planned_in, kind_in, worker_ain, worker_bin, width_in, rounds_in, stall_in}
use Rattle.ledger_seconds.specs.Seconds.{step_removed}
use Rattle.ledger_workers.specs.Workers.{worker_put, worker_dropped}

-- the words of a change
abbrev pub change_laid : Step → ℕ → ℕ → ℕ → ℕ → ℕ → ℕ → ℕ → List ℕ
change_laid p plan kind a b width rounds stall = p.second ∷ p.drafts ∷ p.sequences ∷ p.committed ∷ plan ∷ kind ∷ a ∷ b ∷ width ∷ rounds ∷ stall ∷ []

-- what a change adds that is no plan
abbrev pub no_step : Step
no_step = record { second = 0; drafts = 0; sequences = 0; committed = 0 }

-- what the change at `at` added
abbrev pub step_at : List ℕ → ℕ → Step
step_at ws at = record { second = get_or ws at 0; drafts = get_or ws (at + drafts_in) 0; sequences = get_or ws (at + sequences_in) 0; committed = get_or ws (at + committed_in) 0 }

-- the slots after and before one: the first comes after the last
unfoldable pub following : ℕ → ℕ
following slot = cond (ltb (slot + 1) changes_most) (slot + 1) 0

unfoldable pub preceding : ℕ → ℕ
preceding slot = cond (ltb 0 slot) (slot - 1) (changes_most - 1)

-- the newest change's slot, and where it starts
unfoldable pub newest_slot : List ℕ → ℕ
newest_slot ws = preceding (next_slot ws)

abbrev pub newest_at : List ℕ → ℕ
newest_at ws = change_at (newest_slot ws)

-- a change kept as the newest, in the next slot; where 64 are kept that is the oldest's
unfoldable pub pushed : List ℕ → List ℕ → List ℕ
pushed ws change = set (set (stored (change_at (next_slot ws)) change ws) 2 (min (available ws + 1) changes_most)) 3 (following (next_slot ws))

-- the newest of k changes no longer kept: its slot is free, and the next
unfoldable pub popped : List ℕ → ℕ → List ℕ
popped ws k = set (set (stored (newest_at ws) (change_laid no_step 0 0 0 0 0 0 0) ws) 2 (k - 1)) 3 (newest_slot ws)

-- the newest change's step taken back, if it has one
unfoldable pub step_back : List ℕ → List ℕ
step_back ws =
    cond (eqb (get_or ws (newest_at ws + planned_in) 0) 1)
    (step_removed ws (step_at ws (newest_at ws)))
    ws

-- the worker of the change at `at` put back to the record that it had, if it had one
unfoldable pub record_back : List ℕ → ℕ → ℕ → ℕ → List ℕ
record_back ws at a b = cond (eqb (get_or ws (at + kind_in) 0) 2) (worker_put ws a b (get_or ws (at + width_in) 0) (get_or ws (at + rounds_in) 0) (get_or ws (at + stall_in) 0)) ws

-- the newest change's worker put back to its record from before: none where it was new
unfoldable pub worker_back : List ℕ → List ℕ
worker_back ws =
    cond (eqb (get_or ws (newest_at ws + kind_in) 0) 1)
    (worker_dropped ws (get_or ws (newest_at ws + worker_ain) 0) (get_or ws (newest_at ws + worker_bin) 0))
    (record_back ws (newest_at ws) (get_or ws (newest_at ws + worker_ain) 0) (get_or ws (newest_at ws + worker_bin) 0))
