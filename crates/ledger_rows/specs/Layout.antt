-- How the words of the storage lie: three counts (seconds, workers, changes), the slot of the next change, the newest changes, the workers, the seconds.
use Rattle.std.specs.Prelude.{ℕ, ◌+◌, ◌-◌, ◌^◌, min, List, get_or}
use Rattle.ledger_rows.specs.Table.{row_at}

-- how many there are at most: seconds held, workers held, changes that can be withdrawn, steps in a second
abbrev pub seconds_most : ℕ
seconds_most = 4096

abbrev pub workers_most : ℕ
workers_most = 256

abbrev pub changes_most : ℕ
changes_most = 64

abbrev pub steps_most : ℕ
steps_most = 1000000

-- the words of a second: itself and its sums; of a worker: two numbers, width, rounds, the stall's bits; of a change
abbrev pub second_wide : ℕ
second_wide = 5

abbrev pub worker_wide : ℕ
worker_wide = 5

abbrev pub change_wide : ℕ
change_wide = 11

-- which word of a second's row has what, behind the second itself; a change has the same first words for what its plan added
abbrev pub drafts_in : ℕ
drafts_in = 1

abbrev pub sequences_in : ℕ
sequences_in = 2

abbrev pub committed_in : ℕ
committed_in = 3

abbrev pub steps_in : ℕ
steps_in = 4

-- which word of a change has what, behind those: 1 where it is a plan; the worker's kind, its two numbers, its record from before
abbrev pub planned_in : ℕ
planned_in = 4

abbrev pub kind_in : ℕ
kind_in = 5

abbrev pub worker_ain : ℕ
worker_ain = 6

abbrev pub worker_bin : ℕ
worker_bin = 7

abbrev pub width_in : ℕ
width_in = 8

abbrev pub rounds_in : ℕ
rounds_in = 9

abbrev pub stall_in : ℕ
stall_in = 10

-- where the changes, the workers and the seconds start, and where row i of each starts
abbrev pub changes_from : ℕ
changes_from = 4

abbrev pub change_at : ℕ → ℕ
change_at i = row_at change_wide changes_from i

abbrev pub workers_from : ℕ
workers_from = change_at changes_most

abbrev pub worker_at : ℕ → ℕ
worker_at i = row_at worker_wide workers_from i

abbrev pub seconds_from : ℕ
seconds_from = worker_at workers_most

abbrev pub second_at : ℕ → ℕ
second_at i = row_at second_wide seconds_from i

-- the words that a planner takes
abbrev pub room : ℕ
room = second_at seconds_most

-- the numbers held: at most what there is room for, whatever the words say
abbrev pub seconds_held : List ℕ → ℕ
seconds_held ws = min (get_or ws 0 0) seconds_most

abbrev pub workers_held : List ℕ → ℕ
workers_held ws = min (get_or ws 1 0) workers_most

abbrev pub available : List ℕ → ℕ
available ws = min (get_or ws 2 0) changes_most

-- the slot of the next change: the last at most, whatever the word says
abbrev pub next_slot : List ℕ → ℕ
next_slot ws = min (get_or ws 3 0) (changes_most - 1)

-- a sum that stops at the largest word
abbrev pub plus : ℕ → ℕ → ℕ
plus x y = min (x + y) (2 ^ 64 - 1)
