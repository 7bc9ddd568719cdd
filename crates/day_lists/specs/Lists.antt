-- What reading a list of numbers in a day file's line answers, and what it leaves in the buffer.
use Rattle.std.specs.Prelude.{ℕ, cond, List, ◌++◌, ltb, Float, length, drop, Result, Ok, Err}
use Rattle.refusals.specs.Refusals.{Judgement}
use Rattle.text.specs.Fields.{fields}
use Rattle.day_line.specs.DayLine.{uncommented}
use Rattle.day_walks.specs.declared.WrongNumber.{WrongNumber}
use Rattle.day_walks.specs.Walks.{whole_judged, decimal_judged, fields_judged, whole_read, decimal_read, each}
use Rattle.day_lists.specs.declared.NoList.{NoList}
use Rattle.day_lists.specs.declared.NoList.TheVariants.{TooMany, Wrong}

-- the fields of a line from a place on, its comment apart
abbrev pub list_in : List ℕ → ℕ → List (List ℕ)
list_in line from = drop from (fields (uncommented line))

-- so many fields, once they are judged, for a buffer with so much room: a wrong field goes before too little room
abbrev pub listed_as : Result ℕ WrongNumber → ℕ → ℕ → Result ℕ NoList
listed_as (Ok end) count room = cond (ltb room count) (Err TooMany) (Ok count)
listed_as (Err wrong) count room = Err (Wrong wrong)

-- the values at the front of the buffer where all is right; else it stays as it is
abbrev pub left_by : {A : Type 0} → Result ℕ NoList → List A → List A → Result ℕ NoList × List A
left_by (Ok n) values old = (Ok n, values ++ drop (length values) old)
left_by (Err why) values old = (Err why, old)

-- a list whose fields are judged and read so, the first of which has the place `from`
abbrev pub listed_by : {A : Type 0} → (List ℕ → Judgement) → (List ℕ → A) → ℕ → List (List ℕ) → List A → Result ℕ NoList × List A
listed_by judged read from list old = left_by (listed_as (fields_judged judged from list) (length list) (length old)) (each read list) old

unfoldable pub decimals_listed : List ℕ → ℕ → List Float → Result ℕ NoList × List Float
decimals_listed line from out = listed_by decimal_judged decimal_read from (list_in line from) out

unfoldable pub wholes_listed : List ℕ → ℕ → List ℕ → Result ℕ NoList × List ℕ
wholes_listed line from out = listed_by whole_judged whole_read from (list_in line from) out
