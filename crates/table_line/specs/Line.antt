-- What a line of a cost table says, over the list of its fields.
use Rattle.std.specs.Prelude.{ℕ, ◌-◌, cond, List, [], eqb, Float, length, get_or, Option, Some, None, Result, Ok, Err}
use Rattle.std.specs.Float.Ieee.{lt}
use Rattle.text.specs.Fields.{fields}
use Rattle.trimming.specs.Trim.{trimmed}
use Rattle.float.specs.Floats.{f0}
use Rattle.refusals.specs.declared.Refusal.{Refusal}
use Rattle.refusals.specs.declared.Refusal.TheVariants.{FieldCount, StepSeconds, NoDrafts}
use Rattle.numeral.specs.Spelling.{Whole, whole_of}
use Rattle.decimals.specs.Decimals.{Decimal, decimal_of}
use Rattle.table_line.specs.declared.line.Row.{Row}

-- the number that the field at a place spells, once trimmed
abbrev pub whole_at : ℕ → List (List ℕ) → Whole
whole_at place row = whole_of (trimmed (get_or row place []))

abbrev pub decimal_at : ℕ → List (List ℕ) → Decimal
decimal_at place row = decimal_of (trimmed (get_or row place []))

-- what a line says: nothing, a row, or why it is refused
abbrev pub Line : Type 0
Line = Result (Option Row) Refusal

-- the seconds are above zero, and num_draft_tokens is not 0. The draft depth is one less
unfoldable pub values_read : ℕ → ℕ → Float → Result Row Refusal
values_read batch tokens seconds =
    cond (lt f0 seconds)
    (cond (eqb tokens 0) (Err NoDrafts) (Ok (record { depth = tokens - 1; batch = batch; seconds = seconds })))
    (Err StepSeconds)

-- the numbers from left to right: batch_size, num_draft_tokens, step_seconds
unfoldable pub numbers_read : Whole → Whole → Decimal → Result Row Refusal
unfolding values_read
numbers_read (Err refusal) tokens seconds = Err refusal
numbers_read (Ok batch) (Err refusal) seconds = Err refusal
numbers_read (Ok batch) (Ok tokens) (Err refusal) = Err refusal
numbers_read (Ok batch) (Ok tokens) (Ok seconds) = values_read batch tokens seconds

-- a row has three fields
unfoldable pub row_read : List (List ℕ) → Result Row Refusal
unfolding numbers_read
row_read row = cond (eqb (length row) 3) (numbers_read (whole_at 0 row) (whole_at 1 row) (decimal_at 2 row)) (Err FieldCount)

-- a line with that row
abbrev pub said : Result Row Refusal → Line
said (Ok row) = Ok (Some row)
said (Err refusal) = Err refusal

-- a line that is empty once trimmed says nothing
unfoldable pub line_read : List ℕ → Line
unfolding row_read
line_read line = cond (eqb (length (trimmed line)) 0) (Ok None) (said (row_read (fields line)))
