-- A list of numbers in a day file's line, over the list of its fields.
use Rattle.std.specs.Prelude.{ℕ, suc, List, [], ◌∷◌, Float, ⊤, Result, Ok, Err}
use Rattle.refusals.specs.Refusals.{Judgement}
use Rattle.trimming.specs.Trim.{trimmed}
use Rattle.numeral.specs.Spelling.{whole_of}
use Rattle.decimals.specs.Decimals.{decimal_of, without_value}
use Rattle.bank_fill.specs.Fill.{whole_value, decimal_value}
use Rattle.day_walks.specs.declared.WrongNumber.{WrongNumber}

-- whether a field says a number, blanks around it apart
abbrev pub whole_judged : List ℕ → Judgement
whole_judged field = without_value (whole_of (trimmed field))

abbrev pub decimal_judged : List ℕ → Judgement
decimal_judged field = without_value (decimal_of (trimmed field))

-- a judgement of a field, with its place
abbrev pub at_field : Judgement → ℕ → Result ⊤ WrongNumber
at_field (Ok passed) place = Ok tt
at_field (Err refusal) place = Err (record { field = place; refusal = refusal })

-- the answer, unless a field is refused before it
abbrev pub unless : {A : Type 0} → Result ⊤ WrongNumber → Result A WrongNumber → Result A WrongNumber
unless (Ok passed) answer = answer
unless (Err wrong) answer = Err wrong

-- the place behind the last field, counted from a place on, unless a field is wrong: the first one is refused
abbrev pub fields_judged : (List ℕ → Judgement) → ℕ → List (List ℕ) → Result ℕ WrongNumber
fields_judged judged place [] = Ok place
fields_judged judged place (field ∷ rest) = unless (at_field (judged field) place) (fields_judged judged (suc place) rest)

-- the value of a field
abbrev pub whole_read : List ℕ → ℕ
whole_read field = whole_value (whole_of (trimmed field))

abbrev pub decimal_read : List ℕ → Float
decimal_read field = decimal_value (decimal_of (trimmed field))

-- the value of each
abbrev pub each : {A : Type 0} → (List ℕ → A) → List (List ℕ) → List A
each read [] = []
each read (field ∷ rest) = read field ∷ each read rest
