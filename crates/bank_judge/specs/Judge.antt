-- What a trace bank's text is refused for, over the list of its lines and the list of a line's fields.
use Rattle.std.specs.Prelude.{ℕ, suc, ◌+◌, ◌-◌, ◌/◌, min, ◌&&◌, cond, List, [], ◌∷◌, leb, ltb, eqb, length, get_or, drop, ⊤, Result, Ok, Err}
use Rattle.refusals.specs.declared.Refusal.{Refusal}
use Rattle.refusals.specs.declared.Refusal.TheVariants.{NotAscii, EmptyText, WrongHeader, FieldCount, NoRows, Size, ShortBuffer}
use Rattle.refusals.specs.declared.RefusedRow.{RefusedRow}
use Rattle.refusals.specs.Refusals.{Judgement, passed_if, and_then, number_of}
use Rattle.text.specs.Lines.{lines, starts_with}
use Rattle.text.specs.Fields.{fields, same_text}
use Rattle.blocks.specs.Blocks.{all_ascii}
use Rattle.decimals.specs.Decimals.{decimal_of, without_value}
use Rattle.numeral.specs.Spelling.{whole_of}
use Rattle.bank_judge.specs.declared.BankSize.{BankSize}

-- what reading a bank answers: its size, or why there is none, with the row of the line at fault
abbrev pub Answer : Type 0
Answer = Result BankSize RefusedRow

abbrev pub sized : ℕ → ℕ → Answer
sized depth rounds = Ok (record { depth = depth; rounds = rounds })

abbrev pub refused_in : Refusal → ℕ → Answer
refused_in refusal row = Err (record { refusal = refusal; row = row })

-- ---- the sizes of a bank
abbrev pub most_columns : ℕ
most_columns = 128

abbrev pub most_depth : ℕ
most_depth = 64

abbrev pub most_rounds : ℕ
most_rounds = 65536

-- ---- the header

-- the bytes of `commits`
abbrev pub commits_name : List ℕ
commits_name = 99 ∷ 111 ∷ 109 ∷ 109 ∷ 105 ∷ 116 ∷ 115 ∷ []

-- how many names start with `a`
abbrev pub depth_of : List (List ℕ) → ℕ
depth_of [] = 0
depth_of (name ∷ names) = cond (starts_with 97 name) (suc (depth_of names)) (depth_of names)

-- the first column is `commits` and a name starts with `a`; then there are not too many columns; then the curve has room
unfoldable pub header_judged : List (List ℕ) → ℕ → Judgement
header_judged names room =
    and_then (passed_if (same_text (get_or names 0 []) commits_name && ltb 0 (depth_of names)) WrongHeader)
    (and_then (passed_if (leb (length names) most_columns && leb (depth_of names) most_depth) Size)
    (passed_if (ltb (depth_of names) room) ShortBuffer))

abbrev pub signals_judged : List (List ℕ) → Judgement
signals_judged [] = Ok tt
signals_judged (field ∷ rest) = and_then (without_value (decimal_of field)) (signals_judged rest)

-- a row of `width` fields: the first is the commits, those after the first `skip` are the signal
unfoldable pub row_judged : ℕ → ℕ → List (List ℕ) → Judgement
row_judged width skip row =
    and_then (passed_if (eqb (length row) width) FieldCount) (and_then (without_value (whole_of (get_or row 0 []))) (signals_judged (drop skip row)))

-- the row of a round, then whether a bank has so many rounds, then whether there is room
unfoldable pub round_judged : ℕ → ℕ → ℕ → List (List ℕ) → ℕ → Judgement
round_judged width skip room row round =
    and_then (row_judged width skip row) (and_then (passed_if (ltb round most_rounds) Size) (passed_if (ltb round room) ShortBuffer))

-- a judgement of a row, with the row
abbrev pub at_row : Judgement → ℕ → Result ⊤ RefusedRow
at_row (Ok passed) row = Ok tt
at_row (Err refusal) row = Err (record { refusal = refusal; row = row })

-- the answer, unless a row is refused before it
abbrev pub unless : Result ⊤ RefusedRow → Answer → Answer
unless (Ok passed) answer = answer
unless (Err refused) answer = Err refused

-- the rows from the one of this round on: round 0 stands in row 2
abbrev pub judge_rows : ℕ → ℕ → ℕ → ℕ → List (List ℕ) → ℕ → Answer
judge_rows width skip depth room [] round = cond (eqb round 0) (refused_in NoRows 0) (sized depth round)
judge_rows width skip depth room (line ∷ rest) round =
    unless (at_row (round_judged width skip room (fields line) round) (round + 2)) (judge_rows width skip depth room rest (suc round))

-- how many rounds there is room for
abbrev pub room_for : ℕ → ℕ → ℕ → ℕ
room_for depth commits signals = min commits (signals / depth)

-- the header, then the rows; the numbers are the room in the three buffers
unfoldable pub judge_lines : List (List ℕ) → ℕ → ℕ → ℕ → Answer
judge_lines [] commits signals curve = refused_in EmptyText 0
judge_lines (header ∷ rows) commits signals curve =
    let names = fields header in
    let depth = depth_of names in
    unless (at_row (header_judged names curve) 1) (judge_rows (length names) (length names - depth) depth (room_for depth commits signals) rows 0)

unfoldable pub judged : List ℕ → ℕ → ℕ → ℕ → Answer
judged text commits signals curve = cond (all_ascii text) (judge_lines (lines text) commits signals curve) (refused_in NotAscii 0)

-- ---- the refusal number and the row of each answer; 0 where there is a bank
abbrev pub answer_refusal : Answer → ℕ
answer_refusal (Ok size) = 0
answer_refusal (Err refused) = number_of refused.refusal

abbrev pub answer_row : Answer → ℕ
answer_row (Ok size) = 0
answer_row (Err refused) = refused.row
