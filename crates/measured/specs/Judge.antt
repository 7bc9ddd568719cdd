-- What a cost table's text is refused for, over the list of its lines.
use Rattle.std.specs.Prelude.{ℕ, suc, ◌+◌, Bool, ◌&&◌, cond, List, [], ◌∷◌, leb, eqb, length, get_or, Some, None, Result, Ok, Err}
use Rattle.text.specs.Lines.{lines}
use Rattle.text.specs.Fields.{fields, same_text}
use Rattle.trimming.specs.Trim.{trimmed}
use Rattle.blocks.specs.Blocks.{all_ascii}
use Rattle.refusals.specs.declared.Refusal.{Refusal}
use Rattle.refusals.specs.declared.Refusal.TheVariants.{NotAscii, EmptyText, WrongHeader, NoRows, Size, ShortBuffer}
use Rattle.refusals.specs.declared.RefusedRow.{RefusedRow}
use Rattle.refusals.specs.Refusals.{number_of}
use Rattle.table_line.specs.Line.{Line, line_read}

-- what a text says: how many rows it has, or the refusal with the row of the line at fault
abbrev pub Answer : Type 0
Answer = Result ℕ RefusedRow

abbrev pub refused : Refusal → ℕ → Answer
refused refusal row = Err (record { refusal = refusal; row = row })

-- the rows that a text may have
abbrev pub most_rows : ℕ
most_rows = 4096

-- ---- the header

-- the bytes of `batch_size`, `num_draft_tokens` and `step_seconds`
abbrev pub batch_name : List ℕ
batch_name = 98 ∷ 97 ∷ 116 ∷ 99 ∷ 104 ∷ 95 ∷ 115 ∷ 105 ∷ 122 ∷ 101 ∷ []

abbrev pub tokens_name : List ℕ
tokens_name = 110 ∷ 117 ∷ 109 ∷ 95 ∷ 100 ∷ 114 ∷ 97 ∷ 102 ∷ 116 ∷ 95 ∷ 116 ∷ 111 ∷ 107 ∷ 101 ∷ 110 ∷ 115 ∷ []

abbrev pub seconds_name : List ℕ
seconds_name = 115 ∷ 116 ∷ 101 ∷ 112 ∷ 95 ∷ 115 ∷ 101 ∷ 99 ∷ 111 ∷ 110 ∷ 100 ∷ 115 ∷ []

-- whether the column at a place has this name, once trimmed
abbrev pub named : List (List ℕ) → ℕ → List ℕ → Bool
named names place name = same_text (trimmed (get_or names place [])) name

unfoldable pub header_right : List (List ℕ) → Bool
header_right names = eqb (length names) 3 && (named names 0 batch_name && (named names 1 tokens_name && named names 2 seconds_name))

-- ---- the rows

-- how many rows a line is
abbrev pub rows_in : Line → ℕ
rows_in (Ok None) = 0
rows_in (Ok (Some read)) = 1
rows_in (Err refusal) = 0

-- the answer of the lines after this one, unless a refusal goes before it: n rows stand before this line, whose number is `row`, and the
-- columns have room for `room` rows
abbrev pub unless_refused : Line → ℕ → ℕ → ℕ → Answer → Answer
unless_refused (Ok None) room row n answer = answer
unless_refused (Ok (Some read)) room row n answer = cond (leb most_rows n) (refused Size row) (cond (leb room n) (refused ShortBuffer row) answer)
unless_refused (Err refusal) room row n answer = refused refusal row

-- the lines from the one with number `row` on, with n rows before it; of none there is no table
abbrev pub judge_rows : ℕ → List (List ℕ) → ℕ → ℕ → Answer
judge_rows room [] row n = cond (eqb n 0) (refused NoRows 0) (Ok n)
judge_rows room (line ∷ rest) row n = unless_refused (line_read line) room row n (judge_rows room rest (suc row) (n + rows_in (line_read line)))

-- the header, which is line 1, then the others
unfoldable pub judge_lines : ℕ → List (List ℕ) → Answer
unfolding header_right
judge_lines room [] = refused EmptyText 0
judge_lines room (header ∷ rest) = cond (header_right (fields header)) (judge_rows room rest 2 0) (refused WrongHeader 1)

unfoldable pub judged : ℕ → List ℕ → Answer
unfolding judge_lines
judged room text = cond (all_ascii text) (judge_lines room (lines text)) (refused NotAscii 0)

-- ---- the refusal number and the row of each answer; 0 where there is a table
abbrev pub answer_refusal : Answer → ℕ
answer_refusal (Ok rows) = 0
answer_refusal (Err why) = number_of why.refusal

abbrev pub answer_row : Answer → ℕ
answer_row (Ok rows) = 0
answer_row (Err why) = why.row
