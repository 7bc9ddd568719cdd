-- Worked examples of the definition of reading a cost table, by computation. Each lends room for three rows. Assumes nothing.
use mathlib.Core.Path.{◌≡◌, refl}
use mathlib.Core.List.{List, [], ◌∷◌, ◌++◌}
use Prim.Native.Nat.{ℕ}
use lib.Ieee.{Float, nan, round, lt, mul, of_bits, binary64}
use Rattle.numeral.specs.Spelling.{whole_of}
use Rattle.decimals.specs.Decimals.{decimal_of}
use Rattle.cost_rows.specs.Table.{over}
use Rattle.cost_rows.specs.Order.{sorted, insert, earlier, before}
use Rattle.cost_rows.specs.Prune.{kept, dropped, above}
use Rattle.std.proofs.Common.{Ok}
use Rattle.refusals.specs.declared.Refusal.{Refusal}
use Rattle.refusals.specs.declared.Refusal.TheVariants.{NotAscii, EmptyText, WrongHeader, FieldCount, StepSeconds, NoDrafts, NoRows, ShortBuffer}
use Rattle.table_line.specs.Line.{values_read, numbers_read, row_read, line_read}
use Rattle.measured.specs.Judge.{refused as refused_at, batch_name, tokens_name, seconds_name, header_right, judge_lines, judged}
use Rattle.measured.specs.Fill.{rows_of, Outcome, table_read}

-- `batch_size,num_draft_tokens,step_seconds`, a line feed, and the text
abbrev headed : List ℕ → List ℕ
headed text = batch_name ++ 44 ∷ tokens_name ++ 44 ∷ seconds_name ++ 10 ∷ text

-- what stands in the columns before
abbrev read : List ℕ → Outcome
read text = table_read text (7 ∷ 8 ∷ 9 ∷ []) (17 ∷ 18 ∷ 19 ∷ []) (nan ∷ nan ∷ nan ∷ [])

abbrev refused : Refusal → ℕ → Outcome
refused refusal row = record { answer = refused_at refusal row; depths = 7 ∷ 8 ∷ 9 ∷ []; batches = 17 ∷ 18 ∷ 19 ∷ []; seconds = nan ∷ nan ∷ nan ∷ [] }

abbrev one : Float
one = of_bits binary64 0x3ff0_0000_0000_0000

abbrev fifteen : Float
fifteen = of_bits binary64 0x3ff8_0000_0000_0000

abbrev nineteen : Float
nineteen = of_bits binary64 0x3ffe_6666_6666_6666

-- `2,1,1.5`, a blank line, `1,1,1.9` and ` 4 ,1,1`: put in order, and batch 2 is dropped, since 1.5 is above 1.3 times 1.0; 1.9 is not above 1.3 times 1.5.
-- Behind the kept rows stands what the rows in order left
three_rows : read (headed (50 ∷ 44 ∷ 49 ∷ 44 ∷ 49 ∷ 46 ∷ 53 ∷ 10 ∷ 32 ∷ 10 ∷ 49 ∷ 44 ∷ 49 ∷ 44 ∷ 49 ∷ 46 ∷ 57 ∷ 10 ∷ 32 ∷ 52 ∷ 32 ∷ 44 ∷ 49 ∷ 44 ∷ 49 ∷ []))
    ≡ record { answer = Ok 2; depths = 0 ∷ 0 ∷ 0 ∷ []; batches = 1 ∷ 4 ∷ 4 ∷ []; seconds = nineteen ∷ one ∷ one ∷ [] }
unfolding table_read judged judge_lines header_right rows_of line_read row_read numbers_read values_read whole_of decimal_of round sorted insert earlier before kept dropped above over lt mul of_bits
three_rows = refl

-- a byte above 127
high_byte : read (128 ∷ []) ≡ refused NotAscii 0
unfolding table_read judged judge_lines header_right rows_of line_read row_read numbers_read values_read whole_of decimal_of round sorted insert earlier before kept dropped above over lt mul of_bits
high_byte = refl

-- no text
empty : read [] ≡ refused EmptyText 0
unfolding table_read judged judge_lines header_right rows_of line_read row_read numbers_read values_read whole_of decimal_of round sorted insert earlier before kept dropped above over lt mul of_bits
empty = refl

-- the header's columns in another order
other_header : read (tokens_name ++ 44 ∷ batch_name ++ 44 ∷ seconds_name ++ []) ≡ refused WrongHeader 1
unfolding table_read judged judge_lines header_right rows_of line_read row_read numbers_read values_read whole_of decimal_of round sorted insert earlier before kept dropped above over lt mul of_bits
other_header = refl

-- two fields, in line 3: the blank line 2 is counted
two_fields : read (headed (10 ∷ 49 ∷ 44 ∷ 49 ∷ 10 ∷ [])) ≡ refused FieldCount 3
unfolding table_read judged judge_lines header_right rows_of line_read row_read numbers_read values_read whole_of decimal_of round sorted insert earlier before kept dropped above over lt mul of_bits
two_fields = refl

-- `1,0,0`: the seconds are judged before the tokens
zero_seconds : read (headed (49 ∷ 44 ∷ 48 ∷ 44 ∷ 48 ∷ [])) ≡ refused StepSeconds 2
unfolding table_read judged judge_lines header_right rows_of line_read row_read numbers_read values_read whole_of decimal_of round sorted insert earlier before kept dropped above over lt mul of_bits
zero_seconds = refl

no_tokens : read (headed (49 ∷ 44 ∷ 48 ∷ 44 ∷ 49 ∷ [])) ≡ refused NoDrafts 2
unfolding table_read judged judge_lines header_right rows_of line_read row_read numbers_read values_read whole_of decimal_of round sorted insert earlier before kept dropped above over lt mul of_bits
no_tokens = refl

-- a header alone
no_rows : read (headed []) ≡ refused NoRows 0
unfolding table_read judged judge_lines header_right rows_of line_read row_read numbers_read values_read whole_of decimal_of round sorted insert earlier before kept dropped above over lt mul of_bits
no_rows = refl

-- a fourth row has no room
fourth_row : read (headed (49 ∷ 44 ∷ 49 ∷ 44 ∷ 49 ∷ 10 ∷ 49 ∷ 44 ∷ 49 ∷ 44 ∷ 49 ∷ 10 ∷ 49 ∷ 44 ∷ 49 ∷ 44 ∷ 49 ∷ 10 ∷ 49 ∷ 44 ∷ 49 ∷ 44 ∷ 49 ∷ 10 ∷ [])) ≡ refused ShortBuffer 5
unfolding table_read judged judge_lines header_right rows_of line_read row_read numbers_read values_read whole_of decimal_of round sorted insert earlier before kept dropped above over lt mul of_bits
fourth_row = refl
