-- Worked examples of the definition of reading a bank, by computation. Each lends room for two rounds, two signal values and two curve entries.
-- Assumes nothing.
use mathlib.Core.Path.{◌≡◌, refl}
use mathlib.Core.Bool.{false}
use mathlib.Core.List.{List, [], ◌∷◌}
use Prim.Native.Nat.{ℕ}
use lib.IntN.{pos, negsuc}
use lib.Ieee.{Float, fin, nan, round}
use Rattle.numeral.specs.Spelling.{whole_of}
use Rattle.decimals.specs.Decimals.{decimal_of}
use Rattle.refusals.specs.declared.Refusal.{Refusal}
use Rattle.refusals.specs.declared.Refusal.TheVariants.{NotAscii, EmptyText, WrongHeader, FieldCount, MalformedDecimal, NoRows, ShortBuffer}
use Rattle.bank_judge.specs.Judge.{sized, refused_in, header_judged, row_judged, round_judged, judge_lines, judged}
use Rattle.bank.specs.Read.{Outcome, bank_read}

-- what stands in the buffers before
abbrev read : List ℕ → Outcome
read text = bank_read text (8 ∷ 9 ∷ []) (nan ∷ nan ∷ []) (nan ∷ nan ∷ [])

abbrev refused : Refusal → ℕ → Outcome
refused refusal row = record { answer = refused_in refusal row; commits = 8 ∷ 9 ∷ []; signals = nan ∷ nan ∷ []; curve = nan ∷ nan ∷ [] }

abbrev half : Float
half = fin false 1 (negsuc 0)

-- `commits,a0,len` and the row `2,x,0.5`: the signal is the last column, whatever its name, and the other columns are not read
last_column : read (99 ∷ 111 ∷ 109 ∷ 109 ∷ 105 ∷ 116 ∷ 115 ∷ 44 ∷ 97 ∷ 48 ∷ 44 ∷ 108 ∷ 101 ∷ 110 ∷ 10 ∷ 50 ∷ 44 ∷ 120 ∷ 44 ∷ 48 ∷ 46 ∷ 53 ∷ 10 ∷ []) ≡ record { answer = sized 1 1; commits = 2 ∷ 9 ∷ []; signals = half ∷ nan ∷ []; curve = fin false 0 (pos 0) ∷ fin false 1 (pos 0) ∷ [] }
unfolding bank_read judged judge_lines header_judged row_judged round_judged whole_of decimal_of round
last_column = refl

-- a byte above 127
high_byte : read (128 ∷ []) ≡ refused NotAscii 0
unfolding bank_read judged judge_lines header_judged row_judged round_judged whole_of decimal_of round
high_byte = refl

-- no text
empty : read ([]) ≡ refused EmptyText 0
unfolding bank_read judged judge_lines header_judged row_judged round_judged whole_of decimal_of round
empty = refl

-- no column starts with `a`
no_signal : read (99 ∷ 111 ∷ 109 ∷ 109 ∷ 105 ∷ 116 ∷ 115 ∷ 44 ∷ 98 ∷ 10 ∷ []) ≡ refused WrongHeader 1
unfolding bank_read judged judge_lines header_judged row_judged round_judged whole_of decimal_of round
no_signal = refl

-- a blank line
blank_line : read (99 ∷ 111 ∷ 109 ∷ 109 ∷ 105 ∷ 116 ∷ 115 ∷ 44 ∷ 97 ∷ 10 ∷ 10 ∷ []) ≡ refused FieldCount 2
unfolding bank_read judged judge_lines header_judged row_judged round_judged whole_of decimal_of round
blank_line = refl

-- a CR at the very end is part of the number
return_kept : read (99 ∷ 111 ∷ 109 ∷ 109 ∷ 105 ∷ 116 ∷ 115 ∷ 44 ∷ 97 ∷ 10 ∷ 49 ∷ 44 ∷ 50 ∷ 13 ∷ []) ≡ refused MalformedDecimal 2
unfolding bank_read judged judge_lines header_judged row_judged round_judged whole_of decimal_of round
return_kept = refl

-- a header alone
no_rows : read (99 ∷ 111 ∷ 109 ∷ 109 ∷ 105 ∷ 116 ∷ 115 ∷ 44 ∷ 97 ∷ 10 ∷ []) ≡ refused NoRows 0
unfolding bank_read judged judge_lines header_judged row_judged round_judged whole_of decimal_of round
no_rows = refl

-- a third round has no room
third_round : read (99 ∷ 111 ∷ 109 ∷ 109 ∷ 105 ∷ 116 ∷ 115 ∷ 44 ∷ 97 ∷ 10 ∷ 49 ∷ 44 ∷ 49 ∷ 10 ∷ 49 ∷ 44 ∷ 49 ∷ 10 ∷ 49 ∷ 44 ∷ 49 ∷ 10 ∷ []) ≡ refused ShortBuffer 4
unfolding bank_read judged judge_lines header_judged row_judged round_judged whole_of decimal_of round
third_round = refl

-- nor has a curve of three entries
two_values : read (99 ∷ 111 ∷ 109 ∷ 109 ∷ 105 ∷ 116 ∷ 115 ∷ 44 ∷ 97 ∷ 44 ∷ 97 ∷ 10 ∷ []) ≡ refused ShortBuffer 1
unfolding bank_read judged judge_lines header_judged row_judged round_judged whole_of decimal_of round
two_values = refl
