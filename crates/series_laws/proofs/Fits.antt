-- No line of the series, of the day figure or of a collect is longer than the room that is made for a line. Assumes nothing.
use Prim.Native.Nat.{ℕ, ◌+◌, ◌-◌, ◌/◌, ◌^◌, ◌≤◌, min}
use mathlib.Core.Bool.{cond}
use mathlib.Core.List.{List, ◌++◌}
use native.Mathlib.Omega.{arith}
use lib.Dec.{ltb}
use lib.Ieee.{Float, binary64, to_bits, lt}
use lib.ListN.{length, replicate, length-append, length-replicate, length-take}
use Rattle.page.proofs.Lengths.{length_digits}
use Rattle.page.specs.Page.{line_room}
use Rattle.page.specs.Spelt.{spelt}
use Rattle.page.specs.Numbers.{decimal, sixteen, six_decimals, bar}
use Rattle.figures.specs.Figures.{limit, out_of_range, millionths, mean_bar, zero_figure, high_figure, figure_millionths, figure_text}
use Rattle.columns.specs.Columns.{blanks, padded}
use Rattle.columns.proofs.Lengths.{chosen_short, decimal_short, six_short, mean_short, share_short}
use Rattle.series_fields.specs.Fields.{column, mean_column, share_column, bits_field, series_sums, float_line}
use Rattle.series_lines.specs.Lines.{series_head, series_averages, series_means, series_row, series_bits, day_line, collect_line}

-- a text of so many bytes at most
record Short (most : ℕ) (text : List ℕ) : Type 0 where
  long : length text ≤ most

-- one text behind another
joined : {a b : ℕ} {x y : List ℕ} → Short a x → Short b y → Short (a + b) (x ++ y)
joined {a} {b} {x} {y} p q = record { long = omega (arith, p.long, q.long, length-append x y) }

word : (x : List ℕ) → Short (length x) x
word x = record { long = omega arith }

-- ---- numbers
number : (n : ℕ) → Short 20 (decimal n)
number n = record { long = decimal_short n }

padded_short : {most : ℕ} {text : List ℕ} (width : ℕ) → Short most text → Short (width + most) (padded width text)
unfolding padded
padded_short {most} {text} width p = record {
  long = omega (arith, p.long, length-append (blanks (width - length text)) text, length-replicate {A = ℕ} (width - length text) 32);
}

bits_short : (n : ℕ) → Short 16 (sixteen n)
unfolding sixteen
bits_short n = record { long = omega (arith, length_digits 16 16 n) }

marks_short : (n : ℕ) → length (bar n) ≤ 60
unfolding bar
marks_short n = omega (arith, length-take (min n 60) (replicate {A = ℕ} 60 35))

bar_short : (sum count : ℕ) → Short 60 (mean_bar sum count)
unfolding mean_bar
bar_short sum count = record {
  long =
      chosen_short
      (ltb limit sum)
      (bar 0)
      (cond (ltb limit count) (bar 0) (bar (millionths sum count / 10 ^ 6)))
      60
      (marks_short 0)
      (chosen_short (ltb limit count) (bar 0) (bar (millionths sum count / 10 ^ 6)) 60 (marks_short 0) (marks_short (millionths sum count / 10 ^ 6)));
}

figure_short : (x : Float) → Short 27 (figure_text x)
unfolding figure_text
figure_short x = record {
  long =
      chosen_short
      (lt x zero_figure)
      out_of_range
      (cond (lt x high_figure) (six_decimals (figure_millionths x)) out_of_range)
      27
      (omega arith)
      (chosen_short (lt x high_figure) (six_decimals (figure_millionths x)) out_of_range 27 (six_short (figure_millionths x)) (omega arith));
}

-- ---- fields
column_short : (name : List ℕ) (width n : ℕ) → Short (length name + (width + 20)) (column name width n)
unfolding column
column_short name width n = joined (word name) (padded_short width (number n))

mean_column_short : (name : List ℕ) (sum count : ℕ) → Short (length name + 38) (mean_column name sum count)
unfolding mean_column
mean_column_short name sum count = joined (word name) (padded_short 11 (record { long = mean_short sum count }))

share_column_short : (name : List ℕ) (part whole : ℕ) → Short (length name + 25) (share_column name part whole)
unfolding share_column
share_column_short name part whole = joined (word name) (padded_short 4 (record { long = share_short part whole }))

bits_field_short : (name : List ℕ) (x : Float) → Short (length name + 16) (bits_field name x)
unfolding bits_field
bits_field_short name x = joined (word name) (bits_short (to_bits binary64 x))

-- ---- lines
sums_short : (line second drafts sequences committed steps : ℕ) → Short 211 (series_sums line second drafts sequences committed steps)
unfolding series_sums
sums_short line second drafts sequences committed steps =
    joined
    (number line)
    (joined
    (column_short (spelt ",series,second ") 10 second)
    (joined
    (column_short (spelt ",drafts ") 8 drafts)
    (joined (column_short (spelt ",sequences ") 7 sequences) (joined (column_short (spelt ",committed ") 8 committed) (column_short (spelt ",steps ") 6 steps)))))

averages_short : (drafts sequences committed steps : ℕ) → Short 189 (series_averages drafts sequences committed steps)
unfolding series_averages
averages_short drafts sequences committed steps =
    joined
    (mean_column_short (spelt ",mean draft ") drafts sequences)
    (joined
    (mean_column_short (spelt ",mean batch ") sequences steps)
    (joined (mean_column_short (spelt ",mean committed ") committed sequences) (share_column_short (spelt ",survived ") committed drafts)))

means_short : (drafts sequences committed steps : ℕ) → Short 251 (series_means drafts sequences committed steps)
unfolding series_means
means_short drafts sequences committed steps =
    joined (averages_short drafts sequences committed steps) (joined (word (spelt ",")) (joined (bar_short drafts sequences) (word (spelt "\n"))))

row_short : (line second drafts sequences committed steps : ℕ) → Short 462 (series_row line second drafts sequences committed steps)
unfolding series_row
row_short line second drafts sequences committed steps = joined (sums_short line second drafts sequences committed steps) (means_short drafts sequences committed steps)

head_short : (line seconds : ℕ) → Short 57 (series_head line seconds)
unfolding series_head
head_short line seconds = joined (number line) (joined (word (spelt ",series,seconds ")) (joined (number seconds) (word (spelt "\n"))))

bits_line_short : (line second : ℕ) (draft batch committed : Float) → Short 154 (series_bits line second draft batch committed)
unfolding series_bits
bits_line_short line second draft batch committed =
    joined
    (number line)
    (joined
    (column_short (spelt ",series,second ") 10 second)
    (joined
    (bits_field_short (spelt ",mean draft ") draft)
    (joined (bits_field_short (spelt ",mean batch ") batch) (joined (bits_field_short (spelt ",mean committed ") committed) (word (spelt "\n"))))))

float_short : (line : ℕ) (name : List ℕ) (x : Float) → Short (20 + (length name + 50)) (float_line line name x)
unfolding float_line
float_short line name x =
    joined (number line) (joined (word name) (joined (figure_short x) (joined (bits_field_short (spelt ",bits ") x) (word (spelt "\n")))))

pub row_fits : (line second drafts sequences committed steps : ℕ) → length (series_row line second drafts sequences committed steps) ≤ line_room
row_fits line second drafts sequences committed steps = omega (arith, (row_short line second drafts sequences committed steps).long)

pub head_fits : (line seconds : ℕ) → length (series_head line seconds) ≤ line_room
head_fits line seconds = omega (arith, (head_short line seconds).long)

pub bits_fit : (line second : ℕ) (draft batch committed : Float) → length (series_bits line second draft batch committed) ≤ line_room
bits_fit line second draft batch committed = omega (arith, (bits_line_short line second draft batch committed).long)

pub day_fits : (line : ℕ) (figure : Float) → length (day_line line figure) ≤ line_room
day_fits line figure = omega (arith, (float_short line (spelt ",day,figure ") figure).long)

pub collect_fits : (line : ℕ) (seconds : Float) → length (collect_line line seconds) ≤ line_room
collect_fits line seconds = omega (arith, (float_short line (spelt ",collect,seconds ") seconds).long)
