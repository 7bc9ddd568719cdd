-- The parts that the lines of the series, of the day figure and of a collect are made of. A line starts with the day file's line number; fields stand
-- between commas, and a field's words between blanks.
use Rattle.std.specs.Prelude.{ℕ, List, ◌++◌, Float}
use Rattle.std.specs.Float.{binary64}
use Rattle.std.specs.Float.Ieee.{to_bits}
use Rattle.page.specs.Spelt.{spelt}
use Rattle.page.specs.Numbers.{decimal, sixteen}
use Rattle.figures.specs.Figures.{mean_text, share_text, figure_text}
use Rattle.columns.specs.Columns.{padded}

-- a name and its number in a column of this width
unfoldable pub column : List ℕ → ℕ → ℕ → List ℕ
column name width n = name ++ padded width (decimal n)

-- a name and a mean, in a column of 11
unfoldable pub mean_column : List ℕ → ℕ → ℕ → List ℕ
mean_column name sum count = name ++ padded 11 (mean_text sum count)

-- a name and a share, in a column of 4
unfoldable pub share_column : List ℕ → ℕ → ℕ → List ℕ
share_column name part whole = name ++ padded 4 (share_text part whole)

-- a name and a float's bits
unfoldable pub bits_field : List ℕ → Float → List ℕ
bits_field name x = name ++ sixteen (to_bits binary64 x)

-- a line up to the sums of a second
unfoldable pub series_sums : ℕ → ℕ → ℕ → ℕ → ℕ → ℕ → List ℕ
series_sums line second drafts sequences committed steps = decimal line ++ (column (spelt ",series,second ") 10 second ++ (column (spelt ",drafts ") 8 drafts ++ (column (spelt ",sequences ") 7 sequences ++ (column (spelt ",committed ") 8 committed ++ column (spelt ",steps ") 6 steps))))

-- a float behind a name, by six decimals and by its bits
unfoldable pub float_line : ℕ → List ℕ → Float → List ℕ
float_line line name x = decimal line ++ (name ++ (figure_text x ++ (bits_field (spelt ",bits ") x ++ spelt "\n")))
