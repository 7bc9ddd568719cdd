-- The lines of the series, of the day figure and of what a collect answers.
use Rattle.std.specs.Prelude.{ℕ, List, ◌++◌, Float}
use Rattle.page.specs.Spelt.{spelt}
use Rattle.page.specs.Numbers.{decimal}
use Rattle.figures.specs.Figures.{mean_bar}
use Rattle.series_fields.specs.Fields.{column, mean_column, share_column, bits_field, series_sums, float_line}

-- how many seconds the series has
unfoldable pub series_head : ℕ → ℕ → List ℕ
series_head line seconds = decimal line ++ (spelt ",series,seconds " ++ (decimal seconds ++ spelt "\n"))

-- the mean draft by sequence, the mean batch by step, the mean committed by sequence, and the share of the drafts that is committed
unfoldable pub series_averages : ℕ → ℕ → ℕ → ℕ → List ℕ
series_averages drafts sequences committed steps =
    mean_column (spelt ",mean draft ") drafts sequences
    ++ (mean_column (spelt ",mean batch ") sequences steps ++ (mean_column (spelt ",mean committed ") committed sequences ++ share_column (spelt ",survived ") committed drafts))

-- these, and a bar as long as the mean draft
unfoldable pub series_means : ℕ → ℕ → ℕ → ℕ → List ℕ
series_means drafts sequences committed steps = series_averages drafts sequences committed steps ++ (spelt "," ++ (mean_bar drafts sequences ++ spelt "\n"))

-- a second: its sums, its means and the bar
unfoldable pub series_row : ℕ → ℕ → ℕ → ℕ → ℕ → ℕ → List ℕ
series_row line second drafts sequences committed steps = series_sums line second drafts sequences committed steps ++ series_means drafts sequences committed steps

-- a second's means by their bits
unfoldable pub series_bits : ℕ → ℕ → Float → Float → Float → List ℕ
series_bits line second draft batch committed = decimal line ++ (column (spelt ",series,second ") 10 second ++ (bits_field (spelt ",mean draft ") draft ++ (bits_field (spelt ",mean batch ") batch ++ (bits_field (spelt ",mean committed ") committed ++ spelt "\n"))))

-- the day figure, and the seconds that a collect answers
abbrev pub day_line : ℕ → Float → List ℕ
day_line line figure = float_line line (spelt ",day,figure ") figure

abbrev pub collect_line : ℕ → Float → List ℕ
collect_line line seconds = float_line line (spelt ",collect,seconds ") seconds
