-- How a mean and a figure are written, to six decimals, and a share, in whole percents.
use Rattle.std.specs.Prelude.{ℕ, ◌+◌, ◌*◌, ◌/◌, ◌^◌, max, cond, List, ◌++◌, ltb, Float}
use Rattle.std.specs.Float.{binary64}
use Rattle.std.specs.Float.Ieee.{of_bits, lt, add, mul, to_unsigned}
use Rattle.page.specs.Spelt.{spelt}
use Rattle.page.specs.Numbers.{decimal, six_decimals, bar}

-- sums and counts up to here have their mean and their share written
abbrev pub limit : ℕ
limit = 4 * 10 ^ 12

-- what stands where a mean, a share or a float is not written
abbrev pub too_large : List ℕ
too_large = spelt "too large"

abbrev pub out_of_range : List ℕ
out_of_range = spelt "out of range"

-- sum / max(count, 1) in so many parts of one, rounded to the nearest, a half up
abbrev pub rounded : ℕ → ℕ → ℕ → ℕ
rounded scale sum count = (2 * scale * sum + max count 1) / (2 * max count 1)

-- in millionths, and in hundredths
abbrev pub millionths : ℕ → ℕ → ℕ
millionths = rounded (10 ^ 6)

abbrev pub percent : ℕ → ℕ → ℕ
percent = rounded 100

unfoldable pub mean_text : ℕ → ℕ → List ℕ
mean_text sum count = cond (ltb limit sum) too_large (cond (ltb limit count) too_large (six_decimals (millionths sum count)))

-- a mark for each whole one of the mean; none where the mean is not written
unfoldable pub mean_bar : ℕ → ℕ → List ℕ
mean_bar sum count = cond (ltb limit sum) (bar 0) (cond (ltb limit count) (bar 0) (bar (millionths sum count / 10 ^ 6)))

-- ---- a share

-- what stands for a share of nothing
abbrev pub no_share : List ℕ
no_share = spelt "-"

unfoldable pub share_text : ℕ → ℕ → List ℕ
share_text part whole = cond (ltb whole 1) no_share (cond (ltb limit part) too_large (cond (ltb limit whole) too_large (decimal (percent part whole) ++ spelt "%")))

-- ---- a float, from 0.0 to below 10^12

-- the floats 0.0, 0.5, 10^6 and 10^12
abbrev pub zero_figure : Float
zero_figure = of_bits binary64 0

abbrev pub half : Float
half = of_bits binary64 0x3fe0_0000_0000_0000

abbrev pub million : Float
million = of_bits binary64 0x412e_8480_0000_0000

abbrev pub high_figure : Float
high_figure = of_bits binary64 0x426d_1a94_a200_0000

-- the whole part of x × 10^6 + 0.5, each operation rounded once
unfoldable pub figure_millionths : Float → ℕ
figure_millionths x = to_unsigned 64 (add binary64 (mul binary64 x million) half)

unfoldable pub figure_text : Float → List ℕ
figure_text x = cond (lt x zero_figure) out_of_range (cond (lt x high_figure) (six_decimals (figure_millionths x)) out_of_range)
