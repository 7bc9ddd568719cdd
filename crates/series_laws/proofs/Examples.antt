-- Lines as they are printed, by computation. Assumes nothing.
use mathlib.Core.Path.{◌≡◌, refl}
use lib.Ieee.{binary64, of_bits, to_bits, lt, add, mul, round, to_unsigned, nan}
use Rattle.page.specs.Spelt.{spelt}
use Rattle.page.specs.Numbers.{places_from, decimal, sixteen, six_decimals, bar}
use Rattle.figures.specs.Figures.{mean_text, mean_bar, share_text, figure_millionths, figure_text}
use Rattle.columns.specs.Columns.{padded}
use Rattle.series_fields.specs.Fields.{column, mean_column, share_column, bits_field, series_sums, float_line}
use Rattle.series_lines.specs.Lines.{series_head, series_averages, series_means, series_row, series_bits, day_line, collect_line}

two_seconds : series_head 12 2 ≡ spelt "12,series,seconds 2\n"
unfolding places_from decimal series_head
two_seconds = refl

a_second : series_row 12 5 8 2 6 1 ≡ spelt "12,series,second          5,drafts        8,sequences       2,committed        6,steps      1,mean draft    4.000000,mean batch    2.000000,mean committed    3.000000,survived  75%,####\n"
unfolding places_from decimal six_decimals bar mean_text mean_bar share_text padded column mean_column share_column series_sums series_averages series_means series_row
a_second = refl

-- two thirds are rounded up
two_thirds : mean_text 2 3 ≡ spelt "0.666667"
unfolding places_from decimal six_decimals mean_text
two_thirds = refl

-- no sequence counts as one
no_sequence : mean_text 0 0 ≡ spelt "0.000000"
unfolding places_from decimal six_decimals mean_text
no_sequence = refl

-- the half of a percent is rounded up, and less than it down
share_up : share_text 1 200 ≡ spelt "1%"
unfolding places_from decimal share_text
share_up = refl

share_down : share_text 1 201 ≡ spelt "0%"
unfolding places_from decimal share_text
share_down = refl

-- nothing survived, all survived, and nothing was drafted
share_low : share_column (spelt ",survived ") 0 24 ≡ spelt ",survived   0%"
unfolding places_from decimal share_text padded share_column
share_low = refl

share_whole : share_column (spelt ",survived ") 24 24 ≡ spelt ",survived 100%"
unfolding places_from decimal share_text padded share_column
share_whole = refl

share_none : share_column (spelt ",survived ") 0 0 ≡ spelt ",survived    -"
unfolding share_text padded share_column
share_none = refl

-- a number that is longer than its column
longer : padded 3 (decimal 12345) ≡ spelt "12345"
unfolding places_from decimal padded
longer = refl

by_bits : series_bits 12 5 (of_bits binary64 0x4010_0000_0000_0000) (of_bits binary64 0x4000_0000_0000_0000) (of_bits binary64 0x4008_0000_0000_0000) ≡ spelt "12,series,second          5,mean draft 4010000000000000,mean batch 4000000000000000,mean committed 4008000000000000\n"
unfolding places_from decimal sixteen padded column bits_field series_bits of_bits to_bits
by_bits = refl

a_day : day_line 13 (of_bits binary64 0x4009_9999_9999_999a) ≡ spelt "13,day,figure 3.200000,bits 400999999999999a\n"
unfolding places_from decimal sixteen six_decimals figure_millionths figure_text bits_field float_line of_bits to_bits lt add mul round to_unsigned
a_day = refl

a_collect : collect_line 14 (of_bits binary64 0x3f74_7ae1_47ae_147b) ≡ spelt "14,collect,seconds 0.005000,bits 3f747ae147ae147b\n"
unfolding places_from decimal sixteen six_decimals figure_millionths figure_text bits_field float_line of_bits to_bits lt add mul round to_unsigned
a_collect = refl

no_number : figure_text nan ≡ spelt "out of range"
unfolding figure_text of_bits lt
no_number = refl
