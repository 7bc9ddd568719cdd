-- Worked examples of the definitions, computed. Assumes nothing.
use Rattle.std.proofs.Common.{◌≡◌, ℕ, List, [], ◌∷◌, true, false, Some, None, Ok, Err, get_or, refl}
use lib.Ieee.{Float, nan, binary64, of_bits, of_int, is_nan, lt, le, neg, add, sub, mul, div}
use Rattle.float.specs.Floats.{f0, f1, f2, infinity, max_of, is_finite}
use Rattle.float.specs.Range.{in_signed_range}
use Rattle.refusals.specs.declared.Refusal.TheVariants.{Size, Input, ShortBuffer}
use Rattle.cost_rows.specs.Table.{Row, zip, of_depth}
use Rattle.cost_rows.specs.Order.{before, earlier, falls, ordered}
use Rattle.cost_rows.specs.Lawful.{in_range, all_in_range, lawful}
use Rattle.step_times.specs.Times.{step_time, time_of}
use Rattle.nearest_row.specs.Lookup.{nearest, closest, closer, nearer}
use Rattle.batch_ranges.specs.Range.{measures, range_of, range_from, widened, highest, max_batch}
use Rattle.step_times.specs.Between.{step_time_frac, asked, between, straight, deepest, deeper, shallowest, shallower}
use Rattle.step_times.specs.Prices.{price_of, each, prices}
use Rattle.nearest_row.specs.Place.{rows_before}
use Rattle.cost_lookup.specs.Entry.{table_judged, delta_judged, step_time_at}

abbrev row : ℕ → ℕ → Float → Row
row g b x = record { depth = g; batch = b; seconds = x }

abbrev three : Float
three = of_bits binary64 0x4008_0000_0000_0000

-- depth 0 at batches 2 and 4, and depth 2 at batch 4, twice
abbrev small : List Row
small = row 0 2 f1 ∷ row 0 4 f2 ∷ row 2 4 three ∷ row 2 4 f1 ∷ []

-- ---- the lookup

-- 3 is as near to 2 as to 4: the smaller
tie_to_smaller : step_time 3 0 small ≡ Some f1
unfolding step_time time_of nearest closest closer nearer of_depth
tie_to_smaller = refl

-- past the last batch the last
past_the_last : step_time 4294967295 0 small ≡ Some f2
unfolding step_time time_of nearest closest closer nearer of_depth
past_the_last = refl

-- of two rows with one batch the earlier
earlier_row : step_time 9 2 small ≡ Some three
unfolding step_time time_of nearest closest closer nearer of_depth
earlier_row = refl

-- no row at depth 1
a_hole : step_time 2 1 small ≡ None
unfolding step_time time_of nearest closest closer nearer of_depth
a_hole = refl

-- two rows go before depth 2 and batch 4
its_place : rows_before 2 4 small ≡ 2
unfolding rows_before before
its_place = refl

-- ---- what is measured
measured_two : measures 2 small ≡ true
unfolding measures
measured_two = refl

measured_one : measures 1 small ≡ false
unfolding measures
measured_one = refl

-- the first and the last batch of a depth
its_range : range_of 0 small ≡ Some (record { low = 2; high = 4 })
unfolding range_of range_from widened of_depth
its_range = refl

its_largest : max_batch 0 small ≡ Some 4
unfolding max_batch highest range_of range_from widened of_depth
its_largest = refl

-- ---- between depths

-- depth 1 lies half way between depths 0 and 2
half_way : step_time_frac 4 f1 small ≡ Some (of_bits binary64 0x4004_0000_0000_0000)
unfolding step_time_frac asked is_finite between straight deepest deeper shallowest shallower nearest closest closer nearer of_depth of_bits lt le of_int add mul div sub
half_way = refl

-- beyond the deepest there is nothing
too_deep : step_time_frac 4 three small ≡ None
unfolding step_time_frac asked is_finite between straight deepest deeper shallowest shallower nearest closest closer nearer of_depth of_bits lt le of_int add mul div sub
too_deep = refl

-- minus zero is zero
minus_zero : step_time_frac 4 (of_bits binary64 0x8000_0000_0000_0000) small ≡ Some f2
unfolding step_time_frac asked is_finite between straight deepest deeper shallowest shallower nearest closest closer nearer of_depth of_bits lt le of_int add mul div sub
minus_zero = refl

-- no NaN
not_a_number : step_time_frac 4 nan small ≡ None
unfolding step_time_frac asked is_finite
not_a_number = refl

-- ---- what is refused

-- equal batches are in order
judged_good : table_judged 4 (0 ∷ 0 ∷ 2 ∷ 2 ∷ []) (2 ∷ 4 ∷ 4 ∷ 4 ∷ []) (f1 ∷ f2 ∷ three ∷ f1 ∷ []) ≡ Ok tt
unfolding table_judged lawful all_in_range in_range ordered falls earlier before zip lt le of_bits
judged_good = refl

-- a batch that falls
judged_bad : table_judged 2 (0 ∷ 0 ∷ []) (4 ∷ 2 ∷ []) (f1 ∷ f1 ∷ []) ≡ Err Input
unfolding table_judged lawful all_in_range in_range ordered falls earlier before zip lt le of_bits
judged_bad = refl

-- no NaN
judged_nan : table_judged 1 (0 ∷ []) (4 ∷ []) (nan ∷ []) ≡ Err Input
unfolding table_judged lawful all_in_range in_range ordered falls earlier before zip lt le of_bits
judged_nan = refl

-- 10 ^ 17 is in range, the next float is not
judged_largest : table_judged 1 (0 ∷ []) (4 ∷ []) (of_bits binary64 0x4376_3457_85d8_a000 ∷ []) ≡ Ok tt
unfolding table_judged lawful all_in_range in_range ordered falls earlier before zip lt le of_bits
judged_largest = refl

judged_larger : table_judged 1 (0 ∷ []) (4 ∷ []) (of_bits binary64 0x4376_3457_85d8_a001 ∷ []) ≡ Err Input
unfolding table_judged lawful all_in_range in_range ordered falls earlier before zip lt le of_bits
judged_larger = refl

-- a column that is too short, and too many rows before that
too_short : table_judged 2 (0 ∷ 0 ∷ []) (4 ∷ []) (f1 ∷ f1 ∷ []) ≡ Err ShortBuffer
unfolding table_judged
too_short = refl

too_many : table_judged 4097 [] [] [] ≡ Err Size
unfolding table_judged
too_many = refl

refused_time : step_time_at 4097 [] [] [] 1 0 ≡ Err Size
unfolding step_time_at table_judged
refused_time = refl

-- an empty table is in range, and measures nothing
empty_time : step_time_at 0 [] [] [] 1 0 ≡ Ok None
unfolding step_time_at table_judged lawful all_in_range ordered zip step_time time_of nearest closest of_depth
empty_time = refl

-- ---- prices

-- 10 ^ 9 below zero is in range, an infinity is not
delta_least : delta_judged (of_bits binary64 0xc1cd_cd65_0000_0000) ≡ Ok tt
unfolding in_signed_range is_nan neg lt of_bits
delta_least = refl

delta_infinite : delta_judged infinity ≡ Err Input
unfolding in_signed_range is_nan neg lt of_bits
delta_infinite = refl

-- 2.0 - 1.0, and no less than a quarter of 2.0
price_less : get_or (prices 4 (neg f1) small) 0 nan ≡ f1
unfolding prices each price_of nearest closest closer nearer of_depth max_of is_nan neg lt of_bits add mul
price_less = refl

price_least : get_or (prices 4 (neg three) small) 0 nan ≡ of_bits binary64 0x3fe0_0000_0000_0000
unfolding prices each price_of nearest closest closer nearer of_depth max_of is_nan neg lt of_bits add mul
price_least = refl

-- a hole
price_hole : get_or (prices 4 f0 small) 1 nan ≡ infinity
unfolding prices each price_of nearest closest closer nearer of_depth
price_hole = refl
