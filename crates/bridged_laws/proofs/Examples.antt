-- The laws at work on small tables and curves: their premises can be met, and where one is left out the two sides can differ. Assumes nothing.
use Prim.Native.Nat.{ℕ}
use mathlib.Core.Path.{◌≡◌, refl, ap, ◌∙◌}
use mathlib.Core.Bool.{true, false}
use mathlib.Core.List.{List, [], ◌∷◌}
use native.Mathlib.Omega.{arith}
use lib.ListN.{get_or, take, replicate}
use lib.Ieee.{Float, nan, binary64, of_bits, of_int, add, sub, mul, div, lt, eq, le, neg, is_nan, to_unsigned, fits}
use Rattle.float.specs.Floats.{whole, f0, f1, infinity, max_of, clamp_to, is_finite, is_clear}
use Rattle.float.specs.Range as ranged
use Rattle.speculative.specs.Drafter.{drafter_judged, inputs_judged, loaded_judged, block_seconds, drafter_seconds}
use Rattle.speculative.specs.declared.drafter.Rates.{Rates}
use Rattle.speculative.specs.declared.drafter.DrafterCost.TheVariants.{BlockParallel}
use Rattle.chains.specs.Scan.{scan}
use Rattle.chains.specs.Tests.{all_of}
use Rattle.chains.specs.Expected.{add_running, sums_with, are_chains}
use Rattle.depths.specs.Goodput.{exceeded, first_best, best_of}
use Rattle.depths.specs.Pricing.{total_cost}
use Rattle.goodput_judges.specs.Refusals.{counts_judged, sizes_judged, aggregate_judged}
use Rattle.cost_rows.specs.Table.{Row, of_depth}
use Rattle.cost_rows.specs.Order.{before, earlier, falls, ordered}
use Rattle.cost_rows.specs.Lawful.{in_range, all_in_range, lawful}
use Rattle.nearest_row.specs.Lookup.{nearer, closer, closest, nearest}
use Rattle.batch_ranges.specs.Range.{measures}
use Rattle.std.specs.Prelude.{Some}
use Rattle.step_times.specs.Prices.{each, price_of, prices}
use Rattle.step_times.specs.Between as looked
use Rattle.step_times.specs.Between.{deeper, deepest, shallower, shallowest, between, asked, step_time_frac}
use Rattle.verify_prices.specs.Price.{mean_width}
use Rattle.verify_prices.specs.Bridge.{is_measured, bridged_cost, straight, lower, upper_of}
use Rattle.verify_prices.specs.declared.PriceMode.TheVariants.{Bridged}
use Rattle.gates.specs.Entry.{depth_of, room_judged, gate_judged, gate_refusal, block_chosen}
use Rattle.bridged_laws.specs.Rows.{every_row, or_infinity}
use Rattle.bridged_laws.specs.Paying.{paying_widths}
use Rattle.bridged_laws.proofs.Lookup.{is_the_lookup}
use Rattle.bridged_laws.proofs.Entered.{gate_never_passes}

f : ℕ → Float
f b = of_bits binary64 b

-- 1 second at depth 0 and 1.25 at another depth, for one sequence
two : ℕ → List Row
two g = record { depth = 0; batch = 1; seconds = f1 } ∷ record { depth = g; batch = 1; seconds = f 0x3ff4_0000_0000_0000 } ∷ []

-- ---- gamma 4, one sequence and 3 tokens, so a mean width of 2: half the way from depth 0 to depth 4, 1.125 seconds
is_lawful : lawful (two 4) ≡ true
unfolding f two lawful all_in_range in_range ordered falls earlier before lt eq le of_bits
is_lawful = refl

are_held : every_row (fits binary64) (two 4) ≡ true
unfolding f two fits of_bits
are_held = refl

is_number : is_nan (mean_width 4 1 (whole 3)) ≡ false
unfolding clamp_to is_nan lt of_bits of_int sub add neg div
is_number = refl

has_four : measures 4 (two 4) ≡ true
unfolding f two measures
has_four = refl

four_above : le (mean_width 4 1 (whole 3)) (whole 4) ≡ true
unfolding clamp_to le lt eq of_bits of_int sub add neg div
four_above = refl

looked_up : step_time_frac 1 (mean_width 4 1 (whole 3)) (two 4) ≡ Some (f 0x3ff2_0000_0000_0000)
unfolding f two step_time_frac asked between looked.straight deepest deeper shallowest shallower nearest closest closer nearer of_depth clamp_to is_finite le lt eq of_bits of_int add sub mul div neg
looked_up = refl

by_law : bridged_cost (take 5 (prices 1 f0 (two 4))) 1 (whole 3) ≡ f 0x3ff2_0000_0000_0000
by_law = is_the_lookup 4 1 (omega arith) (two 4) is_lawful are_held (whole 3) is_number 4 (omega arith) has_four four_above ∙ ap or_infinity looked_up

-- ---- measured at depths 0 and 8 with gamma 4: the lookup finds 1.0625 seconds, but the curve ends at 4, and the bridged price is +infinity
past_gamma_found : step_time_frac 1 (mean_width 4 1 (whole 3)) (two 8) ≡ Some (f 0x3ff1_0000_0000_0000)
unfolding f two step_time_frac asked between looked.straight deepest deeper shallowest shallower nearest closest closer nearer of_depth clamp_to is_finite le lt eq of_bits of_int add sub mul div neg
past_gamma_found = refl

past_gamma_open : bridged_cost (take 5 (prices 1 f0 (two 8))) 1 (whole 3) ≡ infinity
unfolding f two prices each price_of nearest closest closer nearer of_depth bridged_cost straight lower upper_of clamp_to max_of is_finite lt is_nan of_bits of_int add sub mul div neg to_unsigned
past_gamma_open = refl

-- ---- gamma 4, depths 0 and 4 measured, survivals 0.875, 0.75, 0.5, 0.125: the call is not refused, its best depth is 4, and so the law speaks of it
gap : List Float
gap = f1 ∷ infinity ∷ infinity ∷ infinity ∷ f 0x3ff4_0000_0000_0000 ∷ []

falling : List Float
falling = f 0x3fec_0000_0000_0000 ∷ f 0x3fe8_0000_0000_0000 ∷ f 0x3fe0_0000_0000_0000 ∷ f 0x3fc0_0000_0000_0000 ∷ replicate 60 f0

some_rates : Rates
some_rates = record { peak = f1; bw = f1; kv_delta = f0 }

is_accepted : gate_refusal falling (4 ∷ []) gap 4 (BlockParallel f0 1) some_rates [] 1 ≡ 0
unfolding f gap falling some_rates gate_judged room_judged sizes_judged counts_judged drafter_judged aggregate_judged inputs_judged loaded_judged are_chains all_of ranged.in_range ranged.in_signed_range ranged.in_range_or_infinite is_clear lt eq le is_nan of_bits
is_accepted = refl

depth_four : depth_of falling (4 ∷ []) gap 4 (BlockParallel f0 1) some_rates [] ≡ 4
unfolding f gap falling some_rates sums_with add_running exceeded first_best best_of scan total_cost block_seconds max_of clamp_to is_finite of_bits of_int add sub mul div lt neg is_nan
depth_four = refl

first_measured : is_measured (take 5 gap) 0 ≡ true
unfolding f gap is_finite of_bits
first_measured = refl

gate_by_law : block_chosen falling (4 ∷ []) gap 4 (BlockParallel f0 1) some_rates [] Bridged
    ≡ paying_widths (bridged_cost (take 5 gap) 1) falling (depth_of falling (4 ∷ []) gap 4 (BlockParallel f0 1) some_rates [])
    (drafter_seconds (BlockParallel f0 1) (depth_of falling (4 ∷ []) gap 4 (BlockParallel f0 1) some_rates []) 1 some_rates (get_or (take 5 gap) (depth_of falling (4 ∷ []) gap 4 (BlockParallel f0 1) some_rates []) nan) f0) (4 ∷ [])
gate_by_law = gate_never_passes falling (4 ∷ []) gap 4 f0 1 some_rates [] 1 is_accepted first_measured (omega (arith, depth_four))
