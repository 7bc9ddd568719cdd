-- What is told of each answer: the number of the refusal, 0 for none, and two figures; floats by their bits. Assumes nothing.
use Rattle.std.specs.Prelude.{ℕ, ◌+◌, Bool, true, false, cond, List, ltb, get_or, Float, Option, Some, None, Result, Ok, Err}
use Rattle.std.specs.Float.{nan, binary64}
use Rattle.std.specs.Float.Ieee.{to_bits}
use Rattle.acceptance.specs.declared.Sample.{Sample}
use Rattle.batch_ranges.specs.declared.BatchRange.{BatchRange}
use Rattle.refusals.specs.declared.Refusal.{Refusal}
use Rattle.refusals.specs.Refusals.{number_of}
use Rattle.speculative.specs.declared.drafter.DrafterCost.{DrafterCost}
use Rattle.speculative.specs.declared.drafter.DrafterCost.TheVariants.{Fraction, Autoregressive, BlockParallel}
use Rattle.exported.specs.declared.Told.{Told}
use Rattle.exported.specs.Telling.{told}

-- a value or seconds
unfoldable pub float_told : Result Float Refusal → Told
float_told (Ok x) = told 0 (to_bits binary64 x) 0
float_told (Err refusal) = told (number_of refusal) 0 0

-- the commits, and the draws used
unfoldable pub sample_told : Result Sample Refusal → Told
sample_told (Ok sample) = told 0 sample.commits sample.used
sample_told (Err refusal) = told (number_of refusal) 0 0

-- 1 where it is measured, and the seconds
unfoldable pub time_told : Result (Option Float) Refusal → Told
time_told (Ok (Some x)) = told 0 1 (to_bits binary64 x)
time_told (Ok None) = told 0 0 0
time_told (Err refusal) = told (number_of refusal) 0 0

-- 1 for yes
unfoldable pub measured_told : Result Bool Refusal → Told
measured_told (Ok true) = told 0 1 0
measured_told (Ok false) = told 0 0 0
measured_told (Err refusal) = told (number_of refusal) 0 0

-- one more than the first batch, 0 where it is unmeasured, and the last batch
unfoldable pub range_told : Result (Option BatchRange) Refusal → Told
range_told (Ok (Some range)) = told 0 (range.low + 1) range.high
range_told (Ok None) = told 0 0 0
range_told (Err refusal) = told (number_of refusal) 0 0

-- 1 where it is measured, and the batch
unfoldable pub batch_told : Result (Option ℕ) Refusal → Told
batch_told (Ok (Some batch)) = told 0 1 batch
batch_told (Ok None) = told 0 0 0
batch_told (Err refusal) = told (number_of refusal) 0 0

-- the price of a depth, 0 where there is no such depth
unfoldable pub price_told : ℕ → Result (List Float) Refusal → Told
price_told at (Ok prices) = told 0 (cond (ltb at 65) (to_bits binary64 (get_or prices at nan)) 0) 0
price_told at (Err refusal) = told (number_of refusal) 0 0

-- the number of its kind, and its first size
unfoldable pub drafter_told : DrafterCost → Told
drafter_told (Fraction frac) = told 0 0 (to_bits binary64 frac)
drafter_told (Autoregressive dense expert experts k shared) = told 0 1 (to_bits binary64 dense)
drafter_told (BlockParallel params block) = told 0 2 (to_bits binary64 params)
