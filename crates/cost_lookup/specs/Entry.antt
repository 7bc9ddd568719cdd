-- What the entry points answer of three lent columns: a refusal, or what the rows say. Assumes nothing.
use Rattle.std.specs.Prelude.{ℕ, Bool, min, List, length, from_bits, leb, Float, Option, Result, Ok}
use Rattle.std.specs.Float.{binary64}
use Rattle.std.specs.Float.Ieee.{neg}
use Rattle.float.specs.Range.{in_signed_range}
use Rattle.batch_ranges.specs.declared.BatchRange.{BatchRange}
use Rattle.refusals.specs.declared.Refusal.{Refusal}
use Rattle.refusals.specs.declared.Refusal.TheVariants.{Size, Input, ShortBuffer}
use Rattle.refusals.specs.Refusals.{Judgement, passed_if, and_then, number_in}
use Rattle.cost_rows.specs.Table.{most, zip}
use Rattle.cost_rows.specs.Lawful.{lawful}
use Rattle.step_times.specs.Times.{step_time}
use Rattle.batch_ranges.specs.Range.{measures, range_of, max_batch}
use Rattle.step_times.specs.Between.{step_time_frac}
use Rattle.step_times.specs.Prices.{prices}

-- ---- what is refused

-- the rows that all three columns have
abbrev pub room : List ℕ → List ℕ → List Float → ℕ
room d b s = min (length d) (min (length b) (length s))

-- too many rows, then a column too short, then values out of range or out of order
unfoldable pub table_judged : ℕ → List ℕ → List ℕ → List Float → Judgement
table_judged rows d b s = and_then (passed_if (leb rows most) Size) (and_then (passed_if (leb rows (room d b s)) ShortBuffer) (passed_if (lawful (zip rows d b s)) Input))

-- its number; 0 where there is none
abbrev pub table_refusal : ℕ → List ℕ → List ℕ → List Float → ℕ
table_refusal rows d b s = number_in (table_judged rows d b s)

-- 10 ^ 9
abbrev pub farthest : Float
farthest = from_bits binary64 0x41cd_cd65_0000_0000

-- within 10 ^ 9 of zero, to either side
abbrev pub delta_judged : Float → Judgement
delta_judged kv = passed_if (in_signed_range (neg farthest) farthest kv) Input

-- ---- the entry points' answers
module _ (rows : ℕ) (d b : List ℕ) (s : List Float) where
  unfoldable pub step_time_at : ℕ → ℕ → Result (Option Float) Refusal
  step_time_at batch g = and_then (table_judged rows d b s) (Ok (step_time batch g (zip rows d b s)))

  unfoldable pub step_time_frac_at : ℕ → Float → Result (Option Float) Refusal
  step_time_frac_at batch g = and_then (table_judged rows d b s) (Ok (step_time_frac batch g (zip rows d b s)))

  unfoldable pub has_draft_at : ℕ → Result Bool Refusal
  has_draft_at g = and_then (table_judged rows d b s) (Ok (measures g (zip rows d b s)))

  unfoldable pub batch_range_at : ℕ → Result (Option BatchRange) Refusal
  batch_range_at g = and_then (table_judged rows d b s) (Ok (range_of g (zip rows d b s)))

  unfoldable pub max_batch_at : ℕ → Result (Option ℕ) Refusal
  max_batch_at g = and_then (table_judged rows d b s) (Ok (max_batch g (zip rows d b s)))

  -- the table goes before kv_delta
  unfoldable pub price_curve_at : ℕ → Float → Result (List Float) Refusal
  price_curve_at batch kv = and_then (table_judged rows d b s) (and_then (delta_judged kv) (Ok (prices batch kv (zip rows d b s))))
