-- An answer as one plain number, and a drafter, its rates and a price mode from plain numbers.
use Rattle.std.specs.Prelude.{ℕ, cond, eqb, Float, Result, Ok, Err}
use Rattle.std.specs.Float.{binary64}
use Rattle.std.specs.Float.Ieee.{of_bits}
use Rattle.speculative.specs.declared.drafter.DrafterCost.{DrafterCost}
use Rattle.speculative.specs.declared.drafter.DrafterCost.TheVariants.{Fraction, Autoregressive, BlockParallel}
use Rattle.speculative.specs.declared.drafter.Rates.{Rates}
use Rattle.refusals.specs.declared.Refusal.{Refusal}

-- by its kind: 0 a fraction, 1 an autoregressive head, any other a block head
unfoldable pub drafter_of : ℕ → Float → Float → ℕ → ℕ → ℕ → DrafterCost
drafter_of kind a b c d e = cond (eqb kind 0) (Fraction a) (cond (eqb kind 1) (Autoregressive a b c d e) (BlockParallel a c))

-- no correction for the length of the contexts
unfoldable pub rates_of : Float → Float → Rates
rates_of peak bw = record { peak = peak; bw = bw; kv_delta = of_bits binary64 0 }

-- the greatest number stands for a refusal
unfoldable pub depth_of : Result ℕ Refusal → ℕ
depth_of (Ok depth) = depth
depth_of (Err refusal) = 4294967295

unfoldable pub weighed_of : Result ℕ Refusal → ℕ
weighed_of (Ok slots) = slots
weighed_of (Err refusal) = 18446744073709551615

unfoldable pub count_figure : Result ℕ Refusal → ℕ
count_figure (Ok count) = count
count_figure (Err refusal) = 18446744073709551615
