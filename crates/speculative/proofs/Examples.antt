-- Worked examples of the definitions, by computation. Assumes nothing.
use mathlib.Core.Path.{◌≡◌, refl}
use mathlib.Core.List.{[], ◌∷◌}
use Prim.Native.Nat.{◌^◌}
use lib.Ieee.{Float, nan, binary64, neg, lt, is_nan, of_bits, of_int, add, mul, div, round}
use Rattle.float.specs.Floats.{f0, f1, f2, whole, max_of, is_clear}
use Rattle.float.specs.Range.{in_range, in_signed_range}
use Rattle.speculative.specs.declared.drafter.Rates.{Rates}
use Rattle.speculative.specs.declared.drafter.DrafterCost.{DrafterCost}
use Rattle.speculative.specs.declared.drafter.DrafterCost.TheVariants.{Fraction, Autoregressive, BlockParallel}
use Rattle.std.specs.Prelude.{Ok, Err}
use Rattle.refusals.specs.declared.Refusal.TheVariants.{Size, Setting, Input, ShortBuffer}
use Rattle.draft_inputs.specs.Inputs.{million, billion, quintillion, largest, still_drafting}
use Rattle.speculative.specs.Drafter.{head_pass, block_seconds, passes_from, drafter_judged, rates_judged, loaded_judged, inputs_judged, cost_judged, drafter_refusal, rates_refusal, draft_seconds, draft_pass, draft_ragged}

abbrev half : Float
half = of_bits binary64 0x3fe0_0000_0000_0000

-- the limits are 10^6, 10^9 and 10^18
limits : (million ≡ whole (10 ^ 6)) × (billion ≡ whole (10 ^ 9)) × (quintillion ≡ whole (10 ^ 18))
unfolding of_bits of_int round
limits = (refl, refl, refl)

abbrev ones : Rates
ones = record { peak = f1; bw = f1; kv_delta = f0 }

-- dense_params 1, expert_params 1, 8 experts, of which 2 are active, and 1 shared
abbrev head : DrafterCost
head = Autoregressive f1 f1 8 2 1

-- one sequence that loads 2: 2 × (1 + 3) either way, three times; two sequences that load 3: 2 × 4 × 2
head_seconds : (draft_seconds head 3 1 ones f0 (f0 ∷ f2 ∷ []) ≡ Ok (whole 24)) × (draft_pass head 2 ones (f0 ∷ f2 ∷ whole 3 ∷ []) ≡ Ok (whole 16)) × (draft_pass head 0 ones (f0 ∷ []) ≡ Ok f0)
unfolding draft_seconds draft_pass cost_judged drafter_judged inputs_judged loaded_judged head_pass max_of in_range is_clear lt is_nan of_bits of_int add mul div round
head_seconds = (refl, refl, refl)

-- widths 2, 0, 1: a pass over two sequences and one over one
ragged_head : draft_ragged head (2 ∷ 0 ∷ 1 ∷ []) ones f0 (f0 ∷ f2 ∷ whole 3 ∷ whole 3 ∷ []) ≡ Ok (whole 24)
unfolding draft_ragged cost_judged drafter_judged inputs_judged loaded_judged passes_from largest still_drafting head_pass max_of in_range is_clear lt is_nan of_bits of_int add mul div round
ragged_head = refl

-- a block of 4 over two sequences: 2 × 1 × 2 × 4, at every depth above 0; a fraction of the verify cost
other_kinds : (draft_seconds (BlockParallel f1 4) 1 2 ones f0 [] ≡ Ok (whole 16)) × (draft_seconds (BlockParallel f1 4) 9 2 ones f0 [] ≡ Ok (whole 16)) × (draft_seconds (BlockParallel f1 4) 0 2 ones f0 [] ≡ Ok f0)
    × (draft_seconds (Fraction half) 3 2 ones f2 [] ≡ Ok (whole 3)) × (draft_ragged (Fraction half) (1 ∷ 3 ∷ []) ones f2 [] ≡ Ok (whole 3)) × (draft_pass (BlockParallel f1 4) 2 ones [] ≡ Ok f0)
unfolding draft_seconds draft_pass draft_ragged cost_judged drafter_judged inputs_judged loaded_judged block_seconds largest max_of in_range is_clear lt is_nan of_bits of_int add mul div round
other_kinds = (refl, refl, refl, refl, refl, refl)

-- 12, 11, 16, then 15: the drafter, the sizes, the rooms, then the values
drafter_refusals : (draft_seconds (Fraction (neg f0)) 65 0 ones nan [] ≡ Err Setting) × (draft_seconds head 65 1 ones nan [] ≡ Err Size) × (draft_seconds head 1 1 ones nan (f0 ∷ []) ≡ Err ShortBuffer)
    × (draft_seconds head 1 1 ones f0 (f0 ∷ nan ∷ []) ≡ Err Input) × (draft_seconds head 1 0 ones (neg f0) (f0 ∷ nan ∷ []) ≡ Err Input) × (draft_ragged (Fraction f0) (65 ∷ []) ones f0 [] ≡ Err Input)
unfolding draft_seconds draft_ragged cost_judged drafter_judged inputs_judged loaded_judged in_range is_clear lt neg of_bits of_int round
drafter_refusals = (refl, refl, refl, refl, refl, refl)

counts : (drafter_refusal (Autoregressive f0 f0 1000000 1000000 1000000) ≡ 0) × (drafter_refusal (Autoregressive f0 f0 1000001 0 0) ≡ 12) × (drafter_refusal (BlockParallel f0 1000001) ≡ 12)
unfolding drafter_judged in_range is_clear lt of_bits
counts = (refl, refl, refl)

rates : (rates_refusal ones ≡ 0) × (rates_refusal (record { peak = f1; bw = f0; kv_delta = f0 }) ≡ 15) × (rates_refusal (record { peak = f1; bw = f1; kv_delta = neg f0 }) ≡ 0) × (rates_refusal (record { peak = f1; bw = f1; kv_delta = nan }) ≡ 15)
unfolding rates_judged in_range in_signed_range is_clear lt is_nan neg of_bits
rates = (refl, refl, refl, refl)
