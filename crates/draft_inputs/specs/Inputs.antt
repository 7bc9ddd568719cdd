-- What a draft is asked with: counts and parameters, widths, and the loaded experts. Assumes nothing.
use Rattle.std.specs.Prelude.{ℕ, ◌+◌, max, Bool, true, ◌&&◌, cond, List, [], ◌∷◌, leb, ltb, length, take, Float, Err}
use Rattle.std.specs.Float.{binary64}
use Rattle.std.specs.Float.Ieee.{of_bits}
use Rattle.float.specs.Floats.{f0}
use Rattle.float.specs.Range.{in_range}
use Rattle.refusals.specs.declared.Refusal.TheVariants.{Input, ShortBuffer}
use Rattle.refusals.specs.Refusals.{Judgement, passed_if}
use Rattle.acceptance.specs.Acceptance.{most_gamma}

-- ---- widths that differ

unfoldable pub largest : List ℕ → ℕ
largest [] = 0
largest (w ∷ ws) = max w (largest ws)

-- how many widths are k or more
unfoldable pub still_drafting : List ℕ → ℕ → ℕ
still_drafting [] k = 0
still_drafting (w ∷ ws) k = cond (leb k w) 1 0 + still_drafting ws k

-- ---- what is in range

-- 10^6, 10^9 and 10^18
abbrev pub million : Float
million = of_bits binary64 0x412e_8480_0000_0000

abbrev pub billion : Float
billion = of_bits binary64 0x41cd_cd65_0000_0000

abbrev pub quintillion : Float
quintillion = of_bits binary64 0x43ab_c16d_674e_c800

abbrev pub most_count : ℕ
most_count = 1000000

abbrev pub is_params : Float → Bool
is_params x = in_range f0 quintillion x

abbrev pub is_count : ℕ → Bool
is_count n = leb n most_count

-- each rate and count of the drafter is in range
abbrev pub is_head : Float → Float → ℕ → ℕ → ℕ → Bool
is_head dense expert experts k shared = is_count experts && (is_count k && (is_count shared && (is_params dense && is_params expert)))

abbrev pub is_verify_cost : Float → Bool
is_verify_cost x = in_range f0 billion x

abbrev pub all_widths : List ℕ → Bool
all_widths [] = true
all_widths (w ∷ ws) = leb w most_gamma && all_widths ws

abbrev pub all_loaded : List Float → Bool
all_loaded [] = true
all_loaded (x ∷ xs) = in_range f0 million x && all_loaded xs

-- the loaded experts are read for an autoregressive head alone, as far as the entry of the batch: they are too short where that is missing, and refused as
-- an input where one is out of range
abbrev pub entries_judged : ℕ → List Float → Judgement
entries_judged batch loaded = cond (ltb batch (length loaded)) (passed_if (all_loaded (take (batch + 1) loaded)) Input) (Err ShortBuffer)
