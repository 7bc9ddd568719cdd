-- The expected acceptance of a bank at a draft depth.
use Rattle.std.specs.Prelude.{ℕ, min, cond, ◌&&◌, List, leb, ltb, Float, length, get_or, Result, Ok, Err}
use Rattle.std.specs.Float.{nan, binary64}
use Rattle.std.specs.Float.Ieee.{of_bits}
use Rattle.float.specs.Floats.{f0}
use Rattle.float.specs.Range.{in_range}
use Rattle.refusals.specs.declared.Refusal.{Refusal}
use Rattle.refusals.specs.declared.Refusal.TheVariants.{Size, Input, ShortBuffer}
use Rattle.refusals.specs.Refusals.{Judgement, passed_if, and_then, number_in}
use Rattle.bank_judge.specs.Judge.{most_depth}

-- what a lookup answers: the value, or why there is none
abbrev pub Expected : Type 0
Expected = Result Float Refusal

-- 64.0, the most that an entry of a curve can be
abbrev pub most_accepted : Float
most_accepted = of_bits binary64 0x4050_0000_0000_0000

-- a bank's depth is 1 to 64, and gamma at most 64
unfoldable pub sizes_judged : ℕ → ℕ → Judgement
sizes_judged depth gamma = passed_if (ltb 0 depth && leb depth most_depth && leb gamma most_depth) Size

-- the entry that is asked for, if it is one
unfoldable pub entry_of : Float → Expected
entry_of x = cond (in_range f0 most_accepted x) (Ok x) (Err Input)

-- the curve's entry at gamma, or at the depth where gamma is above it, unless the curve ends before it
unfoldable pub curve_entry : List Float → ℕ → Expected
curve_entry curve g = cond (ltb g (length curve)) (entry_of (get_or curve g nan)) (Err ShortBuffer)

unfoldable pub expected_accepted : List Float → ℕ → ℕ → Expected
expected_accepted curve depth gamma = and_then (sizes_judged depth gamma) (curve_entry curve (min gamma depth))

-- the refusal number of each answer; 0 where there is a value
abbrev pub expected_refusal : Expected → ℕ
expected_refusal answer = number_in answer
