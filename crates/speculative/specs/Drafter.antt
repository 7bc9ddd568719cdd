-- What producing the drafts costs, in seconds a step, in the Rust's order of operations; and what is refused.
-- Assumes nothing.
use Rattle.std.specs.Prelude.{ℕ, zero, suc, Bool, true, false, ◌&&◌, cond, List, eqb, leb, ltb, length, get_or, Float, Result, Ok, Err}
use Rattle.std.specs.Float.{nan}
use Rattle.std.specs.Float.Ieee.{neg}
use Rattle.float.specs.Floats.{plus, times, over, f0, f1, f2, whole, max_of}
use Rattle.float.specs.Range.{in_range, in_signed_range}
use Rattle.acceptance.specs.Acceptance.{most_gamma}
pub use Rattle.draft_inputs.specs.Inputs.{million, billion, quintillion, most_count, is_params, is_count, is_head, is_verify_cost, all_widths, all_loaded, entries_judged}
unfoldable pub use Rattle.draft_inputs.specs.Inputs.{largest, still_drafting}
use Rattle.refusals.specs.declared.Refusal.{Refusal}
use Rattle.refusals.specs.declared.Refusal.TheVariants.{Size, Setting, Input}
use Rattle.refusals.specs.Refusals.{Judgement, passed_if, and_then, number_in}
use Rattle.speculative.specs.declared.drafter.Rates.{Rates}
use Rattle.speculative.specs.declared.drafter.DrafterCost.{DrafterCost}
use Rattle.speculative.specs.declared.drafter.DrafterCost.TheVariants.{Fraction, Autoregressive, BlockParallel}

-- ---- one draft of a fixed depth

-- dense parameters and those of so many experts
abbrev pub with_experts : Float → Float → Float → Float
with_experts dense expert experts = plus dense (times experts expert)

-- one pass of an autoregressive head over b sequences, of which `loaded` routed experts are read
unfoldable pub head_pass : Float → Float → ℕ → ℕ → Float → Rates → Float → Float
head_pass dense expert k shared b rates loaded =
    max_of (over (times (times f2 (with_experts dense expert (plus (whole k) (whole shared)))) b) rates.peak)
    (over (times f2 (with_experts dense expert (plus (whole shared) loaded))) rates.bw)

-- one pass over the whole block
unfoldable pub block_seconds : Float → ℕ → Float → Rates → Float
block_seconds params block b rates =
    max_of (over (times (times (times f2 params) b) (whole block)) rates.peak)
    (over (times f2 params) rates.bw)

-- above depth 0
abbrev pub kind_seconds : DrafterCost → Float → Float → Rates → Float → Float → Float
kind_seconds (Fraction frac) g b rates verify loaded = times (times frac g) verify
kind_seconds (Autoregressive dense expert experts k shared) g b rates verify loaded = times g (head_pass dense expert k shared b rates loaded)
kind_seconds (BlockParallel params block) g b rates verify loaded = block_seconds params block b rates

-- at depth 0 every kind costs 0.0
abbrev pub drafter_seconds : DrafterCost → ℕ → ℕ → Rates → Float → Float → Float
drafter_seconds kind gamma batch rates verify loaded =
    cond (eqb gamma 0) f0 (kind_seconds kind (whole gamma) (whole batch) rates verify loaded)

-- the list's entry at the batch, and 0.0 past its end; 0.0 for a kind that reads none
abbrev pub loaded_at : DrafterCost → List Float → ℕ → Float
loaded_at (Fraction frac) l batch = f0
loaded_at (Autoregressive dense expert experts k shared) l batch = cond (ltb batch (length l)) (get_or l batch nan) f0
loaded_at (BlockParallel params block) l batch = f0

-- no drafter is one that costs nothing
abbrev pub absent : DrafterCost
absent = Fraction f0

abbrev pub is_block : DrafterCost → Bool
is_block (Fraction frac) = false
is_block (Autoregressive dense expert experts k shared) = false
is_block (BlockParallel params block) = true

-- ---- widths that differ

-- one pass over a batch: only an autoregressive head makes passes, and none over no sequence
abbrev pub pass_seconds : DrafterCost → ℕ → Rates → Float → Float
pass_seconds (Fraction frac) batch rates loaded = f0
pass_seconds (BlockParallel params block) batch rates loaded = f0
pass_seconds (Autoregressive dense expert experts k shared) batch rates loaded =
    cond (eqb batch 0) f0 (drafter_seconds (Autoregressive dense expert experts k shared) 1 batch rates f0 loaded)

module _ (kind : DrafterCost) (widths : List ℕ) (rates : Rates) (loaded : List Float) where
  -- the pass of depth k, over the sequences that still draft there
  abbrev pub pass_at : ℕ → Float
  pass_at k = let n = still_drafting widths k in pass_seconds kind n rates (loaded_at kind loaded n)

  -- the passes of depths 1 to d, added in order from 0.0
  unfoldable pub passes_from : ℕ → Float
  passes_from zero = f0
  passes_from (suc d) = plus (passes_from d) (pass_at (suc d))

-- a block head drafts one block for all the sequences
abbrev pub kind_ragged : DrafterCost → List ℕ → Rates → Float → List Float → Float
kind_ragged (Fraction frac) widths rates verify loaded = times (times frac (whole (largest widths))) verify
kind_ragged (Autoregressive dense expert experts k shared) widths rates verify loaded =
    passes_from (Autoregressive dense expert experts k shared) widths rates loaded (largest widths)
kind_ragged (BlockParallel params block) widths rates verify loaded = block_seconds params block (whole (length widths)) rates

-- no draft at all costs 0.0
abbrev pub ragged_seconds : DrafterCost → List ℕ → Rates → Float → List Float → Float
ragged_seconds kind widths rates verify loaded = cond (eqb (largest widths) 0) f0 (kind_ragged kind widths rates verify loaded)

-- ---- what is refused

abbrev pub most_batch : ℕ
most_batch = 1024

abbrev pub is_drafter : DrafterCost → Bool
is_drafter (Fraction frac) = in_range f0 million frac
is_drafter (Autoregressive dense expert experts k shared) = is_head dense expert experts k shared
is_drafter (BlockParallel params block) = is_count block && is_params params

unfoldable pub drafter_judged : DrafterCost → Judgement
drafter_judged kind = passed_if (is_drafter kind) Setting

-- the rates that a drafter streams at
abbrev pub is_streamed : Rates → Bool
is_streamed rates = in_range f1 quintillion rates.peak && in_range f1 quintillion rates.bw

unfoldable pub rates_judged : Rates → Judgement
rates_judged rates = passed_if (is_streamed rates && in_signed_range (neg billion) billion rates.kv_delta) Input

unfoldable pub loaded_judged : DrafterCost → ℕ → List Float → Judgement
loaded_judged (Fraction frac) batch loaded = Ok tt
loaded_judged (Autoregressive dense expert experts k shared) batch loaded = entries_judged batch loaded
loaded_judged (BlockParallel params block) batch loaded = Ok tt

-- the loaded experts, then the rates; `valued` says whether the call's other values are in range
unfoldable pub inputs_judged : DrafterCost → ℕ → Rates → Bool → List Float → Judgement
inputs_judged kind batch rates valued loaded = and_then (loaded_judged kind batch loaded) (passed_if (is_streamed rates && valued) Input)

-- the drafter, the sizes, then the inputs; `sized` says whether the call's other sizes are in range
unfoldable pub cost_judged : DrafterCost → Bool → ℕ → Rates → Bool → List Float → Judgement
cost_judged kind sized batch rates valued loaded =
    and_then (drafter_judged kind) (and_then (passed_if (sized && leb batch most_batch) Size) (inputs_judged kind batch rates valued loaded))

-- ---- their numbers, 0 where they pass
abbrev pub drafter_refusal : DrafterCost → ℕ
drafter_refusal kind = number_in (drafter_judged kind)

abbrev pub rates_refusal : Rates → ℕ
rates_refusal rates = number_in (rates_judged rates)

abbrev pub loaded_refusal : DrafterCost → ℕ → List Float → ℕ
loaded_refusal kind batch loaded = number_in (loaded_judged kind batch loaded)

-- ---- the answers

-- a draft of gamma over the batch
unfoldable pub draft_seconds : DrafterCost → ℕ → ℕ → Rates → Float → List Float → Result Float Refusal
draft_seconds kind gamma batch rates verify loaded =
    and_then (cost_judged kind (leb gamma most_gamma) batch rates (is_verify_cost verify) loaded)
    (Ok (drafter_seconds kind gamma batch rates verify (loaded_at kind loaded batch)))

-- one pass over the batch
unfoldable pub draft_pass : DrafterCost → ℕ → Rates → List Float → Result Float Refusal
draft_pass kind batch rates loaded =
    and_then (cost_judged kind true batch rates true loaded) (Ok (pass_seconds kind batch rates (loaded_at kind loaded batch)))

-- a draft of each width
unfoldable pub draft_ragged : DrafterCost → List ℕ → Rates → Float → List Float → Result Float Refusal
draft_ragged kind widths rates verify loaded =
    and_then (cost_judged kind true (length widths) rates (all_widths widths && is_verify_cost verify) loaded)
    (Ok (ragged_seconds kind widths rates verify loaded))

-- the seconds of an answer
abbrev pub seconds_of : Result Float Refusal → Float
seconds_of (Ok x) = x
seconds_of (Err refusal) = f0
