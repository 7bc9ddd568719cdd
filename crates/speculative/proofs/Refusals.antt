-- What is refused of a drafter and of rates, and what is known of a draft that is not refused. Assumes nothing.
use mathlib.Core.Path.{◌≡◌, refl}
use mathlib.Core.Bool.{Bool, true, false, ◌&&◌}
use mathlib.Core.List.{List}
use Prim.Native.Nat.{ℕ, ◌≤◌, ◌<◌}
use borrow.Author.Tests.{lt-leb, leb-true}
use lib.Dec.{leb}
use lib.Ieee.{Float, neg}
use Rattle.std.specs.Prelude.{Ok, Err}
use Rattle.float.specs.Range.{in_signed_range}
use Rattle.draft_inputs.specs.Inputs.{billion, most_count, is_params}
use Rattle.refusals.specs.declared.Refusal.TheVariants.{Size, Input}
use Rattle.refusals.specs.Refusals.{Judgement, passed_if, and_then}
use Rattle.refusals.proofs.First.{refused_is_no_pass}
use Rattle.speculative.specs.declared.drafter.Rates.{Rates}
use Rattle.speculative.specs.declared.drafter.DrafterCost.{DrafterCost}
use Rattle.speculative.specs.Drafter.{most_batch, is_streamed, drafter_judged, rates_judged as judged_rates, inputs_judged, cost_judged}

-- ---- the drafter's own rates and counts
pub block_long : (params : Float) (block : ℕ) → most_count < block → false ≡ (leb block most_count && is_params params)
block_long params block h = rw (lt-leb block most_count h)

-- ---- rates
pub rates_judged : (rates : Rates) (a b : Bool) → is_streamed rates ≡ a → in_signed_range (neg billion) billion rates.kv_delta ≡ b → passed_if (a && b) Input ≡ judged_rates rates
unfolding judged_rates
rates_judged rates a b e f = rw (e, f)

-- ---- where nothing is refused the batch is in range
pub cost_sized : (kind : DrafterCost) (batch : ℕ) (rates : Rates) (valued : Bool) (loaded : List Float) (sized : Bool) → cost_judged kind sized batch rates valued loaded ≡ Ok tt → batch ≤ most_batch
unfolding cost_judged
cost_sized kind batch rates valued loaded sized e = go (drafter_judged kind) sized (leb batch most_batch) refl e
  where
    go : (a : Judgement) (s b : Bool) → leb batch most_batch ≡ b → and_then a (and_then (passed_if (s && b) Size) (inputs_judged kind batch rates valued loaded)) ≡ Ok tt → batch ≤ most_batch
    go (Ok tt) true true t f = leb-true batch most_batch t
    go (Ok tt) true false t f = refused_is_no_pass Size f
    go (Ok tt) false b t f = refused_is_no_pass Size f
    go (Err r) s b t f = refused_is_no_pass r f
