-- The drafter's answers: refused as the judge says, or the seconds. Assumes nothing.
use mathlib.Core.Path.{◌≡◌, refl}
use mathlib.Core.Bool.{Bool, true}
use mathlib.Core.List.{List}
use Prim.Native.Nat.{ℕ, ◌≤◌}
use lib.ListN.{length}
use lib.Ieee.{Float}
use Rattle.std.specs.Prelude.{Ok, Err}
use Rattle.refusals.specs.Refusals.{Judgement, and_then, number_in}
use Rattle.speculative.specs.declared.drafter.Rates.{Rates}
use Rattle.speculative.specs.declared.drafter.DrafterCost.{DrafterCost}
use Rattle.speculative.specs.Drafter.{most_batch, cost_judged}
use Rattle.speculative.proofs.Refusals.{cost_sized}

-- widths that are not refused are no more than a batch may have
pub ragged_sized : (kind : DrafterCost) (widths : List ℕ) (rates : Rates) (loaded : List Float) (valued : Bool) → cost_judged kind true (length widths) rates valued loaded ≡ Ok tt → length widths ≤ most_batch
ragged_sized kind widths rates loaded valued e = cost_sized kind (length widths) rates valued loaded true e

-- the answer's refusal is the judge's
pub time_refusal_lem : (judgement : Judgement) (x : Float) → number_in (and_then judgement (Ok x)) ≡ number_in judgement
time_refusal_lem (Ok tt) x = refl
time_refusal_lem (Err refusal) x = refl
