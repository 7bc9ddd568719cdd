-- The contracts of `speculative` leave one outcome each. Assumes nothing.
use mathlib.Core.Bool.{Bool}
use mathlib.Core.List.{List}
use mathlib.Core.Path.{◌≡◌}
use Prim.Native.Nat.{ℕ}
use lib.Ieee.{Float}
use Rattle.std.specs.Prelude.{Result}
use Rattle.refusals.specs.declared.Refusal.{Refusal}
use Rattle.refusals.specs.Refusals.{Judgement}
use Rattle.speculative.specs.Drafter.{absent, draft_pass, draft_ragged, draft_seconds, drafter_judged, is_block, rates_judged}
use Rattle.speculative.specs.declared.drafter.DrafterCost.{DrafterCost}
use Rattle.speculative.specs.declared.drafter.Rates.{Rates}
use Rattle.unique.specs.Only.{OnlyOne}
use Rattle.unique.proofs.Law.{once}

pub drafter_judge_drafter_once : (drafter : DrafterCost) → OnlyOne (λ (r : Judgement). r ≡ drafter_judged drafter)
drafter_judge_drafter_once drafter x y p q = once p q

pub drafter_judge_rates_once : (rates : Rates) → OnlyOne (λ (r : Judgement). r ≡ rates_judged rates)
drafter_judge_rates_once rates x y p q = once p q

pub drafter_seconds_once : (drafter : DrafterCost) (gamma batch : ℕ) (rates : Rates) (verify_c : Float) (loaded : List Float) → OnlyOne (λ (r : Result Float Refusal). r ≡ draft_seconds drafter gamma batch rates verify_c loaded)
drafter_seconds_once drafter gamma batch rates verify_c loaded x y p q = once p q

pub drafter_pass_seconds_once : (drafter : DrafterCost) (batch : ℕ) (rates : Rates) (loaded : List Float) → OnlyOne (λ (r : Result Float Refusal). r ≡ draft_pass drafter batch rates loaded)
drafter_pass_seconds_once drafter batch rates loaded x y p q = once p q

pub drafter_ragged_seconds_once : (drafter : DrafterCost) (widths : List ℕ) (rates : Rates) (verify_c : Float) (loaded : List Float) → OnlyOne (λ (r : Result Float Refusal). r ≡ draft_ragged drafter widths rates verify_c loaded)
drafter_ragged_seconds_once drafter widths rates verify_c loaded x y p q = once p q

pub drafter_no_drafter_once : OnlyOne (λ (r : DrafterCost). r ≡ absent)
drafter_no_drafter_once x y p q = once p q

pub drafter_is_block_once : (drafter : DrafterCost) → OnlyOne (λ (r : Bool). r ≡ is_block drafter)
drafter_is_block_once drafter x y p q = once p q
