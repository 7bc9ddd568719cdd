-- The contracts of `cost_lookup` leave one outcome each. Assumes nothing.
use mathlib.Core.Bool.{Bool}
use mathlib.Core.List.{List}
use mathlib.Core.Path.{◌≡◌}
use Prim.Native.Nat.{ℕ}
use lib.Ieee.{Float}
use Rattle.std.specs.Prelude.{Option, Result}
use Rattle.batch_ranges.specs.declared.BatchRange.{BatchRange}
use Rattle.cost_lookup.specs.Entry.{batch_range_at, has_draft_at, max_batch_at, price_curve_at, step_time_at, step_time_frac_at, table_judged}
use Rattle.refusals.specs.declared.Refusal.{Refusal}
use Rattle.refusals.specs.Refusals.{Judgement}
use Rattle.unique.specs.Only.{OnlyOne}
use Rattle.unique.proofs.Law.{once}

pub judge_table_once : (depths batches : List ℕ) (seconds : List Float) (rows : ℕ) → OnlyOne (λ (r : Judgement). r ≡ table_judged rows depths batches seconds)
judge_table_once depths batches seconds rows x y p q = once p q

pub step_time_once : (depths batches : List ℕ) (seconds : List Float) (rows batch depth : ℕ) → OnlyOne (λ (r : Result (Option Float) Refusal). r ≡ step_time_at rows depths batches seconds batch depth)
step_time_once depths batches seconds rows batch depth x y p q = once p q

pub has_draft_once : (depths batches : List ℕ) (seconds : List Float) (rows depth : ℕ) → OnlyOne (λ (r : Result Bool Refusal). r ≡ has_draft_at rows depths batches seconds depth)
has_draft_once depths batches seconds rows depth x y p q = once p q

pub step_time_frac_once : (depths batches : List ℕ) (seconds : List Float) (rows batch : ℕ) (g : Float) → OnlyOne (λ (r : Result (Option Float) Refusal). r ≡ step_time_frac_at rows depths batches seconds batch g)
step_time_frac_once depths batches seconds rows batch g x y p q = once p q

pub batch_range_once : (depths batches : List ℕ) (seconds : List Float) (rows depth : ℕ) → OnlyOne (λ (r : Result (Option BatchRange) Refusal). r ≡ batch_range_at rows depths batches seconds depth)
batch_range_once depths batches seconds rows depth x y p q = once p q

pub max_batch_once : (depths batches : List ℕ) (seconds : List Float) (rows depth : ℕ) → OnlyOne (λ (r : Result (Option ℕ) Refusal). r ≡ max_batch_at rows depths batches seconds depth)
max_batch_once depths batches seconds rows depth x y p q = once p q

pub price_curve_once : (depths batches : List ℕ) (seconds : List Float) (rows batch : ℕ) (kv_delta : Float) → OnlyOne (λ (r : Result (List Float) Refusal). r ≡ price_curve_at rows depths batches seconds batch kv_delta)
price_curve_once depths batches seconds rows batch kv_delta x y p q = once p q
