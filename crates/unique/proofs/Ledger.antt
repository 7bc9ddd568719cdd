-- The contracts of `ledger` leave one outcome each. Assumes nothing.
use mathlib.Core.List.{List}
use mathlib.Core.Path.{◌≡◌}
use Prim.Native.Nat.{ℕ}
use lib.Ieee.{Float}
use Rattle.ledger_rows.specs.declared.layout.Step.{Step}
use Rattle.ledger.specs.Calls.{collected, count_of, day_figure, emptied, recorded, series_read, step_allowed, withdrawn, worker_allowed, worker_of}
use Rattle.ledger.specs.declared.answer.Decision.{Decision}
use Rattle.ledger.specs.declared.answer.Held.{Held}
use Rattle.refusals.specs.declared.Refusal.{Refusal}
use Rattle.refusals.specs.Refusals.{Judgement}
use Rattle.std.specs.Prelude.{Result, Option}
use Rattle.ledger_rows.specs.Layout.{available, seconds_held, workers_held}
use Rattle.unique.specs.Only.{OnlyFive, OnlyOne, OnlyTwo}
use Rattle.unique.proofs.Law.{five_once, once, pair_once}

pub fresh_once : (storage : List ℕ) → OnlyTwo (λ (r : Judgement) (storage' : List ℕ). (r, storage') ≡ emptied storage)
fresh_once storage x b y c p q = pair_once p q

pub judge_step_once : (storage : List ℕ) (second : ℕ) → OnlyOne (λ (r : Judgement). r ≡ step_allowed storage second)
judge_step_once storage second x y p q = once p q

pub judge_worker_once : (storage : List ℕ) (a b : ℕ) → OnlyOne (λ (r : Judgement). r ≡ worker_allowed storage a b)
judge_worker_once storage a b x y p q = once p q

pub record_once : (storage : List ℕ) (step : Step) (change : Decision) → OnlyTwo (λ (r : Judgement) (storage' : List ℕ). (r, storage') ≡ recorded storage step change)
record_once storage step change x b y c p q = pair_once p q

pub collect_once : (storage : List ℕ) (a b : ℕ) → OnlyTwo (λ (r : Result Float Refusal) (storage' : List ℕ). (r, storage') ≡ collected storage a b)
collect_once storage a b x left y c p q = pair_once p q

pub withdraw_once : (storage : List ℕ) → OnlyTwo (λ (r : Judgement) (storage' : List ℕ). (r, storage') ≡ withdrawn storage)
withdraw_once storage x b y c p q = pair_once p q

pub available_once : (storage : List ℕ) → OnlyOne (λ (r : Result ℕ Refusal). r ≡ count_of storage (available storage))
available_once storage x y p q = once p q

pub seconds_held_once : (storage : List ℕ) → OnlyOne (λ (r : Result ℕ Refusal). r ≡ count_of storage (seconds_held storage))
seconds_held_once storage x y p q = once p q

pub workers_held_once : (storage : List ℕ) → OnlyOne (λ (r : Result ℕ Refusal). r ≡ count_of storage (workers_held storage))
workers_held_once storage x y p q = once p q

pub worker_once : (storage : List ℕ) (a b : ℕ) → OnlyOne (λ (r : Result (Option Held) Refusal). r ≡ worker_of storage a b)
worker_once storage a b x y p q = once p q

pub series_once : (storage seconds : List ℕ) (mean_drafts mean_batches mean_committed : List Float) → OnlyFive (λ (r : Result ℕ Refusal) (seconds' : List ℕ) (mean_drafts' : List Float) (mean_batches' : List Float) (mean_committed' : List Float). (r, seconds', mean_drafts', mean_batches', mean_committed') ≡ series_read storage seconds mean_drafts mean_batches mean_committed)
series_once storage seconds mean_drafts mean_batches mean_committed x b c d e y b' c' d' e' p q = five_once p q

pub day_figure_once : (storage : List ℕ) → OnlyOne (λ (r : Result Float Refusal). r ≡ day_figure storage)
day_figure_once storage x y p q = once p q
