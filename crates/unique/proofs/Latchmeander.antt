-- The contracts of `latchmeander` leave one outcome each. Assumes nothing.
use mathlib.Core.Bool.{Bool}
use mathlib.Core.List.{List}
use mathlib.Core.Path.{◌≡◌}
use Prim.Native.Nat.{ℕ}
use lib.Ieee.{Float}
use Rattle.bank.specs.Read.{bank_read}
use Rattle.host.specs.Answers.{answer_of, count_of, figure_of, found_of}
use Rattle.host.specs.Library.{version}
use Rattle.host.specs.declared.answers.HostCount.{HostCount}
use Rattle.host.specs.declared.answers.HostFigure.{HostFigure}
use Rattle.host.specs.declared.answers.HostPlan.{HostPlan}
use Rattle.host.specs.declared.answers.HostRead.{HostRead}
use Rattle.host.specs.declared.answers.HostSettling.{HostSettling}
use Rattle.host.specs.declared.answers.HostWorker.{HostWorker}
use Rattle.host.specs.declared.asked.HostAsk.{HostAsk}
use Rattle.host.specs.declared.asked.HostRates.{HostRates}
use Rattle.host.specs.declared.asked.HostSettings.{HostSettings}
use Rattle.latchmeander.specs.Calls.{accepted_called, bank_handed, on_first, plan_called, seconds_called, series_handed, settles_called, table_handed}
use Rattle.ledger.specs.Calls.{collected, count_of as counted, day_figure, emptied, series_read, withdrawn, worker_of}
use Rattle.ledger_rows.specs.Layout.{available, room, seconds_held, workers_held}
use Rattle.measured.specs.Fill.{table_read}
use Rattle.unique.specs.Only.{OnlyFive, OnlyFour, OnlyOne, OnlyTwo}
use Rattle.unique.proofs.Law.{five_once, once, pair_once, tuple_once}

pub latchmeander_version_once : OnlyOne (λ (r : ℕ). r ≡ version)
latchmeander_version_once x y p q = once p q

pub latchmeander_room_once : OnlyOne (λ (r : ℕ). r ≡ room)
latchmeander_room_once x y p q = once p q

pub latchmeander_fresh_once : (storage : List ℕ) → OnlyTwo (λ (r : ℕ) (storage' : List ℕ). (r, storage') ≡ on_first answer_of (emptied storage))
latchmeander_fresh_once storage x b y c p q = pair_once p q

pub latchmeander_collect_once : (storage : List ℕ) (a b : ℕ) → OnlyTwo (λ (r : HostFigure) (storage' : List ℕ). (r, storage') ≡ on_first figure_of (collected storage a b))
latchmeander_collect_once storage a b x left y c p q = pair_once p q

pub latchmeander_withdraw_once : (storage : List ℕ) → OnlyTwo (λ (r : ℕ) (storage' : List ℕ). (r, storage') ≡ on_first answer_of (withdrawn storage))
latchmeander_withdraw_once storage x b y c p q = pair_once p q

pub latchmeander_available_once : (storage : List ℕ) → OnlyOne (λ (r : HostCount). r ≡ count_of (counted storage (available storage)))
latchmeander_available_once storage x y p q = once p q

pub latchmeander_seconds_held_once : (storage : List ℕ) → OnlyOne (λ (r : HostCount). r ≡ count_of (counted storage (seconds_held storage)))
latchmeander_seconds_held_once storage x y p q = once p q

pub latchmeander_workers_held_once : (storage : List ℕ) → OnlyOne (λ (r : HostCount). r ≡ count_of (counted storage (workers_held storage)))
latchmeander_workers_held_once storage x y p q = once p q

pub latchmeander_series_once : (storage seconds : List ℕ) (mean_drafts mean_batches mean_committed : List Float) → OnlyFive (λ (r : HostCount) (seconds' : List ℕ) (mean_drafts' : List Float) (mean_batches' : List Float) (mean_committed' : List Float). (r, seconds', mean_drafts', mean_batches', mean_committed') ≡ series_handed (series_read storage seconds mean_drafts mean_batches mean_committed))
latchmeander_series_once storage seconds mean_drafts mean_batches mean_committed x b c d e y b' c' d' e' p q = five_once p q

pub latchmeander_day_figure_once : (storage : List ℕ) → OnlyOne (λ (r : HostFigure). r ≡ figure_of (day_figure storage))
latchmeander_day_figure_once storage x y p q = once p q

pub latchmeander_worker_once : (storage : List ℕ) (a b : ℕ) → OnlyOne (λ (r : HostWorker). r ≡ found_of (worker_of storage a b))
latchmeander_worker_once storage a b x y p q = once p q

pub latchmeander_plan_once : (settings : HostSettings) (ask : HostAsk) (positions roofline : List Float) (depths batches : List ℕ) (seconds loaded : List Float) (bank_commits : List ℕ) (signals bank_curve draws : List Float) (indices storage drafts commits : List ℕ) → OnlyFour (λ (r : HostPlan) (storage' : List ℕ) (drafts' : List ℕ) (commits' : List ℕ). (r, storage', drafts', commits') ≡ plan_called settings ask (record { positions = positions; roofline = roofline; depths = depths; batches = batches; seconds = seconds; loaded = loaded; bank_commits_of = bank_commits; signals = signals; bank_curve_of = bank_curve; draws = draws; indices = indices }) storage drafts commits)
latchmeander_plan_once settings ask positions roofline depths batches seconds loaded bank_commits signals bank_curve draws indices storage drafts commits x b c d y b' c' d' p q = tuple_once p q

pub latchmeander_settles_once : (settings : HostSettings) (ask : HostAsk) (roofline : List Float) (depths batches : List ℕ) (seconds : List Float) (width target : ℕ) (widths : List ℕ) → OnlyTwo (λ (r : HostSettling) (widths' : List ℕ). (r, widths') ≡ settles_called settings ask (record { roofline = roofline; depths = depths; batches = batches; seconds = seconds }) width target widths)
latchmeander_settles_once settings ask roofline depths batches seconds width target widths x b y c p q = pair_once p q

pub latchmeander_drafter_seconds_once : (settings : HostSettings) (rates : HostRates) (verify_c : Float) (widths : List ℕ) (loaded : List Float) → OnlyOne (λ (r : HostFigure). r ≡ seconds_called settings rates verify_c widths loaded)
latchmeander_drafter_seconds_once settings rates verify_c widths loaded x y p q = once p q

pub latchmeander_accepted_once : (draft : ℕ) (planned : Bool) (commits : ℕ) → OnlyOne (λ (r : ℕ). r ≡ accepted_called draft planned commits)
latchmeander_accepted_once draft planned commits x y p q = once p q

pub latchmeander_bank_read_once : (text commits : List ℕ) (signals curve : List Float) → OnlyFour (λ (r : HostRead) (commits' : List ℕ) (signals' : List Float) (curve' : List Float). (r, commits', signals', curve') ≡ bank_handed (bank_read text commits signals curve))
latchmeander_bank_read_once text commits signals curve x b c d y b' c' d' p q = tuple_once p q

pub latchmeander_table_read_once : (text depths batches : List ℕ) (seconds : List Float) → OnlyFour (λ (r : HostRead) (depths' : List ℕ) (batches' : List ℕ) (seconds' : List Float). (r, depths', batches', seconds') ≡ table_handed (table_read text depths batches seconds))
latchmeander_table_read_once text depths batches seconds x b c d y b' c' d' p q = tuple_once p q
