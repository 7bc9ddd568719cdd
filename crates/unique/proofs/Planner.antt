-- The contracts of `planner` leave one outcome each. Assumes nothing.
use mathlib.Core.Path.{◌≡◌}
use mathlib.Core.List.{List}
use Prim.Native.Nat.{ℕ}
use lib.Ieee.{Float}
use Rattle.speculative.specs.Drafter.{draft_ragged}
use Rattle.std.specs.Prelude.{Option, Result}
use Rattle.refusals.specs.declared.Refusal.{Refusal}
use Rattle.speculative.specs.declared.drafter.Rates.{Rates}
use Rattle.refusals.specs.Refusals.{Judgement}
use Rattle.ledger.specs.Calls.{collected, withdrawn}
use Rattle.settings.specs.declared.Settings.{Settings}
use Rattle.asked_rooms.specs.declared.Ask.{Ask}
use Rattle.judged_plans.specs.declared.Planned.{Planned}
use Rattle.planner.specs.Plan.{Left, planned}
use Rattle.verifies.specs.Accepted.{accepted_of}
use Rattle.unique.specs.Only.{OnlyOne, OnlyTwo, OnlyFour}
use Rattle.unique.proofs.Law.{four_once, once, pair_once}

pub plan_once : (settings : Settings) (ask : Ask) (positions roofline : List Float) (depths batches : List ℕ) (seconds loaded : List Float) (bank_commits : List ℕ) (signals bank_curve draws : List Float) (indices storage drafts commits : List ℕ) → OnlyFour (λ (r : Planned) (storage' : List ℕ) (drafts' : List ℕ) (commits' : List ℕ). record { answer = r; storage = storage'; drafts = drafts'; commits = commits' } ≡ planned settings ask (record { positions = positions; roofline = roofline; depths = depths; batches = batches; seconds = seconds; loaded = loaded; bank_commits_of = bank_commits; signals = signals; bank_curve_of = bank_curve; draws = draws; indices = indices }) storage drafts commits)
plan_once settings ask positions roofline depths batches seconds loaded bank_commits signals bank_curve draws indices storage drafts commits x b c d y b' c' d' p q = four_once (λ (o : Left). o.answer) (λ (o : Left). o.storage) (λ (o : Left). o.drafts) (λ (o : Left). o.commits) p q

pub accepted_once : (draft : ℕ) (commits : Option ℕ) → OnlyOne (λ (r : ℕ). r ≡ accepted_of draft commits)
accepted_once draft commits x y p q = once p q

pub drafter_seconds_once : (settings : Settings) (widths : List ℕ) (rates : Rates) (verify_c : Float) (loaded : List Float) → OnlyOne (λ (r : Result Float Refusal). r ≡ draft_ragged settings.drafter widths rates verify_c loaded)
drafter_seconds_once settings widths rates verify_c loaded x y p q = once p q

pub collect_once : (storage : List ℕ) (a b : ℕ) → OnlyTwo (λ (r : Result Float Refusal) (storage' : List ℕ). (r, storage') ≡ collected storage a b)
collect_once storage a b x left y c p q = pair_once p q

pub withdraw_once : (storage : List ℕ) → OnlyTwo (λ (r : Judgement) (storage' : List ℕ). (r, storage') ≡ withdrawn storage)
withdraw_once storage x b y c p q = pair_once p q
