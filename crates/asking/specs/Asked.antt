-- What a plan is lent, and what is refused of it before anything is drawn. Assumes nothing.
use Rattle.std.specs.Prelude.{ℕ, Bool, true, ◌&&◌, cond, List, length, is_ok, Float}
use Rattle.refusals.specs.declared.Refusal.TheVariants.{Input}
use Rattle.refusals.specs.Refusals.{Judgement, passed_if, and_then, number_in}
use Rattle.speculative.specs.Drafter.{rates_judged}
use Rattle.cost_rows.specs.Table.{Row, zip}
use Rattle.ledger_rows.specs.declared.layout.Past.{Past}
use Rattle.ledger_workers.specs.Workers.{past_of}
use Rattle.settings.specs.declared.Settings.{Settings}
use Rattle.settings.specs.Settings.{gamma_in, uses_costs}
use Rattle.asked_rooms.specs.declared.Ask.{Ask}
use Rattle.asked_rooms.specs.declared.Lengths.{Lengths}
use Rattle.asked_rooms.specs.Sizes.{sizes_judged}
use Rattle.asked_rooms.specs.Rooms.{rooms_judged}
use Rattle.asking.specs.declared.Inputs.{Inputs}
use Rattle.asking.specs.Values.{prices_valued, loaded_valued, policy_valued}

-- the lists that are lent, as they stand; `positions` stand beside the settings
pub record Lent : Type 0 where
  pub positions : List Float
  pub roofline : List Float
  pub depths : List ℕ
  pub batches : List ℕ
  pub seconds : List Float
  pub loaded : List Float
  pub bank_commits_of : List ℕ
  pub signals : List Float
  pub bank_curve_of : List Float
  pub draws : List Float
  pub indices : List ℕ

abbrev pub lists_of : Inputs → Lent
lists_of i = record {
  positions = i.positions.now;
  roofline = i.roofline.now;
  depths = i.depths.now;
  batches = i.batches.now;
  seconds = i.seconds.now;
  loaded = i.loaded.now;
  bank_commits_of = i.bank_commits.now;
  signals = i.signals.now;
  bank_curve_of = i.bank_curve.now;
  draws = i.draws.now;
  indices = i.indices.now;
}

abbrev pub table_of : Ask → Lent → List Row
table_of a l = zip a.rows l.depths l.batches l.seconds

-- how long all that is lent is
abbrev pub lengths_of : Lent → ℕ → ℕ → ℕ → Lengths
lengths_of l storage drafts commits = record {
  storage = storage;
  drafts = drafts;
  commits = commits;
  roofline = length l.roofline;
  depths = length l.depths;
  batches = length l.batches;
  seconds = length l.seconds;
  loaded = length l.loaded;
  bank_commits = length l.bank_commits_of;
  signals = length l.signals;
  bank_curve = length l.bank_curve_of;
}

-- the rates, the prices and the loaded experts, which Fixed does not look at
abbrev pub costs_valued : Settings → Ask → Lent → Bool
costs_valued s a l =
    cond (uses_costs s.policy)
    (is_ok (rates_judged a.rates) && (prices_valued a.source (gamma_in s a.depth) l.roofline (table_of a l) && loaded_valued s.drafter a.sequences l.loaded))
    true

-- `past` is what the storage has of the worker
unfoldable pub values_judged : Settings → Ask → Lent → Past → Judgement
values_judged s a l past =
    passed_if (costs_valued s a l && policy_valued s.policy s.model s.switch (gamma_in s a.depth) l.bank_curve_of past) Input

-- the sizes, then the rooms, then the values; `ws` is the storage, and there is room for so many drafts and commits
unfoldable pub asked_judged : Settings → Ask → Lent → List ℕ → ℕ → ℕ → Judgement
asked_judged s a l ws drafts commits =
    and_then (sizes_judged s.model s.gamma a.sequences a.depth a.rounds a.source a.rows)
    (and_then (rooms_judged s a (lengths_of l (length ws) drafts commits)) (values_judged s a l (past_of ws a.a a.b)))

-- ---- their numbers, 0 where they pass
abbrev pub values_refusal : Settings → Ask → Lent → Past → ℕ
values_refusal s a l past = number_in (values_judged s a l past)

abbrev pub asked_refusal : Settings → Ask → Lent → List ℕ → ℕ → ℕ → ℕ
asked_refusal s a l ws drafts commits = number_in (asked_judged s a l ws drafts commits)
