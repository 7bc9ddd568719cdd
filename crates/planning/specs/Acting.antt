-- What an accepted plan writes, and what has been judged by then. Assumes nothing.
use Rattle.std.specs.Prelude.{ℕ, ◌≤◌, ◌<◌, ◌≡◌, true, false, List, [], length, Float}
use Rattle.numeral.specs.Moment.{second_of}
use Rattle.cost_rows.specs.Table.{zip}
use Rattle.cost_rows.specs.Order.{ordered}
use Rattle.goodput.specs.declared.curve.Source.TheVariants.{Roofline, Table}
use Rattle.switch_settings.specs.Switch.{is_unconstrained}
use Rattle.ledger_rows.specs.declared.layout.Past.{Past}
use Rattle.ledger_rows.specs.declared.layout.Step.{Step}
use Rattle.ledger_workers.specs.Workers.{past_of}
use Rattle.ledger.specs.declared.answer.Decision.{Decision}
use Rattle.ledger.specs.declared.answer.Decision.TheVariants.{Nothing, Put}
use Rattle.ledger.specs.Calls.{step_judged, worker_judged, recorded}
use Rattle.settings.specs.declared.Policy.TheVariants.{GoodputBudget, GatedAggregate}
use Rattle.settings.specs.declared.Settings.{Settings}
use Rattle.settings.specs.Settings.{gamma_in, uses_costs, uses_signals, is_trace}
use Rattle.verifies.specs.Accepted.{total_of, committed_of}
use Rattle.asked_rooms.specs.declared.Ask.{Ask}
use Rattle.asking.specs.Asked.{Lent}
use Rattle.deciding.specs.Deciding.{Decided, decided_by}
use Rattle.deciding.specs.Ready.{Held, looped}
use Rattle.planning.specs.Steps.{curve_of, put_under}

-- ---- what an accepted plan writes: the slots weighed, which it answers, each sequence's draft, and the storage
pub record Acted : Type 0 where
  pub weighed : ℕ
  pub drafts : List ℕ
  pub storage : List ℕ

-- what is decided by the prices in force, the best depth as the loop finds it
abbrev pub decided_priced : Settings → Ask → Lent → Past → Decided
decided_priced s a l past = decided_by (looped s a l.loaded) s a l (curve_of s a l) s.policy past

-- what is added at the second in which a plan's step ends: all drafts, the sequences, and what their rounds' commits accept
abbrev pub step_of : Ask → List ℕ → List ℕ → Step
step_of a drafts commits = record { second = second_of a.end; drafts = total_of drafts; sequences = a.sequences; committed = committed_of drafts commits }

-- the step and the worker's record are in the storage
abbrev pub acted_by : Ask → List ℕ → List ℕ → Decided → Acted
acted_by a commits ws d = record {
  weighed = d.weighed;
  drafts = d.drafts;
  storage = (recorded ws (step_of a d.drafts commits) d.change).1;
}

-- ---- the lists that a step reads; the others are left out
-- all but the commits of the bank and the draws
abbrev pub lent_to_act : List Float → List Float → List ℕ → List ℕ → List Float → List Float → List Float → List Float → List ℕ → Lent
lent_to_act positions roofline depths batches seconds loaded signals bank_curve_of indices = record {
  positions = positions;
  roofline = roofline;
  depths = depths;
  batches = batches;
  seconds = seconds;
  loaded = loaded;
  bank_commits_of = [];
  signals = signals;
  bank_curve_of = bank_curve_of;
  draws = [];
  indices = indices;
}

-- ---- what has been judged
pub record Tabled (a : Ask) (depths batches : List ℕ) (seconds : List Float) : Type 0 where
  pub deep : a.rows ≤ length depths
  pub wide : a.rows ≤ length batches
  pub timed : a.rows ≤ length seconds
  pub ascending : ordered (zip a.rows depths batches seconds) ≡ true

-- of what a decision reads; `past` is what the storage has of the worker
pub record Priced (s : Settings) (a : Ask) (past : Past) (l : Lent) (drafts : List ℕ) : Type 0 where
  pub shallow : s.gamma ≤ 64
  pub few : a.sequences ≤ 1024
  pub room : length drafts ≡ a.sequences
  pub roofed : uses_costs s.policy ≡ true → a.source ≡ Roofline → gamma_in s a.depth < length l.roofline
  pub tabled : uses_costs s.policy ≡ true → a.source ≡ Table → Tabled a l.depths l.batches l.seconds
  pub banked : s.policy ≡ GoodputBudget → is_trace s.model ≡ true → gamma_in s a.depth < length l.bank_curve_of
  pub indexed : uses_signals s.policy ≡ true → is_trace s.model ≡ true → a.sequences ≤ length l.indices
  pub held : s.policy ≡ GatedAggregate → is_unconstrained s.switch ≡ false → past.kind ≡ 2 → Held past

-- and of what the storage takes
pub record Judged (s : Settings) (a : Ask) (l : Lent) (ws drafts : List ℕ) : Type 0 where
  pub priced : Priced s a (past_of ws a.a a.b) l drafts
  pub step : step_judged ws (second_of a.end) ≡ 0
  pub worker : put_under s.switch s.policy ≡ true → worker_judged ws a.a a.b ≡ 0

-- of a change: only a record that is put is refused
abbrev pub change_judged : List ℕ → Decision → ℕ
change_judged ws Nothing = 0
change_judged ws (Put a b width rounds stall) = worker_judged ws a b
