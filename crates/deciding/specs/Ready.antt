-- What is decided where the best depth is the one that the loop ends with, and what the caller has judged of what it lends. Assumes nothing.
use Rattle.std.specs.Prelude.{ℕ, ◌+◌, ◌≤◌, ◌<◌, ◌≡◌, true, false, List, [], length, Float}
use Rattle.speculative.specs.Drafter.{loaded_at}
use Rattle.depths.specs.Pricing.{depth_over}
use Rattle.switch_settings.specs.Switch.{is_unconstrained}
use Rattle.ledger_rows.specs.declared.layout.Past.{Past}
use Rattle.settings.specs.declared.Policy.TheVariants.{GoodputBudget, GatedAggregate}
use Rattle.settings.specs.declared.Settings.{Settings}
use Rattle.settings.specs.Settings.{gamma_in, uses_costs, uses_signals, is_trace}
use Rattle.asked_rooms.specs.declared.Ask.{Ask}
use Rattle.asking.specs.Asked.{Lent}

-- the best depth as the loop finds it
abbrev pub looped : Settings → Ask → List Float → List Float → List Float → ℕ
looped s a loaded es curve = depth_over s.drafter a.sequences a.rates (loaded_at s.drafter loaded a.sequences) es curve

-- the lists that a decision reads; the others are left out
abbrev pub lent_of : List Float → List Float → List Float → List Float → List ℕ → Lent
lent_of positions loaded signals bank_curve_of indices = record {
  positions = positions;
  roofline = [];
  depths = [];
  batches = [];
  seconds = [];
  loaded = loaded;
  bank_commits_of = [];
  signals = signals;
  bank_curve_of = bank_curve_of;
  draws = [];
  indices = indices;
}

-- a worker's record that switching can go on from
pub record Held (past : Past) : Type 0 where
  pub narrow : past.width ≤ 64
  pub counted : past.rounds ≤ 4294967294

-- the sizes, and the rooms that the policy and the model use
pub record Ready (s : Settings) (a : Ask) (past : Past) (bank_curve_of : List Float) (indices : List ℕ) (curve : List Float) (drafts : List ℕ) : Type 0 where
  pub shallow : s.gamma ≤ 64
  pub few : a.sequences ≤ 1024
  pub room : length drafts ≡ a.sequences
  pub priced : uses_costs s.policy ≡ true → length curve ≡ gamma_in s a.depth + 1
  pub banked : s.policy ≡ GoodputBudget → is_trace s.model ≡ true → gamma_in s a.depth < length bank_curve_of
  pub indexed : uses_signals s.policy ≡ true → is_trace s.model ≡ true → a.sequences ≤ length indices
  pub held : s.policy ≡ GatedAggregate → is_unconstrained s.switch ≡ false → past.kind ≡ 2 → Held past
