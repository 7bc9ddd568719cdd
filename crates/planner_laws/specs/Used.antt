-- What a plan uses of the lists that it is lent, by its settings. Assumes nothing.
use Rattle.std.specs.Prelude.{◌≡◌, Bool, true, false, ◌+◌, take}
use Rattle.speculative.specs.declared.drafter.DrafterCost.{DrafterCost}
use Rattle.speculative.specs.declared.drafter.DrafterCost.TheVariants.{Fraction, Autoregressive, BlockParallel}
use Rattle.goodput.specs.declared.curve.Source.{Source}
use Rattle.goodput.specs.declared.curve.Source.TheVariants.{Roofline, Table}
use Rattle.settings.specs.declared.Policy.{Policy}
use Rattle.settings.specs.declared.Policy.TheVariants.{Fixed, GoodputBudget, GatedBudget, GatedAggregate}
use Rattle.settings.specs.declared.Settings.{Settings}
use Rattle.settings.specs.Settings.{gamma_in, uses_costs, uses_signals, is_trace}
use Rattle.asked_rooms.specs.declared.Ask.{Ask}
use Rattle.asking.specs.Asked.{Lent}

abbrev pub is_table : Source → Bool
is_table Roofline = false
is_table Table = true

-- an autoregressive head alone reads the loaded experts
abbrev pub reads_loaded : DrafterCost → Bool
reads_loaded (Fraction frac) = false
reads_loaded (Autoregressive dense expert experts k shared) = true
reads_loaded (BlockParallel params block) = false

-- GoodputBudget alone reads a bank's curve
abbrev pub reads_curve : Policy → Bool
reads_curve Fixed = false
reads_curve GoodputBudget = true
reads_curve GatedBudget = false
reads_curve GatedAggregate = false

-- two lots of lists that are the same where they are used, all but the draws: the others may hold anything and be of any length
pub record SameLists (s : Settings) (a : Ask) (l m : Lent) : Type 0 where
  -- settings are judged used or not
  pub positions_same : l.positions ≡ m.positions
  -- Fixed uses no cost; the others use either the roofline's first gamma + 1 entries or the table
  pub roofline_same : uses_costs s.policy ≡ true → is_table a.source ≡ false → take (gamma_in s a.depth + 1) l.roofline ≡ take (gamma_in s a.depth + 1) m.roofline
  pub table_same : uses_costs s.policy ≡ true → is_table a.source ≡ true → (l.depths ≡ m.depths) × (l.batches ≡ m.batches) × (l.seconds ≡ m.seconds)
  pub loaded_same : uses_costs s.policy ≡ true → reads_loaded s.drafter ≡ true → l.loaded ≡ m.loaded
  -- a trace uses a bank, by an index for each sequence, and the first gamma + 1 entries of its curve
  pub rounds_same : is_trace s.model ≡ true → (l.bank_commits_of ≡ m.bank_commits_of) × (take a.sequences l.indices ≡ take a.sequences m.indices)
  pub curve_same : is_trace s.model ≡ true → reads_curve s.policy ≡ true → take (gamma_in s a.depth + 1) l.bank_curve_of ≡ take (gamma_in s a.depth + 1) m.bank_curve_of
  pub signals_same : is_trace s.model ≡ true → uses_signals s.policy ≡ true → l.signals ≡ m.signals

-- and an acceptance model uses draws
pub record SameUsed (s : Settings) (a : Ask) (l m : Lent) : Type 0 where
  pub lists_same : SameLists s a l m
  pub draws_same : is_trace s.model ≡ false → l.draws ≡ m.draws
