-- What each policy drafts, and what becomes of the worker's record. Assumes nothing.
use Rattle.std.specs.Prelude.{ℕ, cond, List, eqb, replicate, Float}
use Rattle.std.specs.Float.{binary64}
use Rattle.std.specs.Float.Ieee.{to_bits}
use Rattle.acceptance.specs.declared.AcceptanceModel.{AcceptanceModel}
use Rattle.acceptance.specs.declared.AcceptanceModel.TheVariants.{Constant, PerPosition, Trace}
use Rattle.budgets.specs.Budget.{model_values, bank_values}
use Rattle.slots.specs.Gate.{Chosen}
use Rattle.switch_settings.specs.Switch.{is_unconstrained}
use Rattle.switch_settings.specs.declared.SwitchConstraints.{SwitchConstraints}
use Rattle.switching.specs.Deciding.{at_first, decided}
use Rattle.switching.specs.declared.Switching.{Switching}
use Rattle.ledger_rows.specs.declared.layout.Past.{Past}
use Rattle.ledger.specs.declared.answer.Decision.{Decision}
use Rattle.ledger.specs.declared.answer.Decision.TheVariants.{Nothing, Put}
use Rattle.settings.specs.declared.Policy.{Policy}
use Rattle.settings.specs.declared.Policy.TheVariants.{Fixed, GoodputBudget, GatedBudget, GatedAggregate}
use Rattle.gating.specs.Chains.{chains_by, chains_expected, gate_at}
use Rattle.settings.specs.declared.Settings.{Settings}
use Rattle.settings.specs.Settings.{gamma_in}
use Rattle.asked_rooms.specs.declared.Ask.{Ask}
use Rattle.asking.specs.Asked.{Lent}
use Rattle.asking.specs.Values.{held_of}

-- ---- what a batch is expected to accept at the depths 0 to gamma

-- by the model or the bank, for n sequences
abbrev pub mean_expected : AcceptanceModel → List Float → List Float → ℕ → ℕ → ℕ → List Float
mean_expected (Constant alpha) positions bank depth n gamma = model_values (Constant alpha) positions n gamma
mean_expected PerPosition positions bank depth n gamma = model_values PerPosition positions n gamma
mean_expected Trace positions bank depth n gamma = bank_values bank depth n gamma

-- ---- one draft for all, passed through switching: a worker's first decision is free
abbrev pub toward : SwitchConstraints → List Float → ℕ → Past → Switching
toward switch curve target past = cond (eqb past.kind 2) (decided (held_of past) curve target switch) (at_first target)

-- ---- the decision: each sequence's draft, the slots weighed, and the worker's new record, if there is one
pub record Decided : Type 0 where
  pub drafts : List ℕ
  pub weighed : ℕ
  pub change : Decision

abbrev pub all_at : ℕ → ℕ → Decided
all_at n depth = record { drafts = replicate n depth; weighed = 0; change = Nothing }

abbrev pub each : Chosen → Decided
each c = record { drafts = c.widths; weighed = c.weighed; change = Nothing }

abbrev pub all_put : ℕ → ℕ → ℕ → Switching → Decided
all_put n a b r = record { drafts = replicate n r.width; weighed = 0; change = Put a b r.width r.rounds (to_bits binary64 r.stall) }

-- `best` is the best depth of expected values and prices, `curve` the prices of the depths 0 to gamma
module _ (best : List Float → List Float → ℕ) (s : Settings) (a : Ask) (l : Lent) (curve : List Float) where
  -- the depth that may be drafted to
  abbrev pub depth_in : ℕ
  depth_in = gamma_in s a.depth

  abbrev pub chains_in : List Float
  chains_in = chains_by s.model l.positions l.signals a.depth l.indices a.sequences depth_in

  -- the batch's depth by its chains
  abbrev pub best_in : ℕ
  best_in = best (chains_expected a.sequences depth_in chains_in) curve

  abbrev pub by_mean : Decided
  by_mean = all_at a.sequences (best (mean_expected s.model l.positions l.bank_curve_of a.depth a.sequences depth_in) curve)

  abbrev pub by_gate : Decided
  by_gate = each (gate_at s.prices s.drafter a.rates l.loaded curve a.sequences depth_in chains_in best_in)

  -- an unconstrained setting touches no record
  abbrev pub by_aggregate : Past → Decided
  by_aggregate past =
      cond (is_unconstrained s.switch) (all_at a.sequences best_in)
      (all_put a.sequences a.a a.b (toward s.switch curve best_in past))

  -- `past` is what the storage has of the worker
  unfoldable pub decided_by : Policy → Past → Decided
  decided_by Fixed past = all_at a.sequences s.gamma
  decided_by GoodputBudget past = by_mean
  decided_by GatedBudget past = by_gate
  decided_by GatedAggregate past = by_aggregate past
