-- 15: which of the values that a plan uses are out of range. Assumes nothing.
use Rattle.std.specs.Prelude.{ℕ, ◌+◌, Bool, true, ◌||◌, cond, List, eqb, take, Float}
use Rattle.std.specs.Float.{binary64}
use Rattle.std.specs.Float.Ieee.{of_bits}
use Rattle.acceptance.specs.declared.AcceptanceModel.{AcceptanceModel}
use Rattle.acceptance.specs.declared.AcceptanceModel.TheVariants.{Constant, PerPosition, Trace}
use Rattle.speculative.specs.Drafter.{all_loaded}
use Rattle.speculative.specs.declared.drafter.DrafterCost.{DrafterCost}
use Rattle.speculative.specs.declared.drafter.DrafterCost.TheVariants.{Fraction, Autoregressive, BlockParallel}
use Rattle.goodput.specs.declared.curve.Source.{Source}
use Rattle.goodput.specs.declared.curve.Source.TheVariants.{Roofline, Table}
use Rattle.chains.specs.Tests.{all_of, is_price, is_accepted}
use Rattle.cost_rows.specs.Table.{Row}
use Rattle.cost_rows.specs.Lawful.{lawful}
use Rattle.switch_settings.specs.Switch.{is_unconstrained}
use Rattle.switch_settings.specs.declared.SwitchConstraints.{SwitchConstraints}
use Rattle.switching.specs.Deciding.{is_record}
use Rattle.switching.specs.declared.Switching.{Switching}
use Rattle.ledger_rows.specs.declared.layout.Past.{Past}
use Rattle.settings.specs.declared.Policy.{Policy}
use Rattle.settings.specs.declared.Policy.TheVariants.{Fixed, GoodputBudget, GatedBudget, GatedAggregate}

-- the roofline's first gamma + 1 prices, or the whole table
abbrev pub prices_valued : Source → ℕ → List Float → List Row → Bool
prices_valued Roofline gamma roofline table = all_of is_price (take (gamma + 1) roofline)
prices_valued Table gamma roofline table = lawful table

-- the first n + 1 loaded experts, which an autoregressive head alone reads
abbrev pub loaded_valued : DrafterCost → ℕ → List Float → Bool
loaded_valued (Fraction frac) n loaded = true
loaded_valued (Autoregressive dense expert experts k shared) n loaded = all_loaded (take (n + 1) loaded)
loaded_valued (BlockParallel params block) n loaded = true

-- the first gamma + 1 entries of a bank's curve, which is there for a trace alone
abbrev pub curve_valued : AcceptanceModel → ℕ → List Float → Bool
curve_valued (Constant alpha) gamma curve = true
curve_valued PerPosition gamma curve = true
curve_valued Trace gamma curve = all_of is_accepted (take (gamma + 1) curve)

-- a record of the storage as switching takes it, its stall by its bits
abbrev pub held_of : Past → Switching
held_of past = record { width = past.width; rounds = past.rounds; stall = of_bits binary64 past.stall }

-- a worker's record is used where the switching is constrained; a new worker has none
abbrev pub held_valued : SwitchConstraints → Past → Bool
held_valued switch past = is_unconstrained switch || (cond (eqb past.kind 2) (is_record (held_of past)) true)

-- what each policy reads besides the prices
abbrev pub policy_valued : Policy → AcceptanceModel → SwitchConstraints → ℕ → List Float → Past → Bool
policy_valued Fixed model switch gamma curve past = true
policy_valued GoodputBudget model switch gamma curve past = curve_valued model gamma curve
policy_valued GatedBudget model switch gamma curve past = true
policy_valued GatedAggregate model switch gamma curve past = held_valued switch past
