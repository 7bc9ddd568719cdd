-- Which of the buffers that a plan uses are too short. Assumes nothing.
use Rattle.std.specs.Prelude.{ℕ, ◌+◌, ◌*◌, Bool, true, ◌&&◌, cond, leb}
use Rattle.acceptance.specs.declared.AcceptanceModel.{AcceptanceModel}
use Rattle.acceptance.specs.declared.AcceptanceModel.TheVariants.{Constant, PerPosition, Trace}
use Rattle.speculative.specs.declared.drafter.DrafterCost.{DrafterCost}
use Rattle.speculative.specs.declared.drafter.DrafterCost.TheVariants.{Fraction, Autoregressive, BlockParallel}
use Rattle.goodput.specs.declared.curve.Source.{Source}
use Rattle.goodput.specs.declared.curve.Source.TheVariants.{Roofline, Table}
use Rattle.refusals.specs.declared.Refusal.TheVariants.{ShortBuffer}
use Rattle.refusals.specs.Refusals.{Judgement, passed_if, number_in}
use Rattle.ledger_rows.specs.Layout.{room}
use Rattle.settings.specs.declared.Policy.{Policy}
use Rattle.settings.specs.declared.Policy.TheVariants.{Fixed, GoodputBudget, GatedBudget, GatedAggregate}
use Rattle.settings.specs.declared.Settings.{Settings}
use Rattle.settings.specs.Settings.{gamma_in, uses_costs}
use Rattle.asked_rooms.specs.declared.Ask.{Ask}
use Rattle.asked_rooms.specs.declared.Lengths.{Lengths}

-- the storage, and the drafts and the commits of n sequences
abbrev pub own_rooms : ℕ → Lengths → Bool
own_rooms n l = leb room l.storage && (leb n l.drafts && leb n l.commits)

-- gamma + 1 entries of the roofline, or the rows of a table in each column
abbrev pub price_rooms : Source → ℕ → ℕ → Lengths → Bool
price_rooms Roofline gamma rows l = leb (gamma + 1) l.roofline
price_rooms Table gamma rows l = leb rows l.depths && (leb rows l.batches && leb rows l.seconds)

-- n + 1 loaded experts, which an autoregressive head alone reads
abbrev pub loaded_room : DrafterCost → ℕ → Lengths → Bool
loaded_room (Fraction frac) n l = true
loaded_room (Autoregressive dense expert experts k shared) n l = leb (n + 1) l.loaded
loaded_room (BlockParallel params block) n l = true

-- Fixed looks at no cost
abbrev pub cost_rooms : Policy → DrafterCost → Source → ℕ → ℕ → ℕ → Lengths → Bool
cost_rooms policy kind source gamma n rows l = cond (uses_costs policy) (price_rooms source gamma rows l && loaded_room kind n l) true

-- of a bank's rounds: gamma + 1 entries of its curve for GoodputBudget, the signals for a gated policy
abbrev pub signal_rooms : Policy → ℕ → ℕ → ℕ → Lengths → Bool
signal_rooms Fixed gamma depth rounds l = true
signal_rooms GoodputBudget gamma depth rounds l = leb (gamma + 1) l.bank_curve
signal_rooms GatedBudget gamma depth rounds l = leb (rounds * depth) l.signals
signal_rooms GatedAggregate gamma depth rounds l = leb (rounds * depth) l.signals

-- only a trace has a bank
abbrev pub bank_rooms : AcceptanceModel → Policy → ℕ → ℕ → ℕ → Lengths → Bool
bank_rooms (Constant alpha) policy gamma depth rounds l = true
bank_rooms PerPosition policy gamma depth rounds l = true
bank_rooms Trace policy gamma depth rounds l = leb rounds l.bank_commits && signal_rooms policy gamma depth rounds l

-- all of them
unfoldable pub rooms_judged : Settings → Ask → Lengths → Judgement
rooms_judged s a l =
    let gamma = gamma_in s a.depth in
    passed_if (own_rooms a.sequences l && (cost_rooms s.policy s.drafter a.source gamma a.sequences a.rows l && bank_rooms s.model s.policy gamma a.depth a.rounds l)) ShortBuffer

-- its number, 0 where it passes
abbrev pub rooms_refusal : Settings → Ask → Lengths → ℕ
rooms_refusal s a l = number_in (rooms_judged s a l)
