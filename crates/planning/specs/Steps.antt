-- The steps of a plan: its prices, what the drawn rounds' signals are refused for, and whether a worker's record is used. Assumes nothing.
use Rattle.std.specs.Prelude.{ℕ, Bool, false, not, ◌&&◌, cond, List, take, Float}
use Rattle.step_times.specs.Prices.{prices}
use Rattle.goodput.specs.Curve.{in_force}
use Rattle.goodput.specs.Depth.{best_priced}
use Rattle.switch_settings.specs.Switch.{is_unconstrained}
use Rattle.switch_settings.specs.declared.SwitchConstraints.{SwitchConstraints}
use Rattle.settings.specs.declared.Policy.{Policy}
use Rattle.settings.specs.declared.Policy.TheVariants.{Fixed, GoodputBudget, GatedBudget, GatedAggregate}
use Rattle.settings.specs.declared.Settings.{Settings}
use Rattle.settings.specs.Settings.{gamma_in, uses_signals, is_trace}
use Rattle.rounds.specs.Signals.{are_finite}
use Rattle.asked_rooms.specs.declared.Ask.{Ask}
use Rattle.asking.specs.Asked.{Lent, table_of}

-- whether the worker's record is used
abbrev pub put_under : SwitchConstraints → Policy → Bool
put_under switch Fixed = false
put_under switch GoodputBudget = false
put_under switch GatedBudget = false
put_under switch GatedAggregate = not (is_unconstrained switch)

module _ (s : Settings) (a : Ask) (l : Lent) where
  -- the depth that may be drafted to, and the prices of the depths 0 to it
  abbrev pub depth_of : ℕ
  depth_of = gamma_in s a.depth

  unfoldable pub curve_of : List Float
  curve_of = in_force l.roofline (prices a.sequences a.rates.kv_delta (table_of a l)) a.source depth_of

  -- 15: of the drawn rounds' signals, where the policy is gated
  unfoldable pub signals_refusal : ℕ
  signals_refusal = cond (uses_signals s.policy && is_trace s.model) (cond (are_finite l.signals a.depth depth_of (take a.sequences l.indices)) 0 15) 0

  -- ---- what is drafted: the best depth is the smallest of finite cost whose goodput no other exceeds
  abbrev pub best : List Float → List Float → ℕ
  best es curve = best_priced s.drafter a.sequences a.rates l.loaded es curve

  abbrev pub is_put : Policy → Bool
  is_put policy = put_under s.switch policy
