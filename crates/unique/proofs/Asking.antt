-- The contract of `asking` leaves one outcome. Assumes nothing.
use mathlib.Core.Path.{◌≡◌}
use mathlib.Core.List.{List}
use Prim.Native.Nat.{ℕ}
use Rattle.settings.specs.declared.Settings.{Settings}
use Rattle.asked_rooms.specs.declared.Ask.{Ask}
use Rattle.refusals.specs.Refusals.{Judgement}
use Rattle.asking.specs.declared.Inputs.{Inputs}
use Rattle.asking.specs.Asked.{lists_of, asked_judged}
use Rattle.unique.specs.Only.{OnlyOne}
use Rattle.unique.proofs.Law.{once}

pub judge_ask_once : (settings : Settings) (ask : Ask) (inputs : Inputs) (storage : List ℕ) (drafts commits : ℕ) → OnlyOne (λ (r : Judgement). r ≡ asked_judged settings ask (lists_of inputs) storage drafts commits)
judge_ask_once settings ask inputs storage drafts commits x y p q = once p q
