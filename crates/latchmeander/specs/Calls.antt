-- What a host's calls answer and leave: the planner's own outcomes, each answer as the numbers that cross. Assumes nothing.
use Rattle.std.specs.Prelude.{ℕ, Bool, cond, ◌&&◌, List, Float, Result, Err}
use Rattle.refusals.specs.declared.Refusal.{Refusal}
use Rattle.refusals.specs.declared.Refusal.TheVariants.{Setting}
use Rattle.speculative.specs.Drafter.{draft_ragged}
use Rattle.asking.specs.Asked.{Lent}
use Rattle.judged_plans.specs.declared.Planned.TheVariants.{Refused}
use Rattle.judged_plans.specs.Plan.{Left, planned}
use Rattle.std.specs.Prelude.{Some, None}
use Rattle.verifies.specs.Accepted.{accepted_of}
use Rattle.width_way.specs.declared.Settling.TheVariants.{Refused as Unsettled}
use Rattle.settling.specs.Settling.{PricesLent, settles}
use Rattle.bank.specs.Read.{Outcome as Bank}
use Rattle.measured.specs.Fill.{Outcome as Table}
use Rattle.host.specs.declared.answers.HostPlan.{HostPlan}
use Rattle.host.specs.declared.answers.HostCount.{HostCount}
use Rattle.host.specs.declared.answers.HostFigure.{HostFigure}
use Rattle.host.specs.declared.answers.HostRead.{HostRead}
use Rattle.host.specs.declared.answers.HostSettling.{HostSettling}
use Rattle.host.specs.declared.asked.HostSettings.{HostSettings}
use Rattle.host.specs.declared.asked.HostRates.{HostRates}
use Rattle.host.specs.declared.asked.HostAsk.{HostAsk}
use Rattle.host.specs.Asked.{settings_fit, ask_fits, settings_of, ask_of, rates_of, drafter_of}
use Rattle.host.specs.Answers.{count_of, planned_of, figure_of, bank_of, table_of, settling_of}

-- the answer as it crosses, and the rest as it is
abbrev pub on_first : {A B C : Type 0} → (A → B) → A × C → B × C
on_first f p = (f p.0, p.1)

-- the count of a series, and its four buffers
abbrev pub series_handed : Result ℕ Refusal × List ℕ × List Float × List Float × List Float → HostCount × List ℕ × List Float × List Float × List Float
series_handed p = (count_of p.0, p.1, p.2, p.3, p.4)

-- a plan's answer, and the storage, the drafts and the commits
abbrev pub plan_handed : Left → HostPlan × List ℕ × List ℕ × List ℕ
plan_handed o = (planned_of o.answer, o.storage, o.drafts, o.commits)

-- 12 where a number stands for no case, and then nothing is written
unfoldable pub plan_called : HostSettings → HostAsk → Lent → List ℕ → List ℕ → List ℕ → HostPlan × List ℕ × List ℕ × List ℕ
plan_called s a l storage drafts commits =
    cond (settings_fit s && ask_fits a)
    (plan_handed (planned (settings_of s) (ask_of a) l storage drafts commits))
    (planned_of (Refused 12), storage, drafts, commits)

unfoldable pub seconds_called : HostSettings → HostRates → Float → List ℕ → List Float → HostFigure
seconds_called s r verify widths loaded =
    figure_of (cond (settings_fit s) (draft_ragged (drafter_of s) widths (rates_of r) verify loaded) (Err Setting))

unfoldable pub accepted_called : ℕ → Bool → ℕ → ℕ
accepted_called draft is_planned commits = accepted_of draft (cond is_planned (Some commits) None)

-- 12 where a number stands for no case, and then nothing is written
unfoldable pub settles_called : HostSettings → HostAsk → PricesLent → ℕ → ℕ → List ℕ → HostSettling × List ℕ
settles_called s a l width target widths =
    on_first settling_of (cond (settings_fit s && ask_fits a) (settles (settings_of s) (ask_of a) l width target widths) (Unsettled 12, widths))

-- a file that was read, and the three buffers
abbrev pub bank_handed : Bank → HostRead × List ℕ × List Float × List Float
bank_handed o = (bank_of o.answer, o.commits, o.signals, o.curve)

abbrev pub table_handed : Table → HostRead × List ℕ × List ℕ × List Float
table_handed o = (table_of o.answer, o.depths, o.batches, o.seconds)
