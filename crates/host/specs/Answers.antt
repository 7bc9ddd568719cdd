-- Answers as the numbers that a host is handed: the refusal, 0 for none, and the figures, 0 where there are none. Assumes nothing.
use Rattle.std.specs.Prelude.{ℕ, Float, Option, Some, None, Result, Ok, Err}
use Rattle.std.specs.Float.{binary64}
use Rattle.std.specs.Float.Ieee.{of_bits}
use Rattle.refusals.specs.declared.Refusal.{Refusal}
use Rattle.refusals.specs.declared.RefusedRow.{RefusedRow}
use Rattle.refusals.specs.Refusals.{Judgement, number_of, number_in}
use Rattle.ledger.specs.declared.answer.Held.{Held}
use Rattle.judged_plans.specs.declared.Planned.{Planned}
use Rattle.judged_plans.specs.declared.Planned.TheVariants.{Plan, Empty, Refused as Unplanned}
use Rattle.bank_judge.specs.declared.BankSize.{BankSize}
use Rattle.width_way.specs.declared.Settling.{Settling}
use Rattle.width_way.specs.declared.Settling.TheVariants.{Within, NoStep, NoCandidate, AtOnce, Refused as Unsettled}
use Rattle.host.specs.declared.answers.HostPlan.{HostPlan}
use Rattle.host.specs.declared.answers.HostCount.{HostCount}
use Rattle.host.specs.declared.answers.HostFigure.{HostFigure}
use Rattle.host.specs.declared.answers.HostWorker.{HostWorker}
use Rattle.host.specs.declared.answers.HostRead.{HostRead}
use Rattle.host.specs.declared.answers.HostSettling.{HostSettling}

unfoldable pub answer_of : Judgement → ℕ
answer_of answer = number_in answer

unfoldable pub count_of : Result ℕ Refusal → HostCount
count_of (Ok count) = record { refusal = 0; count = count }
count_of (Err refusal) = record { refusal = number_of refusal; count = 0 }

-- a stall, a mean or the seconds of a draft
unfoldable pub figure_of : Result Float Refusal → HostFigure
figure_of (Ok value) = record { refusal = 0; value = value }
figure_of (Err refusal) = record { refusal = number_of refusal; value = of_bits binary64 0 }

-- a worker that is not held has a record of zeros
abbrev pub no_worker : ℕ → HostWorker
no_worker number = record { refusal = number; held = 0; width = 0; rounds = 0; stall = of_bits binary64 0 }

unfoldable pub found_of : Result (Option Held) Refusal → HostWorker
found_of (Ok (Some held)) = record { refusal = 0; held = 1; width = held.width; rounds = held.rounds; stall = of_bits binary64 held.stall }
found_of (Ok None) = no_worker 0
found_of (Err refusal) = no_worker (number_of refusal)

-- a plan of no sequences uses and weighs nothing
unfoldable pub planned_of : Planned → HostPlan
planned_of (Plan used weighed) = record { refusal = 0; used = used; weighed = weighed }
planned_of Empty = record { refusal = 0; used = 0; weighed = 0 }
planned_of (Unplanned number) = record { refusal = number; used = 0; weighed = 0 }

-- row 0 where the refusal is of no row
abbrev pub not_read : RefusedRow → HostRead
not_read refused = record { refusal = number_of refused.refusal; row = refused.row; rows = 0; depth = 0 }

-- a bank's rows are its rounds
unfoldable pub bank_of : Result BankSize RefusedRow → HostRead
bank_of (Ok size) = record { refusal = 0; row = 0; rows = size.rounds; depth = size.depth }
bank_of (Err refused) = not_read refused

unfoldable pub table_of : Result ℕ RefusedRow → HostRead
table_of (Ok rows) = record { refusal = 0; row = 0; rows = rows; depth = 0 }
table_of (Err refused) = not_read refused

-- neither rounds nor walks
abbrev pub without_rounds : ℕ → ℕ → ℕ → HostSettling
without_rounds refusal settles width = record { refusal = refusal; settles = settles; rounds = 0; walks = 0; width = width }

-- how a width settles, by a number, and the figures of that case
unfoldable pub settling_of : Settling → HostSettling
settling_of (Within rounds walks) = record { refusal = 0; settles = 1; rounds = rounds; walks = walks; width = 0 }
settling_of AtOnce = without_rounds 0 2 0
settling_of (NoStep width) = without_rounds 0 3 width
settling_of (NoCandidate width) = without_rounds 0 4 width
settling_of (Unsettled number) = without_rounds number 0 0
