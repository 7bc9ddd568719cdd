-- What a plan and a collection are refused for, and what they leave in the words once nothing is refused, on any content.
use Rattle.std.specs.Prelude.{cond, List, ℕ, ◌+◌, ltb, get_or, Ok}
use Rattle.refusals.specs.declared.Refusal.TheVariants.{WorkerRoom, SecondRoom, StepRoom}
use Rattle.refusals.specs.Refusals.{Judgement, passed_if, number_in}
use Rattle.ledger_rows.specs.declared.layout.Place.{Place}
use Rattle.ledger_rows.specs.declared.layout.Past.{Past}
use Rattle.ledger_rows.specs.declared.layout.Step.{Step}
use Rattle.ledger_rows.specs.Layout.{seconds_most, workers_most, steps_most, second_at, steps_in}
use Rattle.ledger_seconds.specs.Seconds.{second_place, step_added}
use Rattle.ledger_workers.specs.Workers.{worker_place, worker_put}
use Rattle.ledger_changes.specs.Changes.{change_laid, no_step, pushed}

-- a step at a second whose place is known: the second has fewer steps than there may be; a new one finds room
unfoldable pub place_allows : List ℕ → Place → Judgement
place_allows ws p =
    cond p.known
    (passed_if (ltb (get_or ws (second_at p.row + steps_in) 0) steps_most) StepRoom)
    (passed_if (ltb p.rows seconds_most) SecondRoom)

unfoldable pub step_allows : List ℕ → ℕ → Judgement
step_allows ws t = place_allows ws (second_place ws t)

-- a worker's record: the worker is known, or finds room
unfoldable pub worker_allows : List ℕ → ℕ → ℕ → Judgement
worker_allows ws a b = cond (worker_place ws a b).known (Ok tt) (passed_if (ltb (worker_place ws a b).rows workers_most) WorkerRoom)

-- what they are refused for by number: 18 or 19, and 17
abbrev pub step_refusal : List ℕ → ℕ → ℕ
step_refusal ws t = number_in (step_allows ws t)

abbrev pub worker_refusal : List ℕ → ℕ → ℕ → ℕ
worker_refusal ws a b = number_in (worker_allows ws a b)

-- a plan of no worker: its step is added, and the change is kept
unfoldable pub plain_done : List ℕ → Step → List ℕ
plain_done ws p = pushed (step_added ws p) (change_laid p 1 0 0 0 0 0 0)

-- a plan of a worker: its record is put too, and the one from before is kept with the change
unfoldable pub decided_done : List ℕ → Step → ℕ → ℕ → ℕ → ℕ → ℕ → Past → List ℕ
decided_done ws p a b width rounds stall past =
    pushed (worker_put (step_added ws p) a b width rounds stall)
    (change_laid p 1 past.kind a b past.width past.rounds past.stall)

-- a collection: the stall is cleared, and the record from before is kept with the change
unfoldable pub collected_done : List ℕ → ℕ → ℕ → Past → List ℕ
collected_done ws a b past = pushed (worker_put ws a b past.width past.rounds 0) (change_laid no_step 0 2 a b past.width past.rounds past.stall)
