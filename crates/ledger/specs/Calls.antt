-- What each call answers, and what it leaves in the words, on any content.
use Rattle.std.specs.Prelude.{Bool, cond, ◌||◌, List, ◌++◌, ℕ, ltb, eqb, Float, length, drop, replicate, Result, Ok, Err, Option, Some, None}
use Rattle.std.specs.Float.{binary64}
use Rattle.std.specs.Float.Ieee.{of_bits}
use Rattle.ledger_rows.specs.declared.layout.Past.{Past}
use Rattle.ledger_rows.specs.declared.layout.Step.{Step}
use Rattle.refusals.specs.declared.Refusal.{Refusal}
use Rattle.refusals.specs.declared.Refusal.TheVariants.{ShortBuffer, NoWithdrawal}
use Rattle.refusals.specs.Refusals.{Judgement, and_then, number_in}
use Rattle.ledger.specs.declared.answer.Held.{Held}
use Rattle.ledger.specs.declared.answer.Decision.{Decision}
use Rattle.ledger.specs.declared.answer.Decision.TheVariants.{Nothing, Put}
use Rattle.ledger_rows.specs.Layout.{room, seconds_held, available}
use Rattle.ledger_workers.specs.Workers.{past_of}
use Rattle.ledger_acts.specs.Acts.{step_allows, worker_allows, plain_done, decided_done, collected_done}
use Rattle.ledger_series.specs.Series.{second_of, mean_of_drafts, mean_batch, mean_of_committed, up_to, front, figure_of}
use Rattle.ledger_changes.specs.Changes.{popped, step_back, worker_back}

-- ---- the judges

-- refused where there are too few words
unfoldable pub step_allowed : List ℕ → ℕ → Judgement
step_allowed ws t = cond (ltb (length ws) room) (Err ShortBuffer) (step_allows ws t)

unfoldable pub worker_allowed : List ℕ → ℕ → ℕ → Judgement
worker_allowed ws a b = cond (ltb (length ws) room) (Err ShortBuffer) (worker_allows ws a b)

-- what they are refused for by number, 0 for nothing
abbrev pub step_judged : List ℕ → ℕ → ℕ
step_judged ws t = number_in (step_allowed ws t)

abbrev pub worker_judged : List ℕ → ℕ → ℕ → ℕ
worker_judged ws a b = number_in (worker_allowed ws a b)

-- the first of two refusals by number
abbrev pub or_else : ℕ → ℕ → ℕ
or_else first second = cond (eqb first 0) second first

-- a refusal leaves all as it was
abbrev pub unless : Judgement → List ℕ → List ℕ → Judgement × List ℕ
unless (Ok passed) ws after = (Ok tt, after)
unless (Err refusal) ws after = (Err refusal, ws)

-- ---- a plan

unfoldable pub recorded : List ℕ → Step → Decision → Judgement × List ℕ
recorded ws p Nothing = unless (step_allowed ws p.second) ws (plain_done ws p)
recorded ws p (Put a b width rounds stall) =
    unless (and_then (worker_allowed ws a b) (step_allowed ws p.second)) ws (decided_done ws p a b width rounds stall (past_of ws a b))

-- ---- a collection: a known worker's stall, cleared

unfoldable pub collected_of : List ℕ → ℕ → ℕ → Past → Result Float Refusal × List ℕ
collected_of ws a b past = cond (eqb past.kind 2) (Ok (of_bits binary64 past.stall), collected_done ws a b past) (Ok (of_bits binary64 0), ws)

unfoldable pub collected : List ℕ → ℕ → ℕ → Result Float Refusal × List ℕ
collected ws a b = cond (ltb (length ws) room) (Err ShortBuffer, ws) (collected_of ws a b (past_of ws a b))

-- ---- a withdrawal: the newest change taken back

unfoldable pub withdrawn : List ℕ → Judgement × List ℕ
withdrawn ws =
    cond (ltb (length ws) room) (Err ShortBuffer, ws)
    (cond (ltb 0 (available ws)) (Ok tt, popped (worker_back (step_back ws)) (available ws)) (Err NoWithdrawal, ws))

-- ---- an empty planner, and what is held

-- words that are all 0
unfoldable pub zeros : ℕ → List ℕ
zeros n = replicate n 0

unfoldable pub emptied : List ℕ → Judgement × List ℕ
emptied ws = cond (ltb (length ws) room) (Err ShortBuffer, ws) (Ok tt, zeros room ++ drop room ws)

unfoldable pub count_of : List ℕ → ℕ → Result ℕ Refusal
count_of ws n = cond (ltb (length ws) room) (Err ShortBuffer) (Ok n)

-- a worker's record as it is answered
unfoldable pub found_of : Past → Option Held
found_of past = cond (eqb past.kind 2) (Some (record { width = past.width; rounds = past.rounds; stall = past.stall })) None

unfoldable pub worker_of : List ℕ → ℕ → ℕ → Result (Option Held) Refusal
worker_of ws a b = cond (ltb (length ws) room) (Err ShortBuffer) (Ok (found_of (past_of ws a b)))

-- ---- the series and the day figure

-- the storage, or a buffer for as many seconds as are held
abbrev pub too_short : List ℕ → ℕ → ℕ → ℕ → ℕ → Bool
too_short ws a b c d = ltb (length ws) room || (ltb a (seconds_held ws) || (ltb b (seconds_held ws) || (ltb c (seconds_held ws) || ltb d (seconds_held ws))))

-- the seconds held at the fronts of four buffers, and how many they are
unfoldable pub series_read : List ℕ → List ℕ → List Float → List Float → List Float → Result ℕ Refusal × List ℕ × List Float × List Float × List Float
series_read ws seconds drafts batches committed =
    cond (too_short ws (length seconds) (length drafts) (length batches) (length committed))
    (Err ShortBuffer, seconds, drafts, batches, committed)
    (Ok (seconds_held ws), front (second_of ws) (seconds_held ws) seconds, front (mean_of_drafts ws) (seconds_held ws) drafts, front (mean_batch ws) (seconds_held ws) batches, front (mean_of_committed ws) (seconds_held ws) committed)

unfoldable pub day_figure : List ℕ → Result Float Refusal
day_figure ws = cond (ltb (length ws) room) (Err ShortBuffer) (Ok (figure_of (up_to (mean_of_drafts ws) (seconds_held ws))))
