-- The sums of a row of the seconds held, on any content.
use Rattle.std.specs.Prelude.{cond, List, ℕ, ◌+◌, ltb, length, get_or, Result, Ok, Err, Option, Some, None}
use Rattle.refusals.specs.declared.Refusal.{Refusal}
use Rattle.refusals.specs.declared.Refusal.TheVariants.{ShortBuffer}
use Rattle.ledger_rows.specs.Layout.{room, second_at, seconds_held, drafts_in, sequences_in, committed_in, steps_in}
use Rattle.ledger_sums.specs.declared.answer.Sums.{Sums}

-- a row's words: its second, its drafts, its sequences, its committed, its steps
abbrev pub row_of : List ℕ → ℕ → Sums
row_of ws row = record {
  second = get_or ws (second_at row) 0;
  drafts = get_or ws (second_at row + drafts_in) 0;
  sequences = get_or ws (second_at row + sequences_in) 0;
  committed = get_or ws (second_at row + committed_in) 0;
  steps = get_or ws (second_at row + steps_in) 0;
}

-- past the last row there is none; refused where there are too few words
unfoldable pub sums_of : List ℕ → ℕ → Result (Option Sums) Refusal
sums_of ws row = cond (ltb (length ws) room) (Err ShortBuffer) (cond (ltb row (seconds_held ws)) (Ok (Some (row_of ws row))) (Ok None))
