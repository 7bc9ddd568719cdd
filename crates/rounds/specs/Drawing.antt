-- The commits of a batch: what each sequence draws, one after the other. Assumes nothing.
use Rattle.std.specs.Prelude.{ℕ, zero, suc, ◌+◌, cond, List, [], ◌∷◌, ltb, get_or, drop, Float, Result, Ok, Err}
use Rattle.std.proofs.lemmas.List.Edits.{sets}
use Rattle.acceptance.specs.Acceptance.{sampled}
use Rattle.acceptance.specs.declared.AcceptanceModel.{AcceptanceModel}
use Rattle.acceptance.specs.declared.Sample.{Sample}
use Rattle.refusals.specs.declared.Refusal.{Refusal}
use Rattle.refusals.specs.Refusals.{number_of}
use Rattle.rounds.specs.declared.drawing.Drawn.{Drawn}
use Rattle.rounds.specs.declared.drawing.Drawn.TheVariants.{Used, Refused as NotDrawn}

-- the draws used, or the number of the first refusal; and the commits of the sequences, up to it
pub record Batch : Type 0 where
  pub answer : Drawn
  pub commits : List ℕ

abbrev pub none_left : Batch
none_left = record { answer = Used 0; commits = [] }

abbrev pub refused_with : ℕ → Batch
refused_with number = record { answer = NotDrawn number; commits = [] }

abbrev pub and_used : ℕ → Drawn → Drawn
and_used more (Used used) = Used (more + used)
and_used more (NotDrawn number) = NotDrawn number

-- one sequence's commits and draws before those of the sequences after it
abbrev pub and_then : ℕ → ℕ → Batch → Batch
and_then commits used later = record { answer = and_used used later.answer; commits = commits ∷ later.commits }

-- ---- by an acceptance model: each sequence consumes draws from where the one before it stopped
abbrev pub sequence_then : Result Sample Refusal → (ℕ → Batch) → Batch
sequence_then (Ok sample) later = and_then sample.commits sample.used (later sample.used)
sequence_then (Err refusal) later = refused_with (number_of refusal)

-- of n sequences
unfoldable pub analytic : AcceptanceModel → List Float → ℕ → ℕ → List Float → Batch
analytic model positions gamma zero draws = none_left
analytic model positions gamma (suc n) draws =
    sequence_then (sampled model positions 0 gamma draws) (λ used. analytic model positions gamma n (drop used draws))

-- ---- by a bank's rounds: one index a sequence
unfoldable pub replayed : List ℕ → ℕ → ℕ → List ℕ → Batch
replayed commits rounds zero indices = none_left
replayed commits rounds (suc n) [] = refused_with 13
replayed commits rounds (suc n) (i ∷ indices) =
    cond (ltb i rounds) (and_then (get_or commits i 0) 1 (replayed commits rounds n indices)) (refused_with 14)

-- ---- the commits stored in a buffer, from its front on
abbrev pub drawn_over : Batch → List ℕ → Batch
drawn_over b old = record { answer = b.answer; commits = sets old 0 b.commits }
