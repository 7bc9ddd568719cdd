-- What is told of a decision and of a collection: the number of the refusal, 0 for none, the answer, 0 where there is none, and the record that is kept.
-- Assumes nothing.
use Rattle.std.specs.Prelude.{ℕ, Float, Result, Ok, Err}
use Rattle.std.specs.Float.{binary64}
use Rattle.std.specs.Float.Ieee.{to_bits}
use Rattle.refusals.specs.declared.Refusal.{Refusal}
use Rattle.refusals.specs.Refusals.{number_of}
use Rattle.switching.specs.declared.Switching.{Switching}
use Rattle.switching.specs.declared.Decided.{Decided}
use Rattle.switching.specs.declared.Collected.{Collected}
use Rattle.exported_switching.specs.declared.answers.Switched.{Switched}

abbrev pub switched : ℕ → ℕ → Switching → Switched
switched refusal answer kept =
    record { refusal = refusal; answer = answer; width = kept.width; rounds = kept.rounds; stall = kept.stall }

-- the width
unfoldable pub width_told : Result ℕ Refusal → Switching → Switched
width_told (Ok width) kept = switched 0 width kept
width_told (Err refusal) kept = switched (number_of refusal) 0 kept

abbrev pub decided_told : Decided → Switched
decided_told d = width_told d.answer d.kept

-- the bits of the stall
unfoldable pub stall_told : Result Float Refusal → Switching → Switched
stall_told (Ok stall) kept = switched 0 (to_bits binary64 stall) kept
stall_told (Err refusal) kept = switched (number_of refusal) 0 kept

abbrev pub collected_told : Collected → Switched
collected_told d = stall_told d.answer d.kept
