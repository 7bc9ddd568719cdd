-- What is told of an answer: the number of the refusal, 0 for none, and two figures.
use Rattle.std.specs.Prelude.{ℕ, List, length, get_or}
use Rattle.refusals.specs.declared.Refusal.{Refusal}
use Rattle.refusals.specs.Refusals.{number_of}
use Rattle.exported.specs.declared.Told.{Told}

abbrev pub told : ℕ → ℕ → ℕ → Told
told refusal first second = record { refusal = refusal; first = first; second = second }

-- a refusal has no figures
abbrev pub refused_told : Refusal → Told
refused_told refusal = told (number_of refusal) 0 0

-- of a part of a lent text its length, and its byte at a place, 0 past its end
abbrev pub part_told : List ℕ → ℕ → Told
part_told part at = told 0 (length part) (get_or part at 0)

-- an answer as it is told, and the buffer beside it as it is
abbrev pub on_first : {A B C : Type 0} → (A → B) → A × C → B × C
on_first f p = (f p.0, p.1)
