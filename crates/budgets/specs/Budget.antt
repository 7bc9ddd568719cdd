-- What n sequences are expected to accept at each depth where none has a signal of its own: n times what the acceptance model, or the trace bank, expects of one. Assumes nothing.
use Rattle.std.specs.Prelude.{ℕ, zero, suc, ◌+◌, min, List, [], ◌∷◌, ◌++◌, length, get_or, drop, Float}
use Rattle.std.specs.Float.{nan}
use Rattle.float.specs.Floats.{times, whole}
use Rattle.acceptance.specs.Acceptance.{expected_to}
use Rattle.acceptance.specs.declared.AcceptanceModel.{AcceptanceModel}

-- the values of so many depths, from depth g on
unfoldable pub values_from : (ℕ → Float) → ℕ → ℕ → List Float
values_from value zero g = []
values_from value (suc count) g = value g ∷ values_from value count (suc g)

-- of the model, at the depths 0 to gamma
abbrev pub model_values : AcceptanceModel → List Float → ℕ → ℕ → List Float
model_values model positions n gamma = values_from (λ g. times (whole n) (expected_to model positions g)) (gamma + 1) 0

-- of the bank, whose curve ends at its depth: past that it is the value there
abbrev pub bank_values : List Float → ℕ → ℕ → ℕ → List Float
bank_values curve depth n gamma = values_from (λ g. times (whole n) (get_or curve (min g depth) nan)) (gamma + 1) 0

-- values that stand over the front of others
abbrev pub over : List Float → List Float → List Float
over values out = values ++ drop (length values) out
