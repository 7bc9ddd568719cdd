-- Survival chains. Assumes nothing.
use Rattle.std.specs.Prelude.{ℕ, ◌-◌, List, ◌++◌, take, replicate, Float}
use Rattle.float.specs.Floats.{times, f0, f1, clamp_unit}
use Rattle.chains.specs.Scan.{scan}

-- s times a confidence, clamped to 0..1
abbrev pub survive : Float → Float → Float
survive s a = times s (clamp_unit a)

-- the running products of s with the confidences
abbrev pub products : Float → List Float → List Float
products s confidences = scan survive survive s confidences

-- 64 slots: the running products of the first `length` confidences, and 0.0 past them
unfoldable pub survival_chain : List Float → ℕ → List Float
survival_chain signal length = products f1 (take length signal) ++ replicate (64 - length) f0
