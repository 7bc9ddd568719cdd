-- What the code knows of all widths at once. Inner to the gate. Assumes nothing.
use Rattle.std.specs.Prelude.{ℕ, ◌≤◌, ◌<◌, List, length, get_or}

-- no width is below `least`
abbrev pub AtLeast : ℕ → List ℕ → Type 0
AtLeast least ws = (k : ℕ) → k < length ws → least ≤ get_or ws k 0
