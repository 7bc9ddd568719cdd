-- The price curve in force. Assumes nothing.
use Rattle.std.specs.Prelude.{ℕ, ◌+◌, List, take, Float}
use Rattle.goodput.specs.declared.curve.Source.{Source}
use Rattle.goodput.specs.declared.curve.Source.TheVariants.{Roofline, Table}

-- the measured curve where there is a table, else the roofline
abbrev pub source_of : List Float → List Float → Source → List Float
source_of roofline measured Roofline = roofline
source_of roofline measured Table = measured

-- its first gamma + 1 entries
abbrev pub in_force : List Float → List Float → Source → ℕ → List Float
in_force roofline measured source gamma = take (gamma + 1) (source_of roofline measured source)
