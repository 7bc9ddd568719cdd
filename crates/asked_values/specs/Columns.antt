-- When the columns of a table are long enough, and its rows not too many. Assumes nothing.
use Rattle.std.specs.Prelude.{ℕ, Bool, true, ◌&&◌, List, leb, length, Float}
use Rattle.goodput.specs.declared.curve.Source.{Source}
use Rattle.goodput.specs.declared.curve.Source.TheVariants.{Roofline, Table}

-- a roofline has no columns
abbrev pub columns_fit : Source → ℕ → List ℕ → List ℕ → List Float → Bool
columns_fit Roofline rows d b s = true
columns_fit Table rows d b s = leb rows 4096 && (leb rows (length d) && (leb rows (length b) && leb rows (length s)))
