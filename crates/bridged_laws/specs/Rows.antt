-- Words for what a table's rows have, and for a lookup's answer as a price. Assumes nothing.
use Rattle.std.specs.Prelude.{Bool, true, ◌&&◌, List, [], ◌∷◌, Float, Option, Some, None}
use Rattle.float.specs.Floats.{infinity}
use Rattle.cost_rows.specs.Table.{Row}

-- the seconds of every row pass a test
abbrev pub every_row : (Float → Bool) → List Row → Bool
every_row p [] = true
every_row p (r ∷ t) = p r.seconds && every_row p t

-- the seconds that a lookup found, and +infinity where it found none
abbrev pub or_infinity : Option Float → Float
or_infinity (Some x) = x
or_infinity None = infinity
