-- When a lent table is in range. Assumes nothing.
use Rattle.std.specs.Prelude.{Bool, true, ◌&&◌, List, [], ◌∷◌, Float}
use Rattle.std.specs.Float.{binary64}
use Rattle.std.specs.Float.Ieee.{of_bits, lt, le}
use Rattle.float.specs.Floats.{f0}
use Rattle.cost_rows.specs.Table.{Row}
use Rattle.cost_rows.specs.Order.{ordered}

-- 10 ^ 17
abbrev pub largest : Float
largest = of_bits binary64 0x4376_3457_85d8_a000

-- above zero, so that a NaN and a set sign bit are out, and at most 10 ^ 17
unfoldable pub in_range : Float → Bool
in_range x = lt f0 x && le x largest

-- all seconds in range
unfoldable pub all_in_range : List Row → Bool
unfolding in_range
all_in_range [] = true
all_in_range (r ∷ t) = in_range r.seconds && all_in_range t

-- seconds in range, depths ascending and batches never falling within a depth
unfoldable pub lawful : List Row → Bool
unfolding all_in_range ordered
lawful t = all_in_range t && ordered t
