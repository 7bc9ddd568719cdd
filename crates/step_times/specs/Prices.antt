-- The price of a step at each depth up to 64. Assumes nothing.
use Rattle.std.specs.Prelude.{ℕ, zero, suc, List, [], ◌∷◌, Float, Option, Some, None}
use Rattle.std.specs.Float.{binary64}
use Rattle.std.specs.Float.Ieee.{of_bits}
use Rattle.float.specs.Floats.{plus, times, max_of, infinity}
use Rattle.nearest_row.specs.declared.Nearest.{Nearest}
use Rattle.cost_rows.specs.Table.{Row}
use Rattle.nearest_row.specs.Lookup.{nearest}

-- 0.25
abbrev pub quarter : Float
quarter = of_bits binary64 0x3fd0_0000_0000_0000

-- the price of a depth: +infinity where it is not measured
unfoldable pub price_of : Float → Option Nearest → Float
unfolding max_of
price_of kv None = infinity
price_of kv (Some near) = max_of (plus near.seconds kv) (times quarter near.seconds)

-- what f gives of g and of the k - 1 numbers after it
unfoldable pub each : (ℕ → Float) → ℕ → ℕ → List Float
each f zero g = []
each f (suc k) g = f g ∷ each f k (suc g)

-- the prices of the depths 0 to 64
unfoldable pub prices : ℕ → Float → List Row → List Float
unfolding each price_of nearest
prices batch kv t = each (λ g. price_of kv (nearest batch g t)) 65 0
