-- Worked examples of the definitions, computed. Assumes nothing.
use mathlib.Core.Path.{◌≡◌, refl}
use mathlib.Core.List.{[], ◌∷◌}
use Prim.Native.Nat.{ℕ}
use lib.Ieee.{Float, binary64, of_bits, lt, mul}
use Rattle.cost_rows.specs.Table.{Row}
use Rattle.cost_rows.specs.Prune.{kept, dropped, above}
use Rattle.cost_rows.specs.Order.{sorted, insert, earlier, before}

abbrev row : ℕ → ℕ → Float → Row
row g b x = record { depth = g; batch = b; seconds = x }

abbrev one : Float
one = of_bits binary64 0x3ff0_0000_0000_0000

abbrev two : Float
two = of_bits binary64 0x4000_0000_0000_0000

-- 1.3, 1.5 and 1.9
abbrev thirteen : Float
thirteen = of_bits binary64 0x3ff4_cccc_cccc_cccd

abbrev fifteen : Float
fifteen = of_bits binary64 0x3ff8_0000_0000_0000

abbrev nineteen : Float
nineteen = of_bits binary64 0x3ffe_6666_6666_6666

-- batches 1, 2 and 4: 1.5 is above 1.3 times 1.0, and 1.9 is not above 1.3 times 1.5, the next one before any dropping
next_before_dropping : kept (row 0 1 nineteen ∷ row 0 2 fifteen ∷ row 0 4 one ∷ []) ≡ row 0 1 nineteen ∷ row 0 4 one ∷ []
unfolding kept dropped above lt mul of_bits
next_before_dropping = refl

-- 1.3 is not above 1.3 times 1.0
just_as_much : kept (row 0 1 thirteen ∷ row 0 2 one ∷ []) ≡ row 0 1 thirteen ∷ row 0 2 one ∷ []
unfolding kept dropped above lt mul of_bits
just_as_much = refl

-- a row of another depth plays no part, and the last row of a depth stays
other_depth : kept (row 0 1 two ∷ row 0 2 one ∷ row 1 1 two ∷ row 2 1 one ∷ []) ≡ row 0 2 one ∷ row 1 1 two ∷ row 2 1 one ∷ []
unfolding kept dropped above lt mul of_bits
other_depth = refl

-- depth, then batch, then as given
in_order : sorted (row 1 1 one ∷ row 0 4 one ∷ row 0 2 two ∷ row 0 2 one ∷ []) ≡ row 0 2 two ∷ row 0 2 one ∷ row 0 4 one ∷ row 1 1 one ∷ []
unfolding sorted insert earlier before
in_order = refl
