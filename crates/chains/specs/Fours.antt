-- Four chains at a time: what a step over four chains of one width does to the sums, and when it is taken. The answers do not name these. Assumes nothing.
use Rattle.std.specs.Prelude.{ℕ, ◌+◌, Bool, ◌&&◌, List, leb, get_or, take, drop, Float}
use Rattle.chains.specs.Expected.{with_chain}

-- one after the other, 64 slots each
abbrev pub with_four : ℕ → List Float → List Float → List Float
with_four width block sums =
    with_chain (take width (drop 192 block)) (with_chain (take width (drop 128 block)) (with_chain (take width (drop 64 block)) (with_chain (take width block) sums)))

-- the lengths of the four chains from k on are gamma or more
abbrev pub four_reach : ℕ → ℕ → List ℕ → Bool
four_reach gamma k lengths =
    leb gamma (get_or lengths k 0) && (leb gamma (get_or lengths (k + 1) 0) && (leb gamma (get_or lengths (k + 2) 0) && leb gamma (get_or lengths (k + 3) 0)))
