-- `sums::tokens` meets its contract. The invariant: the sum of what is left, from the sum so far on as a float, is that of the whole; and the sum so far is
-- small enough to be held exactly. Assumes nothing.
use Prim.Native.Nat.{◌*◌, ◌≤◌}
use mathlib.Core.Path.{◌≡◌}
use lib.ListN.{drop}
use Rattle.float.specs.Floats.{f0, whole}
use Rattle.trim.specs.Ragged.{tokens_from}
use Rattle.ragged.proofs.sums.tokens.Given as goal

abbrev pub invariant-loop-width : goal.invariant-loop-width
invariant-loop-width l = (l.sum ≤ l.width-index * 65) × (tokens_from (whole l.sum) (drop l.width-index l.widths) ≡ tokens_from f0 l.widths)
