-- `sums::drafting` meets its contract. The invariant: the counts and the sum are those of the depths passed. Assumes nothing.
use mathlib.Core.Path.{◌≡◌}
use Rattle.trim.specs.Ragged.{passes_of}
use Rattle.trim.specs.Kept.{Counts, listed}
use Rattle.ragged.proofs.sums.drafting.Given as goal

abbrev pub invariant-loop-d : goal.invariant-loop-d
invariant-loop-d l = Counts l.nk l.widths l.d × (l.sum ≡ passes_of (listed l.passes) l.widths l.d)
