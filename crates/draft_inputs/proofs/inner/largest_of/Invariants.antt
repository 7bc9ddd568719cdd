-- `inner::largest_of` meets its contract: what was met and what is left have the largest of the whole. Assumes nothing.
use mathlib.Core.Path.{◌≡◌}
use Prim.Native.Nat.{max}
use lib.ListN.{drop}
use Rattle.draft_inputs.specs.Inputs.{largest}
use Rattle.draft_inputs.proofs.inner.largest_of.Given as goal

abbrev pub invariant-loop-w : goal.invariant-loop-w
invariant-loop-w l = max l.m (largest (drop l.w-index l.widths)) ≡ largest l.widths
