-- `inner::still_drafting` meets its contract: what was counted and the count of what is left make the whole. Assumes nothing.
use mathlib.Core.Path.{◌≡◌}
use Prim.Native.Nat.{◌≤◌, ◌+◌}
use lib.ListN.{drop}
use Rattle.draft_inputs.specs.Inputs.{still_drafting}
use Rattle.draft_inputs.proofs.inner.still_drafting.Given as goal

abbrev pub invariant-loop-w : goal.invariant-loop-w
invariant-loop-w l = (l.n ≤ l.w-index) × (l.n + still_drafting (drop l.w-index l.widths) l.k ≡ still_drafting l.widths l.k)
