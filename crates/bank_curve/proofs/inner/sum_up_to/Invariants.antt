-- `bank_curve::inner::sum_up_to` meets its contract: at each round the sum is what was added and that of the rounds from there on. Assumes nothing.
use mathlib.Core.Path.{◌≡◌}
use Prim.Native.Nat.{◌≤◌, ◌+◌, ◌*◌}
use lib.ListN.{drop}
use Rattle.bank_curve.specs.Curve.{sum_up_to}
use Rattle.bank_curve.proofs.inner.sum_up_to.Given as goal

abbrev pub invariant-loop-drafts : goal.invariant-loop-drafts
invariant-loop-drafts l = (l.sum ≤ 64 * l.drafts-index) × (sum_up_to l.g l.commits ≡ l.sum + sum_up_to l.g (drop l.drafts-index l.commits))
