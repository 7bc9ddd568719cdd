-- `draws::are_below` meets its contract: nothing is told while the indices so far are below the round count. Assumes nothing.
use mathlib.Core.Path.{◌≡◌}
use Prim.Native.Nat.{ℕ, ◌<◌}
use lib.ListN.{get_or}
use Rattle.plan_draws.proofs.draws.are_below.Given as goal

abbrev pub invariant-loop-index : goal.invariant-loop-index
invariant-loop-index l = l.told ≡ 0 → (k : ℕ) → k < l.index-index → get_or l.indices k 0 < l.rounds
