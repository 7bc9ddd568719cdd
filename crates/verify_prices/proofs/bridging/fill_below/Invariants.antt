-- `bridging::fill_below` meets its contract. The invariant: the depths that were passed have theirs, and `held` is the last one's. Assumes nothing.
use Prim.Native.Nat.{ℕ, ◌-◌, ◌<◌}
use mathlib.Core.Path.{◌≡◌}
use lib.ListN.{length, get_or}
use Rattle.verify_prices.specs.Bridge.{lower}
use Rattle.verify_prices.proofs.bridging.fill_below.Given as goal

abbrev pub invariant-loop-g : goal.invariant-loop-g
invariant-loop-g l =
    (length l.spans ≡ 130) × ((l.held ≡ lower l.curve (l.g - 1)) × ((k : ℕ) → k < l.g → get_or l.spans k 0 ≡ lower l.curve k))
