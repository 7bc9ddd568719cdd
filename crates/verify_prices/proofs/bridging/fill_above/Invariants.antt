-- `bridging::fill_above` meets its contract. The invariant: the depths from k on have theirs, and `held` is the one of k. Assumes nothing.
use Prim.Native.Nat.{ℕ, ◌+◌, ◌-◌, ◌≤◌, ◌<◌, min}
use mathlib.Core.Path.{◌≡◌}
use lib.ListN.{length, get_or}
use Rattle.verify_prices.specs.Bridge.{upper}
use Rattle.verify_prices.proofs.bridging.fill_above.Given as goal

abbrev pub invariant-loop-k : goal.invariant-loop-k
invariant-loop-k l =
    (length l.spans ≡ 130) × ((l.held ≡ upper l.curve (min l.k (length l.curve - 1)))
    × (((k : ℕ) → l.k ≤ k → k < length l.curve → get_or l.spans (65 + k) 0 ≡ upper l.curve k) × ((k : ℕ) → k < 65 → get_or l.spans k 0 ≡ get_or l.initial.spans k 0)))
