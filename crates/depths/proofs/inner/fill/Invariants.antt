-- `inner::fill` meets its contract: depth 0, which costs no drafts, and its loop over those above it (`Written`). Assumes nothing.
use mathlib.Core.Path.{◌≡◌}
use Prim.Native.Nat.{ℕ, ◌<◌}
use lib.Ieee.{Float}
use Rattle.float.specs.Floats.{f0}
use Rattle.depths.specs.Worths.{worth_at}
use Rattle.depths.proofs.Written.{Written}
use Rattle.depths.proofs.inner.fill.Given as goal

abbrev pub invariant-loop-g : goal.invariant-loop-g
invariant-loop-g t l =
    (seconds : ℕ → Float → Float) → ((v : Float) → seconds 0 v ≡ f0) → ((g : ℕ) (v x : Float) → 0 < g → goal.F-post t l.seconds g v x → x ≡ seconds g v)
    → Written (worth_at l.n l.expected seconds) l.curve l.initial.out l.out l.g
