-- `all_clear` meets its contract: the top bit is clear so far, and the entries left pass, where all do. Assumes nothing.
use mathlib.Core.Path.{◌≡◌}
use mathlib.Core.Bool.{Bool, ◌&&◌}
use Prim.Native.Nat.{ℕ, ◌^◌}
use lib.Dec.{ltb}
use lib.Ieee.{Float}
use lib.ListN.{drop}
use Rattle.chains.specs.Tests.{all_of}
use Rattle.chain_tests.proofs.all_clear.Given as goal

abbrev pub invariant-loop-x : goal.invariant-loop-x
invariant-loop-x g l =
    (test : Float → Bool) → ((x : Float) (a : ℕ) → goal.F-post g l.fault x a → ltb a (2 ^ 63) ≡ test x)
    → all_of test l.values ≡ (ltb l.faults (2 ^ 63) && all_of test (drop l.x-index l.values))
