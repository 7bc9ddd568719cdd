-- `inner::chain` meets its contract: its loop writes the running products (`Fill`). Assumes nothing.
use lib.ListN.{take}
use lib.Ieee.{nan}
use Rattle.float.specs.Floats.{f0, f1}
use Rattle.chains.specs.Survival.{survive, products}
use Rattle.chains.proofs.Fill.{Filled}
use Rattle.chains.proofs.inner.chain.Given as goal

abbrev pub invariant-loop-d : goal.invariant-loop-d
invariant-loop-d l = Filled survive survive nan f0 64 (take l.length l.signal) (products f1 (take l.length l.signal)) l.out l.s l.d
