-- `inner::add_chain` meets its contract. The invariant: what is summed, followed by what is left with the rest of the chain added, is the whole.
-- Assumes nothing.
use mathlib.Core.Path.{◌≡◌}
use mathlib.Core.List.{List, ◌++◌}
use Prim.Native.Nat.{ℕ, suc, ◌≤◌}
use lib.ListN.{length, take, drop}
use lib.Ieee.{Float}
use Rattle.chains.specs.Expected.{add_running, with_chain}
use Rattle.chains.proofs.inner.add_chain.Given as goal

pub record Added (chain sums out : List Float) (acc : Float) (d : ℕ) : Type 0 where
  pub low : d ≤ length chain
  pub long : length out ≡ length sums
  pub rest : take (suc d) out ++ add_running acc (drop d chain) (drop (suc d) out) ≡ with_chain chain sums

abbrev pub invariant-loop-d : goal.invariant-loop-d
invariant-loop-d l = Added l.chain l.initial.sums l.sums l.acc l.d
