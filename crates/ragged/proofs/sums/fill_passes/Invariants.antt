-- `sums::fill_passes` meets its contract. The invariant: the passes over fewer sequences stand in the list. Assumes nothing.
use Prim.Native.Nat.{ℕ, ◌<◌}
use mathlib.Core.Path.{◌≡◌}
use lib.ListN.{length}
use Rattle.trim.specs.Ragged.{pass_of}
use Rattle.trim.specs.Kept.{listed}
use Rattle.ragged.proofs.sums.fill_passes.Given as goal

abbrev pub invariant-loop-m : goal.invariant-loop-m
invariant-loop-m l = (length l.passes ≡ length l.initial.passes) × ((j : ℕ) → j < l.m → listed l.passes j ≡ pass_of l.kind l.rates l.loaded j)
