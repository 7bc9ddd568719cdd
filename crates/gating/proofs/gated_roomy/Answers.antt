-- `gated_roomy` meets its contract. Assumes nothing.
use Prim.Native.Nat.{ℕ}
use native.Mathlib.Omega.{arith}
use lib.ListN.{length-replicate}
use lib.Ieee.{Float, binary64, of_bits}
use Rattle.gating.proofs.Batches.{all_same, all_zeros}
use Rattle.gating.proofs.gated_roomy.Goals as goal

pub gated_within-requires-clause-lengths_value : goal.gated_within-requires-clause-lengths_value
gated_within-requires-clause-lengths_value g c =
    let l = length-replicate {A = ℕ} g.row.N c.args.gamma in
    let m = length-replicate {A = Float} g.row.SLOTS (of_bits binary64 0) in
    (all_same g.row.N c.args.gamma, omega (arith, l, c.requires.room.0), omega (arith, m, c.requires.room.2), all_zeros g.row.SLOTS)
