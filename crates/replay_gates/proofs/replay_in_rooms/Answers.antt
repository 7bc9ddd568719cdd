-- The rooms are lent whole.
use Rattle.std.proofs.Common.{ℕ, sym}
use Rattle.std.proofs.lemmas.List.{length-replicate}
use lib.Ieee.{binary64, of_bits}
use Rattle.replay_gates.proofs.replay_in_rooms.Goals as goal

pub slice_bounds-replay-end : goal.slice_bounds-replay-end
slice_bounds-replay-end c = sym (length-replicate {A = ℕ} 1048576 0)

pub slice_bounds-replay-end-2 : goal.slice_bounds-replay-end-2
slice_bounds-replay-end-2 c = sym (length-replicate {A = ℕ} 65536 0)

pub slice_bounds-replay-end-3 : goal.slice_bounds-replay-end-3
slice_bounds-replay-end-3 c = sym (length-replicate {A = ℕ} 16384 0)

pub slice_bounds-replay-end-4 : goal.slice_bounds-replay-end-4
slice_bounds-replay-end-4 c = sym (length-replicate 65664 (of_bits binary64 0))
