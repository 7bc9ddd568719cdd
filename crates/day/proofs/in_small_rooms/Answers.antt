-- The rooms are lent whole.
use Rattle.std.proofs.Common.{ℕ, sym}
use Rattle.std.proofs.lemmas.List.{length-replicate}
use lib.Ieee.{binary64, of_bits}
use Rattle.day.proofs.in_small_rooms.Goals as goal

pub slice_bounds-argument-end : goal.slice_bounds-argument-end
slice_bounds-argument-end c = sym (length-replicate {A = ℕ} 262144 0)

pub slice_bounds-argument-end-2 : goal.slice_bounds-argument-end-2
slice_bounds-argument-end-2 c = sym (length-replicate {A = ℕ} 262144 0)

pub slice_bounds-argument-end-3 : goal.slice_bounds-argument-end-3
slice_bounds-argument-end-3 c = sym (length-replicate 262144 (of_bits binary64 0))

pub slice_bounds-argument-end-4 : goal.slice_bounds-argument-end-4
slice_bounds-argument-end-4 c = sym (length-replicate {A = ℕ} 75776 0)
