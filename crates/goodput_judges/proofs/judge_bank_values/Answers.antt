-- `judge_bank_values` meets its contract. Assumes nothing.
use mathlib.Core.Path.{refl}
use lib.Ieee.{lt, of_bits}
use Rattle.goodput_judges.proofs.judge_bank_values.Goals as goal

pub are_up_to-requires : goal.are_up_to-requires
unfolding lt of_bits
are_up_to-requires c = refl
