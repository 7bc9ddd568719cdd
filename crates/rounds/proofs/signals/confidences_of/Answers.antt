-- `signals::confidences_of` meets its contract. Assumes nothing.
use Prim.Native.Nat.{◌≤◌}
use native.Mathlib.Omega.{arith}
use native.Mathlib.Nat.{mul-le-mul}
use Rattle.rounds.proofs.signals.confidences_of.Goals as goal

pub overflow_mul-at : goal.overflow_mul-at
overflow_mul-at c =
    let a = c.args in
    let i : a.index ≤ 4294967295 = omega arith in
    let d : a.depth ≤ 4294967295 = omega arith in
    omega (arith, mul-le-mul i d)
