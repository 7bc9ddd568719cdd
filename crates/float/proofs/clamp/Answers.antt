-- `float::clamp` meets its contract: where the first branch's arms meet, `y` is `x` raised to `low`. Assumes nothing.
use native.Mathlib.Omega.{arith}
use Rattle.float.proofs.Clamped.{raised_to, raised_not, clamp_above, clamp_not_above}
use Rattle.float.proofs.clamp.Goals as goal

pub returns-then-high-y : goal.returns-then-high-y
returns-then-high-y c = grind (arith, raised_to, raised_not, clamp_above)

pub returns-else-high-y : goal.returns-else-high-y
returns-else-high-y c = grind (arith, raised_to, raised_not, clamp_not_above)
