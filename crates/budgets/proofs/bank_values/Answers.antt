-- `bank_values` meets its contract. Assumes nothing.
use mathlib.Core.Path.{ap}
use Prim.Native.Nat.{ℕ, min}
use native.Mathlib.Omega.{arith}
use lib.ListN.{get_or}
use lib.Ieee.{nan}
use Rattle.float.specs.Floats.{times, whole}
use Rattle.budgets.proofs.Values.{value_next, values_ended}
use Rattle.budgets.proofs.bank_values.Goals as goal

pub loop-g-preserved : goal.loop-g-preserved
loop-g-preserved c =
    let a = c.args in
    let here = c.loop-g in
    value_next (λ g. times (whole a.n) (get_or a.curve.now (min g a.depth) nan)) a.gamma a.out.now here.out here.g c.requires.gamma_in_bounds here.invariant _
    (ap (λ (i : ℕ). times (whole a.n) (get_or a.curve.now i nan)) c.min-at.ensures) (omega (arith, c.loop-g-test.true))

pub returns : goal.returns
returns c =
    let a = c.args in
    let here = c.loop-g in
    values_ended (λ g. times (whole a.n) (get_or a.curve.now (min g a.depth) nan)) a.gamma a.out.now here.out here.g c.requires.gamma_in_bounds here.invariant (omega (arith, c.loop-g-test.false))
