-- `model_values` meets its contract: the product and the sum are the definition's at each depth. Assumes nothing.
use mathlib.Core.Path.{ap}
use native.Mathlib.Omega.{arith}
use Rattle.float.specs.Floats.{times, whole}
use Rattle.acceptance.specs.Acceptance.{expected_to}
use Rattle.acceptance.proofs.Expectation.{sum_starts, sum_next}
use Rattle.budgets.proofs.Copied.{copy_begins}
use Rattle.budgets.proofs.Values.{value_next, values_ended}
use Rattle.budgets.proofs.model_values.Goals as goal

pub loop-d-init : goal.loop-d-init
loop-d-init c = (copy_begins _ _, sum_starts _ _)

pub loop-d-preserved : goal.loop-d-preserved
loop-d-preserved c =
    let a = c.args in
    let here = c.loop-d in (
      value_next (λ g. times (whole a.n) (expected_to a.model a.positions.now g)) a.gamma a.out.now here.out here.d c.requires here.invariant.0 _
          (ap (times (whole a.n)) here.invariant.1.1) c.loop-d-test.true,
      sum_next a.model a.positions.now here.d _ _ _ here.invariant.1.0 here.invariant.1.1 c.a_d-prefix.ensures,
    )

pub returns : goal.returns
returns c =
    let a = c.args in
    let here = c.loop-d in
    values_ended (λ g. times (whole a.n) (expected_to a.model a.positions.now g)) a.gamma a.out.now here.out here.d c.requires here.invariant.0 (omega (arith, c.loop-d-test.false))
