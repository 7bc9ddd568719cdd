-- `are_finite` meets its contract: from each place on, the answer is that of the entries left. Assumes nothing.
use mathlib.Core.Path.{sym, ◌∙◌}
use mathlib.Core.Bool.{true, false}
use lib.Ieee.{nan}
use Rattle.float.specs.Floats.{is_finite}
use Rattle.chains.proofs.Tested.{all_next, all_end}
use Rattle.chain_tests.proofs.are_finite.Goals as goal

pub loop-x-preserved : goal.loop-x-preserved
loop-x-preserved c =
    let here = c.loop-x in
    here.invariant ∙ all_next is_finite nan true c.args.values.now here.x-index c.loop-x-test.true (sym c.is_finite.ensures ∙ c.if-not-is_finite.false)

pub returns-then-not-is_finite : goal.returns-then-not-is_finite
returns-then-not-is_finite c =
    let here = c.loop-x in
    sym (here.invariant ∙ all_next is_finite nan false c.args.values.now here.x-index c.loop-x-test.true (sym c.is_finite.ensures ∙ c.if-not-is_finite.true))

pub returns : goal.returns
returns c =
    let here = c.loop-x in
    sym (here.invariant ∙ all_end is_finite nan c.args.values.now here.x-index c.loop-x-test.false)
