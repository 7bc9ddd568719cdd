-- `lent::are_short` meets its contract: where the patterns so far are small, what was passed is in range. Assumes nothing.
use Rattle.std.proofs.Common.{arith, ltb-true}
use Rattle.float.proofs.Classes.{clash}
use Rattle.cost_lookup.proofs.Small.{small_left, passed_next, all_quarters}
use Rattle.cost_lookup.proofs.lent.are_short.Goals as goal

pub returns-then-n-lt4 : goal.returns-then-n-lt4
returns-then-n-lt4 c = λ h. clash h

pub loop-i-init : goal.loop-i-init
loop-i-init c = (c.last_three-low.ensures, λ h k l. absurd (omega arith), λ h k l. absurd (omega arith))

pub loop-i-preserved : goal.loop-i-preserved
loop-i-preserved c =
    let v = c.loop-i.invariant in
    (λ h. v.0 (small_left _ _ h), passed_next _ _ _ _ c.loop-i.i v.1 c.pair-low.ensures, passed_next _ _ _ _ c.loop-i.i v.2 c.pair-high.ensures)

pub returns : goal.returns
returns c =
    let v = c.loop-i.invariant in
    λ h. all_quarters c.args.seconds.now c.args.n _ c.loop-i.low c.loop-i.high c.loop-i.i (omega arith) (omega arith) v.0 v.1 v.2 (ltb-true _ _ h)
