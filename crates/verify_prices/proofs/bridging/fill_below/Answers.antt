-- `bridging::fill_below` meets its contract. The invariant: the depths that were passed have theirs, and `held` is the last one's. Assumes nothing.
use Prim.Native.Nat.{◌+◌, ◌-◌}
use mathlib.Core.Path.{◌≡◌, sym, ap, ◌∙◌}
use native.Mathlib.Omega.{arith}
use lib.ListN.{length-set}
use Rattle.verify_prices.specs.Bridge.{lower}
use Rattle.verify_prices.proofs.Spans.{lower_le, lower_start, lower_next, filled_up}
use Rattle.verify_prices.proofs.bridging.fill_below.Goals as goal

pub loop-g-init : goal.loop-g-init
loop-g-init c = (c.requires.1, (lower_start c.args.curve.now, λ k l. absurd (omega arith)))

pub overflow_cast-spans : goal.overflow_cast-spans
overflow_cast-spans c =
    let e = lower_next c.args.curve.now c.loop-g.g c.loop-g.held _ c.loop-g.invariant.1.0 c.nearer-held.ensures in
    omega (arith, e, lower_le c.args.curve.now c.loop-g.g, c.loop-g-test.true, c.requires.0)

pub loop-g-preserved : goal.loop-g-preserved
loop-g-preserved c =
    let at = c.loop-g in
    let curve = c.args.curve.now in
    let e = lower_next curve at.g at.held _ at.invariant.1.0 c.nearer-held.ensures in
    let back : at.g + 1 - 1 ≡ at.g = omega arith in (
      simp length-set at.invariant.0,
      (e ∙ ap (lower curve) (sym back), filled_up (lower curve) at.spans at.g _ (omega (arith, at.invariant.0, c.loop-g-test.true, c.requires.0)) e at.invariant.1.1),
    )
