-- `bridging::bridged_cost` meets its contract: the depths that were looked for are the definition's. Assumes nothing.
use native.Mathlib.Omega.{arith}
use mathlib.Core.Path.{refl}
use Rattle.verify_prices.proofs.Between.{spot, bridged_is}
use Rattle.verify_prices.proofs.bridging.bridged_cost.Goals as goal

pub bounds-curve-low : goal.bounds-curve-low
bounds-curve-low c =
    let a = c.args in
    let p = c.requires in
    let x = spot a.curve.now a.spans.now p.0 p.1 p.2 a.n a.t _ _ _ c.foot_of-s.ensures c.ceiling_of-top.ensures in
    omega (arith, x.ordered, x.on_curve)

pub bounds-curve-high : goal.bounds-curve-high
bounds-curve-high c =
    let a = c.args in
    let p = c.requires in
    let x = spot a.curve.now a.spans.now p.0 p.1 p.2 a.n a.t _ _ _ c.foot_of-s.ensures c.ceiling_of-top.ensures in
    omega (arith, x.on_curve)

pub straight-requires : goal.straight-requires
straight-requires c =
    let a = c.args in
    let p = c.requires in
    let x = spot a.curve.now a.spans.now p.0 p.1 p.2 a.n a.t _ _ _ c.foot_of-s.ensures c.ceiling_of-top.ensures in
    (x.ordered, omega (arith, x.on_curve, p.1))

pub returns : goal.returns
returns c =
    let a = c.args in
    let p = c.requires in
    bridged_is a.curve.now a.spans.now p.0 p.1 p.2 a.n a.t _ _ _ c.foot_of-s.ensures c.ceiling_of-top.ensures c.mean_width-w.ensures _ _ _ refl refl c.straight.ensures
