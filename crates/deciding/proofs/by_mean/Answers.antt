-- `by_mean` meets its contract. Assumes nothing.
use mathlib.Core.List.{[]}
use native.Mathlib.Omega.{arith}
use Rattle.asking.proofs.Passed.{gamma_in_le}
use Rattle.deciding.specs.Ready.{lent_of}
use Rattle.deciding.proofs.Decisions.{mean_decides}
use Rattle.deciding.proofs.by_mean.Goals as goal

pub mean_depth-depth-requires-clause-gamma_bound : goal.mean_depth-depth-requires-clause-gamma_bound
mean_depth-depth-requires-clause-gamma_bound c = let a = c.args in
    let e = c.gamma_in-gamma.ensures in (omega (arith, e, gamma_in_le a.settings a.ask.depth, c.requires.gamma_bound.0), omega (arith, e, c.requires.gamma_bound.2))

pub mean_depth-depth-requires-clause-gamma_in_bounds : goal.mean_depth-depth-requires-clause-gamma_in_bounds
mean_depth-depth-requires-clause-gamma_in_bounds c = let a = c.args in
    let e = c.gamma_in-gamma.ensures in λ t. omega (arith, e, c.requires.depth_in_bounds t)

pub returns : goal.returns
returns c =
    let a = c.args in
    mean_decides a.settings a.ask (lent_of a.positions.now a.loaded.now [] a.bank_curve.now []) a.curve.now _ _ _ _ c.gamma_in-gamma.ensures c.mean_depth-depth.ensures (c.fill.ensures.after (λ y e. e)) c.requires.gamma_bound.1
