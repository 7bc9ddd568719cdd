-- `mean::mean_depth` meets its contract. Assumes nothing.
use native.Mathlib.Omega.{arith}
use lib.ListN.{length-take}
use Rattle.deciding.proofs.Means.{mean_is}
use Rattle.deciding.proofs.mean.mean_depth.Goals as goal

pub slice_bounds-depth_over-end : goal.slice_bounds-depth_over-end
slice_bounds-depth_over-end c = simp length-take (omega (arith, c.requires))

pub returns : goal.returns
returns c =
    let a = c.args in
    mean_is a.settings a.ask a.gamma a.positions.now a.loaded.now a.bank_curve.now a.curve.now _ _ _ _ c.requires.gamma_bound.1 c.expect.ensures c.loaded_at-experts.ensures c.depth_over.ensures
