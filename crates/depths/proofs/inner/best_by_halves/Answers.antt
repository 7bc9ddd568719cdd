-- `inner::best_by_halves` meets its contract: the best of one half against that of the other. Assumes nothing.
use mathlib.Core.Path.{refl, sym, ◌∙◌}
use Prim.Native.Nat.{◌/◌}
use native.Mathlib.Omega.{arith}
use lib.ListN.{length, length-take}
use lib.Seq.{length-take-le}
use Rattle.depths.proofs.Halves.{halves_joined}
use Rattle.depths.proofs.inner.best_by_halves.Goals as goal

pub slice_bounds-best_in-end : goal.slice_bounds-best_in-end
slice_bounds-best_in-end c = sym (length-take-le _ _ (omega arith))

pub best_in-low-requires : goal.best_in-low-requires
best_in-low-requires c = simp length-take (omega (arith, c.requires))

pub returns : goal.returns
returns c =
    let a = c.args in
    c.raised.ensures ∙ halves_joined a.from (length a.worths.now / 2) _ _ _ a.worths.now (omega arith) refl c.best_in-low.ensures c.best_in-high.ensures
