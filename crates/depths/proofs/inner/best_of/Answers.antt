-- `inner::best_of` meets its contract: the best of one half against that of the other. Assumes nothing.
use mathlib.Core.Path.{◌≡◌, sym, ◌∙◌, ap}
use Prim.Native.Nat.{◌+◌, ◌/◌}
use native.Mathlib.Omega.{arith}
use lib.ListN.{length, length-take}
use lib.Seq.{length-take-le}
use Rattle.depths.specs.declared.inner.Best.{Best}
use Rattle.depths.proofs.Halves.{halves_joined}
use Rattle.depths.proofs.inner.best_of.Goals as goal

pub slice_bounds-best_by_halves-end : goal.slice_bounds-best_by_halves-end
slice_bounds-best_by_halves-end c = sym (length-take-le _ _ (omega arith))

pub best_by_halves-low-requires : goal.best_by_halves-low-requires
best_by_halves-low-requires c = simp length-take (omega (arith, c.requires))

pub returns : goal.returns
returns c =
    let ws = c.args.worths.now in
    let e : length ws / 2 ≡ 0 + length ws / 2 = omega arith in
    ap (λ (b : Best). b.depth) (c.raised-best.ensures ∙ halves_joined 0 (length ws / 2) _ _ _ ws (omega arith) e c.best_by_halves-low.ensures c.best_by_halves-high.ensures)
