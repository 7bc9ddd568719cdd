-- `draws::are_below` meets its contract: nothing is told while the indices so far are below the round count. Assumes nothing.
use Prim.Native.Nat.{ℕ, ◌<◌}
use native.Mathlib.Omega.{arith}
use borrow.Author.Count.{below_more}
use borrow.Author.Tests.{eqb-true}
use lib.ListN.{get_or}
use Rattle.plan_draws.proofs.draws.are_below.Goals as goal

pub loop-index-preserved : goal.loop-index-preserved
loop-index-preserved c =
    let a = c.args in
    let here = c.loop-index in
    λ z. below_more (λ (k : ℕ). get_or a.indices.now k 0 < a.rounds) here.index-index (here.invariant (c.above-told.ensures z).0) (c.above-told.ensures z).1

pub returns : goal.returns
returns c = λ t k h. c.loop-index.invariant (eqb-true c.loop-index.told 0 t) k (omega (arith, h))
