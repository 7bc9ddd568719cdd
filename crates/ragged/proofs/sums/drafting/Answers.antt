-- `sums::drafting` meets its contract. The invariant: the counts and the sum are those of the depths passed. Assumes nothing.
use Prim.Native.Nat.{◌+◌}
use mathlib.Core.Path.{◌≡◌, ap, ◌∙◌}
use native.Mathlib.Omega.{arith}
use Rattle.trim.specs.Ragged.{passes_of}
use Rattle.trim.specs.Kept.{listed}
use Rattle.trim.proofs.Adding.{passes_none, passes_next, still_few, counts_none, counts_next}
use Rattle.ragged.proofs.sums.drafting.Goals as goal

pub loop-d-init : goal.loop-d-init
loop-d-init c =
    let a = c.args in
    (counts_none a.nk.now a.widths.now c.requires.depth_bound.1, passes_none (listed a.passes.now) a.widths.now)

pub bounds-nk-d : goal.bounds-nk-d
bounds-nk-d c = omega (arith, c.loop-d.invariant.0.room, c.requires.depth_bound, c.loop-d-test.true)

pub bounds-passes-m : goal.bounds-passes-m
bounds-passes-m c = omega (arith, c.wide_enough-m.ensures, still_few c.args.widths.now (c.loop-d.d + 1), c.requires.widths_len_bound)

pub loop-d-preserved : goal.loop-d-preserved
loop-d-preserved c =
    let a = c.args in
    let at = c.loop-d in (
      counts_next at.nk a.widths.now at.d _ (omega (arith, c.loop-d-test.true, c.requires.depth_bound)) c.wide_enough-m.ensures at.invariant.0,
      passes_next (listed a.passes.now) a.widths.now at.d _ at.sum at.invariant.1 c.wide_enough-m.ensures,
    )

pub returns-clause-counts : goal.returns-clause-counts
returns-clause-counts c = let e : c.loop-d.d ≡ c.args.depth = omega (arith, c.loop-d-test.false) in rw e at c.loop-d.invariant.0

pub returns-clause-sum : goal.returns-clause-sum
returns-clause-sum c =
    let a = c.args in
    let e : c.loop-d.d ≡ a.depth = omega (arith, c.loop-d-test.false) in
    c.loop-d.invariant.1 ∙ ap (passes_of (listed a.passes.now) a.widths.now) e
