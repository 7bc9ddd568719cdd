-- `sums::fill_passes` meets its contract. The invariant: the passes over fewer sequences stand in the list. Assumes nothing.
use mathlib.Core.Path.{refl}
use native.Mathlib.Omega.{arith}
use lib.ListN.{length-set}
use Rattle.trim.specs.Ragged.{pass_of}
use Rattle.trim.proofs.Adding.{passes_start, passes_more}
use Rattle.ragged.proofs.sums.fill_passes.Goals as goal

pub loop-m-init : goal.loop-m-init
loop-m-init c =
    let a = c.args in
    (refl, passes_start (pass_of a.kind a.rates a.loaded.now) a.passes.now 0 refl)

pub loop-m-preserved : goal.loop-m-preserved
loop-m-preserved c =
    let a = c.args in
    let at = c.loop-m in (
      simp length-set at.invariant.0,
      passes_more (pass_of a.kind a.rates a.loaded.now) at.passes at.m _ (omega (arith, at.invariant.0, c.requires, c.loop-m-test.true)) c.pass.ensures at.invariant.1,
    )

pub returns : goal.returns
returns c = record { each = λ m l. c.loop-m.invariant.1 m (omega (arith, c.loop-m-test.false)) }
