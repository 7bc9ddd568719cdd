-- `inner::fill` meets its contract: depth 0, which costs no drafts, and its loop over those above it (`Written`). Assumes nothing.
use mathlib.Core.Path.{sym}
use native.Mathlib.Omega.{arith}
use Rattle.depths.proofs.Worths.{drafted}
use Rattle.depths.proofs.Written.{first_written, first_next, first_all}
use Rattle.depths.proofs.inner.fill.Goals as goal

pub loop-g-init : goal.loop-g-init
loop-g-init t c = λ seconds none says.
    first_written _ c.args.curve.now c.args.out.now _ c.requires.curve_nonzero.0 c.requires.curve_in_bounds (drafted _ _ _ _ _ _ (sym (none _)) c.worth.ensures)

pub loop-g-preserved : goal.loop-g-preserved
loop-g-preserved t c = λ seconds none says.
    first_next _ _ c.args.out.now c.worth.result c.requires.curve_nonzero.0 c.requires.curve_in_bounds c.loop-g-test.true
    (drafted _ _ _ _ _ _ (says _ _ _ (omega arith) c.seconds.ensures) c.worth-in-loop-g.ensures) (c.loop-g.invariant seconds none says)

pub returns : goal.returns
returns t c = λ seconds none says.
    first_all _ _ c.args.out.now _ c.requires.curve_nonzero.0 c.requires.curve_in_bounds c.loop-g-test.false (c.loop-g.invariant seconds none says)
