-- `chances::front` meets its contract: the whole where there are no more. Assumes nothing.
use mathlib.Core.Path.{sym}
use native.Mathlib.Omega.{arith}
use lib.ListN.{length-take}
use lib.Seq.{take_all}
use Rattle.exported_batches.proofs.chances.front.Goals as goal

pub slice_bounds-result-end : goal.slice_bounds-result-end
slice_bounds-result-end c = simp length-take (omega arith)

pub returns-else-signal-gt64 : goal.returns-else-signal-gt64
returns-else-signal-gt64 c = sym (take_all 64 c.args.signal.now c.if-signal-gt64.false)
