-- `first_entries` meets its contract: the part has `last` + 1 entries, and where there are no more than that it is the whole. Assumes nothing.
use mathlib.Core.Path.{sym}
use Prim.Native.Nat.{◌+◌}
use native.Mathlib.Omega.{arith}
use lib.ListN.{length-take}
use lib.Seq.{take_all}
use Rattle.asked_values.proofs.inner.first_entries.Goals as goal

pub slice_bounds-result-end : goal.slice_bounds-result-end
slice_bounds-result-end c = simp length-take (omega arith)

pub returns-else-last-s : goal.returns-else-last-s
returns-else-last-s c = sym (take_all (c.args.last + 1) c.args.s.now (omega arith))
