-- `judging::first_of` meets its contract: the part has n entries, and where there are no more than that it is the whole. Assumes nothing.
use mathlib.Core.Path.{sym}
use native.Mathlib.Omega.{arith}
use lib.ListN.{length-take}
use lib.Seq.{take_all}
use Rattle.planning.proofs.judging.first_of.Goals as goal

pub slice_bounds-result-end : goal.slice_bounds-result-end
slice_bounds-result-end c = simp length-take (omega arith)

pub returns-else-n-indices : goal.returns-else-n-indices
returns-else-n-indices c = sym (take_all c.args.n c.args.indices.now (omega arith))
