-- `settling_lines::walked` meets its contract: past their end there are no more widths. Assumes nothing.
use mathlib.Core.Path.{sym}
use native.Mathlib.Omega.{arith}
use lib.Seq.{length-take-le, take_all}
use Rattle.settling_lines.proofs.walked.Goals as goal

pub slice_bounds-result-end : goal.slice_bounds-result-end
slice_bounds-result-end c = sym (length-take-le c.args.walks c.args.widths.now (omega arith))

pub returns-else-count-widths : goal.returns-else-count-widths
returns-else-count-widths c = sym (take_all c.args.walks c.args.widths.now (omega arith))
