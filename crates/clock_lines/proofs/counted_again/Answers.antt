-- `clock_lines::counted_again` meets its contract: of some steps, the second and the steps; of none nothing, which the check finds. Assumes nothing.
use Rattle.std.proofs.Common.{arith}
use Rattle.page.proofs.Adding.{both}
use Rattle.clock_lines.proofs.Any.{some}
use Rattle.clock_lines.proofs.counted_again.Goals as goal

pub returns : goal.returns
returns c = some _ _ (λ n. absurd (omega (arith, n))) (both c.labelled-at.ensures c.labelled.ensures)
