-- `sums::wide_enough` meets its contract: up to the smallest width every sequence drafts. Assumes nothing.
use mathlib.Core.Path.{sym}
use native.Mathlib.Omega.{arith}
use Rattle.ragged.proofs.Least.{still_all}
use Rattle.ragged.proofs.sums.wide_enough.Goals as goal

pub overflow_cast-result : goal.overflow_cast-result
overflow_cast-result c = omega (arith, c.requires.widths_len_bound)

pub returns-then-d-least : goal.returns-then-d-least
returns-then-d-least c =
    let a = c.args in
    sym (still_all a.widths.now a.d a.least (omega arith) c.requires.at_least)
