-- `signals::part` meets its contract. Assumes nothing.
use lib.Seq.{length-take-le}
use mathlib.Core.Path.{sym}
use native.Mathlib.Omega.{arith}
use Rattle.rounds.proofs.Parts.{past_end, in_part, all_part}
use Rattle.rounds.proofs.signals.part.Goals as goal

pub returns-then-values-at : goal.returns-then-values-at
returns-then-values-at c = let a = c.args in past_end a.values.now a.at a.count c.if-values-at.true

pub slice_bounds-result-end-then-count-rest : goal.slice_bounds-result-end-then-count-rest
slice_bounds-result-end-then-count-rest c = sym (length-take-le c.args.count _ (omega (arith, c.if-count-rest.true)))

pub returns-then-count-rest : goal.returns-then-count-rest
returns-then-count-rest c = let a = c.args in in_part a.values.now a.at a.count

pub returns-else-count-rest : goal.returns-else-count-rest
returns-else-count-rest c = let a = c.args in all_part a.values.now a.at a.count c.if-count-rest.false
