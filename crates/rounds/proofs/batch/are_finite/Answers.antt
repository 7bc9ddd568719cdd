-- `batch::are_finite` meets its contract: from each sequence on, the answer is that of the rounds left. Assumes nothing.
use mathlib.Core.Path.{sym, ap, ◌∙◌}
use mathlib.Core.Bool.{true, false}
use Rattle.float.specs.Floats.{is_finite}
use Rattle.chains.specs.Tests.{all_of}
use Rattle.rounds.proofs.Laying.{finite_next, finite_end}
use Rattle.rounds.proofs.batch.are_finite.Goals as goal

pub loop-index-preserved : goal.loop-index-preserved
loop-index-preserved c =
    let a = c.args in
    let here = c.loop-index in
    here.invariant ∙ finite_next a.signals.now a.depth a.gamma a.indices.now here.index-index true c.loop-index-test.true (ap (all_of is_finite) (sym c.confidences_of-confidences.ensures) ∙ sym c.are_finite.ensures ∙ c.if-not-are_finite.false)

pub returns-then-not-are_finite : goal.returns-then-not-are_finite
returns-then-not-are_finite c =
    let a = c.args in
    let here = c.loop-index in
    sym (here.invariant ∙ finite_next a.signals.now a.depth a.gamma a.indices.now here.index-index false c.loop-index-test.true (ap (all_of is_finite) (sym c.confidences_of-confidences.ensures) ∙ sym c.are_finite.ensures ∙ c.if-not-are_finite.true))

pub returns : goal.returns
returns c =
    let a = c.args in
    let here = c.loop-index in
    sym (here.invariant ∙ finite_end a.signals.now a.depth a.gamma a.indices.now here.index-index c.loop-index-test.false)
