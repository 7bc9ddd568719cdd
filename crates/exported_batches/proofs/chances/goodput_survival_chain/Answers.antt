-- `goodput_survival_chain` meets its contract: the chain of the slots, and one of it. Assumes nothing.
use mathlib.Core.Path.{refl, ap, ◌∙◌}
use mathlib.Core.List.{List}
use lib.Ieee.{Float}
use Rattle.rounds.specs.Signals.{slots}
use Rattle.goodput.specs.Survival.{survival_of}
use Rattle.exported_batches.proofs.Handed.{slot_there, slot_nowhere, front_short}
use Rattle.exported_batches.proofs.chances.goodput_survival_chain.Goals as goal

pub slots_of-held-requires : goal.slots_of-held-requires
slots_of-held-requires c = front_short c.args.signal.now _ c.front-confidences.ensures

pub returns-then-at-lt64 : goal.returns-then-at-lt64
returns-then-at-lt64 c =
    let a = c.args in
    let same = c.survival_chain-found.ensures ∙ ap (λ (s : List Float). survival_of s a.length) (c.slots_of-held.ensures ∙ ap slots c.front-confidences.ensures) in
    slot_there a.at _ _ _ same c.bits-first.ensures c.if-at-lt64.true

pub returns-else-at-lt64 : goal.returns-else-at-lt64
returns-else-at-lt64 c =
    let a = c.args in
    let same = c.survival_chain-found.ensures ∙ ap (λ (s : List Float). survival_of s a.length) (c.slots_of-held.ensures ∙ ap slots c.front-confidences.ensures) in
    slot_nowhere a.at _ _ _ same refl c.if-at-lt64.false
