-- `batch::lay_rounds` meets its contract: the chains from each sequence on are laid from its slots on. Assumes nothing.
use mathlib.Core.Path.{ap, ◌∙◌}
use mathlib.Core.List.{List, ◌++◌}
use Prim.Native.Nat.{◌≤◌, ◌+◌}
use native.Mathlib.Omega.{arith}
use lib.ListN.{length, take, drop, get_or}
use lib.Ieee.{Float}
use Rattle.float.specs.Floats.{f1}
use Rattle.chains.specs.Survival.{products}
use Rattle.rounds.specs.Signals.{slots, round_chains}
use Rattle.rounds.proofs.Laying.{laying_begins, laying_next, laying_is, laying_ends, rounds_next, rounds_end, round_front, front_few}
use Rattle.rounds.proofs.batch.lay_rounds.Goals as goal

pub loop-k-init : goal.loop-k-init
loop-k-init c = laying_begins _ _ c.requires.2

pub loop-k-preserved : goal.loop-k-preserved
loop-k-preserved c =
    let a = c.args in
    let here = c.loop-k in
    let i = get_or a.indices.now here.k 0 in
    let front = products f1 (take a.gamma (slots c.confidences_of-confidences.result.now)) in
    let e = round_front a.signals.now a.depth a.gamma a.indices.now i c.confidences_of-confidences.result.now c.requires.0 c.confidences_of-confidences.ensures in
    let l : length front ≤ 64 = front_few a.signals.now a.depth a.gamma a.indices.now c.confidences_of-confidences.result.now c.requires.0 in
    let r = round_chains a.signals.now a.depth a.gamma (drop (here.k + 1) a.indices.now) in
    laying_next _ _ here.chains here.k front r _ l (omega (arith, c.requires.1, here.invariant.long, c.loop-k-test.true)) c.lay_round.ensures (laying_is _ _ here.chains here.k _ _ (rounds_next a.signals.now a.depth a.gamma a.indices.now here.k c.loop-k-test.true ∙ ap (λ (x : List Float). x ++ r) e) here.invariant)

pub returns : goal.returns
returns c =
    let a = c.args in
    let here = c.loop-k in
    laying_ends _ _ here.chains here.k _ (rounds_end a.signals.now a.depth a.gamma a.indices.now here.k c.loop-k-test.false) here.invariant
