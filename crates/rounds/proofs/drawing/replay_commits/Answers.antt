-- `drawing::replay_commits` meets its contract: what is left to replay is replayed from the index of the sequence on. Assumes nothing.
use mathlib.Core.Path.{sym, ◌∙◌}
use Prim.Native.Nat.{◌<◌}
use native.Mathlib.Omega.{arith}
use lib.ListN.{length, length-set}
use Rattle.rounds.proofs.Draws.{replay_absent, replay_refused, replay_next, replay_ends}
use Rattle.rounds.proofs.drawing.replay_commits.Goals as goal

pub returns-then-indices-k : goal.returns-then-indices-k
returns-then-indices-k c =
    let a = c.args in
    let here = c.loop-k in
    sym (here.invariant.1 ∙ replay_absent a.bank_commits.now a.rounds a.indices.now (length a.commits.now) here.k _ (omega (arith, c.loop-k-test.true, here.invariant.0)) c.if-indices-k.true)

pub returns-then-rounds-index : goal.returns-then-rounds-index
returns-then-rounds-index c =
    let a = c.args in
    let here = c.loop-k in
    sym (here.invariant.1 ∙ replay_refused a.bank_commits.now a.rounds a.indices.now (length a.commits.now) here.k _ (omega (arith, c.loop-k-test.true, here.invariant.0)) c.if-indices-k.false c.if-rounds-index.true)

pub loop-k-preserved : goal.loop-k-preserved
loop-k-preserved c =
    let a = c.args in
    let here = c.loop-k in
    let l : here.k < length a.commits.now = omega (arith, c.loop-k-test.true, here.invariant.0) in
    (length-set here.commits here.k _ ∙ here.invariant.0, here.invariant.1 ∙ replay_next a.bank_commits.now a.rounds a.indices.now (length a.commits.now) here.k _ l c.if-indices-k.false c.if-rounds-index.false)

pub returns : goal.returns
returns c =
    let a = c.args in
    let here = c.loop-k in
    sym (here.invariant.1 ∙ replay_ends a.bank_commits.now a.rounds a.indices.now (length a.commits.now) here.k _ c.loop-k.auto.k-end c.loop-k-test.false)
