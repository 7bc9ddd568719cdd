-- `are_chains` meets its contract: from each sequence on, the answer is that of the chains left. Assumes nothing.
use mathlib.Core.Path.{sym, ◌∙◌}
use mathlib.Core.Bool.{true, false}
use native.Mathlib.Omega.{arith}
use Rattle.chain_tests.proofs.Batches.{chain_long, chain_tested, chains_end}
use Rattle.chain_tests.proofs.are_chains.Goals as goal

pub returns-then-long-gt64 : goal.returns-then-long-gt64
returns-then-long-gt64 c =
    let a = c.args in
    sym (c.loop-k.invariant ∙ chain_long a.gamma a.lengths.now a.chains.now c.loop-k.k c.loop-k-test.true c.if-long-gt64.true)

pub returns-then-not-are_survivals : goal.returns-then-not-are_survivals
returns-then-not-are_survivals c =
    let a = c.args in
    sym (c.loop-k.invariant ∙ chain_tested a.gamma a.lengths.now a.chains.now c.loop-k.k _ false c.loop-k-test.true c.if-long-gt64.false (omega (arith, c.min.ensures)) (sym c.are_survivals.ensures ∙ c.if-not-are_survivals.true))

pub loop-k-preserved : goal.loop-k-preserved
loop-k-preserved c =
    let a = c.args in
    c.loop-k.invariant ∙ chain_tested a.gamma a.lengths.now a.chains.now c.loop-k.k _ true c.loop-k-test.true c.if-long-gt64.false (omega (arith, c.min.ensures)) (sym c.are_survivals.ensures ∙ c.if-not-are_survivals.false)

pub returns : goal.returns
returns c =
    let a = c.args in
    sym (c.loop-k.invariant ∙ chains_end a.gamma a.lengths.now a.chains.now c.loop-k.k c.loop-k-test.false)
