-- `batch::lay_model` meets its contract: the same chain is laid for each sequence. Assumes nothing.
use mathlib.Core.Path.{◌≡◌, sym, ap, ◌∙◌}
use mathlib.Core.List.{List, ◌++◌}
use Prim.Native.Nat.{◌-◌, ◌+◌}
use native.Mathlib.Omega.{arith}
use lib.ListN.{take}
use lib.Seq.{sets, length-take-le}
use lib.Ieee.{Float}
use Rattle.chains.specs.Survival.{survival_chain}
use Rattle.rounds.specs.Signals.{model_chain, same_chains}
use Rattle.rounds.proofs.Laying.{laying_begins, laying_next, laying_is, laying_ends, same_all, same_next, same_ends, model_length, model_parts}
use Rattle.rounds.proofs.batch.lay_model.Goals as goal

pub loop-k-init : goal.loop-k-init
loop-k-init c = laying_is _ _ _ 0 _ _ (same_all _ _) (laying_begins _ _ c.requires.3)

pub slice_bounds-lay-end : goal.slice_bounds-lay-end
slice_bounds-lay-end c =
    let a = c.args in
    let e : c.chain-chain.result ≡ model_chain a.model a.positions.now a.gamma = c.chain-chain.ensures ∙ ap (λ (s : List Float). survival_chain s a.gamma) c.model_slots-signal.ensures in
    sym (length-take-le a.gamma c.chain-chain.result (omega (arith, model_length a.model a.positions.now a.gamma c.chain-chain.result c.requires.0 e, c.requires.0)))

pub overflow_mul-k : goal.overflow_mul-k
overflow_mul-k c = omega (arith, c.requires.1)

pub lay-requires : goal.lay-requires
lay-requires c =
    let a = c.args in
    let e : c.chain-chain.result ≡ model_chain a.model a.positions.now a.gamma = c.chain-chain.ensures ∙ ap (λ (s : List Float). survival_chain s a.gamma) c.model_slots-signal.ensures in
    let t = length-take-le a.gamma c.chain-chain.result (omega (arith, model_length a.model a.positions.now a.gamma c.chain-chain.result c.requires.0 e, c.requires.0)) in
    omega (arith, t, c.requires.0, c.requires.2, c.loop-k.invariant.long, c.loop-k-test.true)

pub loop-k-preserved : goal.loop-k-preserved
loop-k-preserved c =
    let a = c.args in
    let here = c.loop-k in
    let e : c.chain-chain.result ≡ model_chain a.model a.positions.now a.gamma = c.chain-chain.ensures ∙ ap (λ (s : List Float). survival_chain s a.gamma) c.model_slots-signal.ensures in
    let t = length-take-le a.gamma c.chain-chain.result (omega (arith, model_length a.model a.positions.now a.gamma c.chain-chain.result c.requires.0 e, c.requires.0)) in
    let r = same_chains c.chain-chain.result (a.n - (here.k + 1)) in
    let p = model_parts a.model a.positions.now a.gamma c.chain-chain.result c.requires.0 e in
    laying_next _ _ here.chains here.k (take a.gamma c.chain-chain.result) r _ (omega (arith, t, c.requires.0)) (omega (arith, c.requires.2, here.invariant.long, c.loop-k-test.true)) c.lay.ensures (laying_is _ _ here.chains here.k _ _ (same_next c.chain-chain.result a.n here.k c.loop-k-test.true ∙ ap (λ (x : List Float). x ++ r) p) here.invariant)

pub returns : goal.returns
returns c =
    let a = c.args in
    let here = c.loop-k in
    let e : c.chain-chain.result ≡ model_chain a.model a.positions.now a.gamma = c.chain-chain.ensures ∙ ap (λ (s : List Float). survival_chain s a.gamma) c.model_slots-signal.ensures in
    laying_ends _ _ here.chains here.k _ (same_ends c.chain-chain.result a.n here.k c.loop-k-test.false) here.invariant ∙ ap (λ (x : List Float). sets a.chains.now 0 (same_chains x a.n)) e
