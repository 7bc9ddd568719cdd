-- `gated_within` meets its contract: what is laid at the front is the chains, and they are all that the gate is lent. Assumes nothing.
use mathlib.Core.Path.{sym, ap, ◌∙◌}
use mathlib.Core.List.{List}
use Prim.Native.Nat.{◌*◌}
use native.Mathlib.Omega.{arith}
use lib.ListN.{length, take}
use lib.Seq.{length-take-le}
use lib.Ieee.{Float}
use Rattle.gating.specs.Batch.{gate_over}
use Rattle.gating.proofs.Batches.{take_same, chains_long, laid_front, front_long}
use Rattle.gating.proofs.gated_within.Goals as goal

pub lay_chains-requires-clause-gamma_bound : goal.lay_chains-requires-clause-gamma_bound
lay_chains-requires-clause-gamma_bound c = (c.requires.batched.shallow, c.requires.batched.few, c.requires.lengths_value.2, c.requires.lengths_value.3)

pub lay_chains-requires-clause-sequences_in_bounds : goal.lay_chains-requires-clause-sequences_in_bounds
lay_chains-requires-clause-sequences_in_bounds c = c.requires.batched.indexed

pub slice_bounds-gate_laid-end-2 : goal.slice_bounds-gate_laid-end-2
slice_bounds-gate_laid-end-2 c = sym (length-take-le _ _ (omega (arith, c.requires.lengths_value.2)))

pub slice_bounds-gate_laid-end-3 : goal.slice_bounds-gate_laid-end-3
slice_bounds-gate_laid-end-3 c =
    let a = c.args in
    sym (length-take-le a.ask.sequences a.lengths.now c.requires.lengths_value.1)

pub gate_laid-requires-clause-lengths_value : goal.gate_laid-requires-clause-lengths_value
gate_laid-requires-clause-lengths_value c = let a = c.args in
    let n = a.ask.sequences in
    let same = ap (take n) c.requires.lengths_value.0 ∙ take_same n (length a.lengths.now) a.gamma c.requires.lengths_value.1 in (same, front_long (n * 64) _ (omega (arith, c.requires.lengths_value.2)))

pub gate_laid-requires-clause-gamma_bound : goal.gate_laid-requires-clause-gamma_bound
gate_laid-requires-clause-gamma_bound c = let a = c.args in
    let n = a.ask.sequences in
    let same = ap (take n) c.requires.lengths_value.0 ∙ take_same n (length a.lengths.now) a.gamma c.requires.lengths_value.1 in (c.requires.batched.shallow, c.requires.batched.few, c.requires.batched.priced, c.requires.batched.room)

pub returns : goal.returns
returns c =
    let a = c.args in
    let n = a.ask.sequences in
    let long = chains_long a.settings.model a.positions.now a.signals.now a.ask.depth a.indices.now n a.gamma c.requires.batched.shallow c.requires.batched.indexed in
    let front = ap (take (n * 64)) c.lay_chains.ensures ∙ laid_front a.chains.now _ (n * 64) long c.requires.lengths_value.2 in
    c.gate_laid.ensures ∙ ap (λ (l : List Float). gate_over a.own a.settings.prices a.settings.drafter a.ask.rates a.loaded.now a.curve.now n a.gamma l a.drafts.now) front
