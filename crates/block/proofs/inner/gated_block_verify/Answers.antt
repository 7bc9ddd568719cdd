-- `inner::gated_block_verify` meets its contract, by those of the functions that it calls. Assumes nothing.
use Prim.Native.Nat.{ℕ}
use mathlib.Core.Path.{sym, ap, ◌∙◌}
use lib.ListN.{length, replicate}
use Rattle.verify_prices.specs.Rule.{rule_of}
use Rattle.block.proofs.Whole.{block_none, block_shut, block_some}
use Rattle.block.proofs.inner.gated_block_verify.Goals as goal

pub returns-then-depth-eq0 : goal.returns-then-depth-eq0
returns-then-depth-eq0 c =
    let a = c.args in
    block_none (rule_of a.mode a.curve.now (length a.lengths.now)) a.chains.now a.lengths.now a.curve.now a.depth a.kind a.rates a.loaded.now
    _ c.if-depth-eq0.true (c.fill.ensures.after (λ y e. e) ∙ ap (λ (m : ℕ). replicate m 0) c.requires.widths_len)

pub returns-then-is_shut : goal.returns-then-is_shut
returns-then-is_shut c =
    let a = c.args in
    block_shut (rule_of a.mode a.curve.now (length a.lengths.now)) a.chains.now a.lengths.now a.curve.now a.depth a.kind a.rates a.loaded.now
    _ c.if-depth-eq0.false (sym c.is_shut.ensures ∙ c.if-is_shut.true) c.start_widths.ensures

pub returns : goal.returns
returns c =
    let a = c.args in
    block_some (rule_of a.mode a.curve.now (length a.lengths.now)) a.chains.now a.lengths.now a.curve.now a.depth a.kind a.rates a.loaded.now
    _ _ _ c.if-depth-eq0.false (sym c.is_shut.ensures ∙ c.if-is_shut.false) c.loaded_at-experts.ensures c.seconds-draft.ensures c.verify_by.ensures
