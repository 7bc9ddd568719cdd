-- `gate` meets its contract. Assumes nothing.
use mathlib.Core.Path.{sym, ◌∙◌}
use Rattle.laws.proofs.Choices.{first, second}
use Rattle.gating.proofs.gate.Goals as goal

pub returns-then-is_block : goal.returns-then-is_block
returns-then-is_block c = c.gated_block_verify.ensures ∙ first _ _ _ (sym c.is_block.ensures ∙ c.if-is_block.true)

pub returns : goal.returns
returns c = c.gated_ragged_draft.ensures ∙ second _ _ _ (sym c.is_block.ensures ∙ c.if-is_block.false)
