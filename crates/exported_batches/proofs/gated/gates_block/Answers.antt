-- `gates_block` meets its contract: the drafter, the rates and the mode are those of their numbers, and the widths are as the gate left them. Assumes nothing.
use Rattle.speculative.specs.declared.drafter.DrafterCost.{DrafterCost}
use Rattle.speculative.specs.declared.drafter.Rates.{Rates}
use Rattle.verify_prices.specs.declared.PriceMode.{PriceMode}
use Rattle.gates.specs.Entry.{block_answer}
use Rattle.exported_batches.proofs.Handed.{widths_handed, gated_as}
use Rattle.exported_batches.proofs.gated.gates_block.Goals as goal

pub returns : goal.returns
returns c =
    let a = c.args in
    widths_handed _ _ _ _ c.of_gated.ensures (gated_as (λ (k : DrafterCost). λ (s : Rates). λ (m : PriceMode). block_answer a.chains.now a.lengths.now a.curve.now a.gamma k s a.loaded.now m a.widths.now) c.gated_block_verify-answer.ensures c.drafter_of-head.ensures c.rates_of-rates.ensures c.mode_of-prices.ensures)
