-- `weighing::verify_by` meets its contract, by those of the two modes. Assumes nothing.
use mathlib.Core.Path.{sym, ap, ◌∙◌}
use lib.ListN.{length}
use Rattle.verify_prices.specs.Rule.{price_by}
use Rattle.verify_prices.specs.declared.PriceMode.{PriceMode}
use Rattle.block.specs.Block.{block_widths}
use Rattle.block.proofs.weighing.verify_by.Goals as goal

pub returns-in-Default : goal.returns-in-Default
returns-in-Default c =
    let a = c.args in
    c.verify_default.ensures ∙
    ap (λ (m : PriceMode). block_widths (price_by m a.curve.now (length a.lengths.now)) a.chains.now a.depth a.draft a.lengths.now) (sym c.in-Default.is)

pub returns-in-Bridged : goal.returns-in-Bridged
returns-in-Bridged c =
    let a = c.args in
    c.verify_bridged.ensures ∙
    ap (λ (m : PriceMode). block_widths (price_by m a.curve.now (length a.lengths.now)) a.chains.now a.depth a.draft a.lengths.now) (sym c.in-Bridged.is)
