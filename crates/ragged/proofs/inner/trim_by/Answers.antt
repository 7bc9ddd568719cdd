-- `inner::trim_by` meets its contract, by those of the two modes. Assumes nothing.
use mathlib.Core.Path.{sym, ap, ◌∙◌}
use lib.ListN.{length}
use Rattle.verify_prices.specs.Rule.{rule_of}
use Rattle.verify_prices.specs.declared.PriceMode.{PriceMode}
use Rattle.trim.specs.Ragged.{pass_of, ragged_widths}
use Rattle.ragged.proofs.inner.trim_by.Goals as goal

pub returns-in-Default : goal.returns-in-Default
returns-in-Default c =
    let a = c.args in
    c.trim_default.ensures ∙
    ap (λ (m : PriceMode). ragged_widths (pass_of a.kind a.rates a.loaded.now) (rule_of m a.curve.now (length a.widths.now)) a.chains.now a.depth a.widths.now) (sym c.in-Default.is)

pub returns-in-Bridged : goal.returns-in-Bridged
returns-in-Bridged c =
    let a = c.args in
    c.trim_bridged.ensures ∙
    ap (λ (m : PriceMode). ragged_widths (pass_of a.kind a.rates a.loaded.now) (rule_of m a.curve.now (length a.widths.now)) a.chains.now a.depth a.widths.now) (sym c.in-Bridged.is)
