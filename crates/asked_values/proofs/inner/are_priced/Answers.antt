-- `are_priced` meets its contract. Assumes nothing.
use mathlib.Core.Path.{sym, ap, ◌∙◌}
use mathlib.Core.List.{List}
use lib.Ieee.{Float}
use Rattle.goodput.specs.declared.curve.Source.{Source}
use Rattle.chains.specs.Tests.{all_of, is_price}
use Rattle.cost_rows.specs.Table.{zip}
use Rattle.asked_values.specs.Columns.{columns_fit}
use Rattle.asked_values.specs.Values.{prices_valued}
use Rattle.settings.proofs.Cases.{of_case}
use Rattle.asked_values.proofs.Judges.{table_tested}
use Rattle.asked_values.proofs.inner.are_priced.Goals as goal

pub returns-in-Roofline : goal.returns-in-Roofline
returns-in-Roofline c =
    let a = c.args in
    of_case (λ (s : Source). prices_valued s a.gamma a.roofline.now (zip a.rows a.depths.now a.batches.now a.seconds.now)) _ _ _ c.in-Roofline.is
    (c.are_prices.ensures ∙ ap (λ (l : List Float). all_of is_price l) c.first_entries.ensures)

pub returns-in-Table : goal.returns-in-Table
returns-in-Table c =
    let a = c.args in
    of_case (λ (s : Source). prices_valued s a.gamma a.roofline.now (zip a.rows a.depths.now a.batches.now a.seconds.now)) _ _ _ c.in-Table.is
    (
    c.is_ok.ensures.value ∙ table_tested a.rows a.depths.now a.batches.now a.seconds.now _
    (sym (ap (λ (s : Source). columns_fit s a.rows a.depths.now a.batches.now a.seconds.now) c.in-Table.is) ∙ c.requires)
    c.judge_table.ensures
    )
