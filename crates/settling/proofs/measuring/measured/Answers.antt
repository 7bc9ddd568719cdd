-- `measuring::measured` meets its contract: the prices are worked out where there is a table. Assumes nothing.
use mathlib.Core.Path.{refl}
use Rattle.cost_rows.specs.Table.{zip}
use Rattle.goodput.specs.declared.curve.Source.{Source}
use Rattle.settings.proofs.Cases.{of_case}
use Rattle.settling.specs.Measured.{measured_by}
use Rattle.settling.proofs.measuring.measured.Goals as goal

pub prices-requires-clause-rows_in_bounds : goal.prices-requires-clause-rows_in_bounds
prices-requires-clause-rows_in_bounds c = let t = c.requires in t.long c.in-Table.is

pub prices-requires-clause-seconds_value : goal.prices-requires-clause-seconds_value
prices-requires-clause-seconds_value c = let t = c.requires in t.in_order c.in-Table.is

pub returns-in-Roofline : goal.returns-in-Roofline
returns-in-Roofline c =
    let a = c.args in
    of_case (λ (s : Source). measured_by s (zip a.ask.rows a.depths.now a.batches.now a.seconds.now)) _ _ _ c.in-Roofline.is refl

pub returns-in-Table : goal.returns-in-Table
returns-in-Table c =
    let a = c.args in
    of_case (λ (s : Source). measured_by s (zip a.ask.rows a.depths.now a.batches.now a.seconds.now)) _ _ _ c.in-Table.is c.prices.ensures
