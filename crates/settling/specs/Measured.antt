-- What the measured prices lean on, and what is handed on where there is no table. Assumes nothing.
use Rattle.std.specs.Prelude.{◌≡◌, true, List, ℕ, ◌≤◌, length, replicate, Float}
use Rattle.float.specs.Floats.{f0}
use Rattle.cost_rows.specs.Table.{Row, zip}
use Rattle.cost_rows.specs.Order.{ordered}
use Rattle.step_times.specs.Prices.{prices}
use Rattle.goodput.specs.declared.curve.Source.{Source}
use Rattle.goodput.specs.declared.curve.Source.TheVariants.{Roofline, Table}

-- a table's columns hold its rows, which are in order
pub record Tabled (source : Source) (rows : ℕ) (d b : List ℕ) (s : List Float) : Type 0 where
  pub long : source ≡ Table → (rows ≤ length d) × (rows ≤ length b) × (rows ≤ length s)
  pub in_order : source ≡ Table → ordered (zip rows d b s) ≡ true

abbrev pub measured_by : Source → List Row → List Float
measured_by Roofline table = replicate 65 f0
measured_by Table table = prices 1 f0 table
