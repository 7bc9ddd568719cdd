-- `bank_fill::inner::fill_row` meets its contract: at each field what is to be stored is that of the fields from there on. Assumes nothing.
use mathlib.Core.List.{List}
use Prim.Native.Nat.{ℕ, ◌≤◌}
use lib.Ieee.{Float}
use lib.ListN.{length, drop}
use Rattle.text.specs.Fields.{fields}
use Rattle.bank_fill.specs.Fill.{decimals_of}
use Rattle.bank_curve.proofs.Stores.{Storing}
use Rattle.bank_fill.proofs.inner.fill_row.Given as goal

abbrev pub values : List ℕ → ℕ → List Float
values s k = decimals_of (drop k (fields s))

abbrev pub invariant-loop-left : goal.invariant-loop-left
invariant-loop-left l =
    (length l.rest ≤ length l.line) × Storing (values l.line l.skip) l.initial.signals l.from l.signals l.at (values l.rest l.left)

abbrev pub decreases-loop-left : goal.decreases-loop-left
decreases-loop-left l = length l.rest
