-- Each way out of the functions over the workers, over plain variables. Assumes nothing.
use mathlib.Core.Path.{◌≡◌}
use mathlib.Core.Bool.{true}
use mathlib.Core.List.{List}
use Prim.Native.Nat.{ℕ, ◌≤◌, ◌<◌}
use borrow.Author.Tests.{ltb-true}
use lib.Dec.{ltb}
use Rattle.ledger_rows.proofs.Tests.{both}
use Rattle.ledger_rows.proofs.Search.{searched_within}
use Rattle.ledger_rows.specs.declared.layout.Place.{Place}
use Rattle.ledger_rows.specs.Layout.{workers_held}
use Rattle.ledger_workers.specs.Workers.{earlier_worker, worker_row, worker_place}

module _ (ws : List ℕ) (a b : ℕ) where
  -- a place that is known is a row
  pub worker_in : (p : Place) → p ≡ worker_place ws a b → p.known ≡ true → p.row < p.rows
  unfolding worker_place
  worker_in p e k = rw e (ltb-true _ _ (both (ltb (worker_row ws a b) (workers_held ws)) _ (rw e at k)))

  pub worker_rows : (p : Place) → p ≡ worker_place ws a b → p.rows ≡ workers_held ws
  unfolding worker_place
  worker_rows p e = rw e

  pub worker_within : (p : Place) → p ≡ worker_place ws a b → p.row ≤ p.rows
  unfolding worker_place worker_row
  worker_within p e = rw e (searched_within (earlier_worker ws a b) (workers_held ws))
