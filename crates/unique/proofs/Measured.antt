-- The contracts of `measured` leave one outcome each. Assumes nothing.
use mathlib.Core.List.{List}
use mathlib.Core.Path.{◌≡◌}
use Prim.Native.Nat.{ℕ}
use lib.Ieee.{Float}
use Rattle.measured.specs.Fill.{Outcome, table_read}
use Rattle.measured.specs.Judge.{Answer}
use Rattle.unique.specs.Only.{OnlyFour}
use Rattle.unique.proofs.Law.{four_once}

pub read_once : (text depths batches : List ℕ) (seconds : List Float) → OnlyFour (λ (r : Answer) (depths' : List ℕ) (batches' : List ℕ) (seconds' : List Float). record { answer = r; depths = depths'; batches = batches'; seconds = seconds' } ≡ table_read text depths batches seconds)
read_once text depths batches seconds x b c d y b' c' d' p q = four_once (λ (o : Outcome). o.answer) (λ (o : Outcome). o.depths) (λ (o : Outcome). o.batches) (λ (o : Outcome). o.seconds) p q
