-- The contract of `ledger_sums` leaves one outcome. Assumes nothing.
use mathlib.Core.List.{List}
use mathlib.Core.Path.{◌≡◌}
use Prim.Native.Nat.{ℕ}
use Rattle.ledger_sums.specs.Sums.{sums_of}
use Rattle.ledger_sums.specs.declared.answer.Sums.{Sums}
use Rattle.refusals.specs.declared.Refusal.{Refusal}
use Rattle.std.specs.Prelude.{Result, Option}
use Rattle.unique.specs.Only.{OnlyOne}
use Rattle.unique.proofs.Law.{once}

pub sums_once : (storage : List ℕ) (row : ℕ) → OnlyOne (λ (r : Result (Option Sums) Refusal). r ≡ sums_of storage row)
sums_once storage row x y p q = once p q
