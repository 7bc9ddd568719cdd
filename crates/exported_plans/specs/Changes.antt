-- What a plan makes of a worker's record, by numbers. Assumes nothing.
use Rattle.std.specs.Prelude.{ℕ, cond, eqb}
use Rattle.ledger.specs.declared.answer.Decision.{Decision}
use Rattle.ledger.specs.declared.answer.Decision.TheVariants.{Nothing, Put}

-- nothing for 0, else the record is put
unfoldable pub change_of : ℕ → ℕ → ℕ → ℕ → ℕ → ℕ → Decision
change_of puts a b width rounds stall = cond (eqb puts 0) Nothing (Put a b width rounds stall)
