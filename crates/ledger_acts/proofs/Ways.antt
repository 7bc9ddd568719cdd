-- The place of a known second. Assumes nothing.
use Rattle.std.proofs.Common.{◌≡◌, ℕ, ◌<◌, List, true, arith}
use Rattle.ledger_rows.specs.declared.layout.Place.{Place}
use Rattle.ledger_rows.specs.Layout.{seconds_most}
use Rattle.ledger_seconds.specs.Seconds.{second_place}
use Rattle.ledger_seconds.proofs.Ways.{second_in, second_rows}

-- it is a row
pub known_row : (ws : List ℕ) (t : ℕ) (p : Place) → p ≡ second_place ws t → p.known ≡ true → p.row < seconds_most
known_row ws t p is k = omega (arith, second_in ws t p is k, second_rows ws t p is)
