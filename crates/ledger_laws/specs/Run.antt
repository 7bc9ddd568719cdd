-- Calls made one after the other on the words, by the contracts of the calls.
use Rattle.std.specs.Prelude.{cond, List, [], ◌∷◌, ℕ, eqb}
use Rattle.std.proofs.Math.Option.{Option, none, some}
use Rattle.ledger_rows.specs.declared.layout.Past.{Past}
use Rattle.ledger.specs.declared.answer.Decision.TheVariants.{Nothing, Put}
use Rattle.ledger_workers.specs.Workers.{past_of}
use Rattle.ledger.specs.Calls.{recorded, collected, withdrawn}
use Rattle.ledger_laws.specs.Model.{Worker, Switching, Call, plan, decide, collect, back}

-- a worker's record as it is read
unfoldable pub record_from : Past → Option Switching
record_from p = cond (eqb p.kind 2) (some (record { width = p.width; rounds = p.rounds; stall = p.stall })) none

unfoldable pub record_in : List ℕ → Worker → Option Switching
record_in ws w = record_from (past_of ws w.0 w.1)

-- what a call leaves; a decision puts the record that it makes of the one that is held
unfoldable pub made : Call → List ℕ → List ℕ
made (plan p) ws = (recorded ws p Nothing).1
made (decide p w f) ws = (recorded ws p (Put w.0 w.1 (f (record_in ws w)).width (f (record_in ws w)).rounds (f (record_in ws w)).stall)).1
made (collect w) ws = (collected ws w.0 w.1).1
made back ws = (withdrawn ws).1

unfoldable pub run : List Call → List ℕ → List ℕ
run [] ws = ws
run (k ∷ ks) ws = run ks (made k ws)
