-- The planner's calls, made one after the other on one storage, by their contracts. Assumes nothing.
use Rattle.std.specs.Prelude.{List, [], ◌∷◌, ℕ}
use Rattle.ledger.specs.Calls.{collected, withdrawn}
use Rattle.settings.specs.declared.Settings.{Settings}
use Rattle.asked_rooms.specs.declared.Ask.{Ask}
use Rattle.asking.specs.Asked.{Lent}
use Rattle.planner.specs.Plan.{planned}

-- a plan, with its settings, what it is asked for, the lists that it is lent, and the drafts and the commits as lent; a worker's stall collected; the newest
-- change withdrawn. Each plan may have settings, a bank and a table of its own
pub data Call : Type 0 where
  plan : Settings → Ask → Lent → List ℕ → List ℕ → Call
  collect : ℕ → ℕ → Call
  withdraw : Call

-- what a call leaves in the storage
unfoldable pub leaves : Call → List ℕ → List ℕ
leaves (plan s a l ds cs) ws = (planned s a l ws ds cs).storage
leaves (collect a b) ws = (collected ws a b).1
leaves withdraw ws = (withdrawn ws).1

-- the first call is first in the list
unfoldable pub run : List Call → List ℕ → List ℕ
run [] ws = ws
run (k ∷ ks) ws = run ks (leaves k ws)
