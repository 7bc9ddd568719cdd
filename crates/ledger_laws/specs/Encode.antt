-- How what is held lies in the words. Every word is said, the free ones too, which are 0.
use Rattle.std.specs.Prelude.{List, [], ◌∷◌, ◌++◌, reverse, ℕ, ltb, eqb, length, take, drop}
use Rattle.std.proofs.Math.Option.{Option, none, some}
use Rattle.ledger_rows.specs.Map.{at, put_at}
use Rattle.ledger_rows.specs.Table.{flat, pad}
use Rattle.ledger_rows.specs.declared.layout.Past.{Past}
use Rattle.ledger_rows.specs.Layout.{seconds_most, workers_most, changes_most}
use Rattle.ledger_workers.specs.Workers.{worker_less, worker_same}
use Rattle.ledger_changes.specs.Changes.{change_laid, no_step, following}
use Rattle.ledger_laws.specs.Model.{Worker, Switching, Plan, Change, planned, decided, cleared, Sums, more, nothing_yet, cleaned, record_of, Standing}

-- ---- the seconds and the workers that the standing changes give, as lists that ascend

-- a second's sums after its first plan, and after one more
abbrev pub first_of : Plan → Sums
first_of p = record { drafts = p.drafts; sequences = p.sequences; committed = p.committed; steps = 1 }

unfoldable pub grown : Plan → Option Sums → Sums
grown p none = first_of p
grown p (some s) = more p s

unfoldable pub add_plan : Plan → List (ℕ × Sums) → List (ℕ × Sums)
add_plan p rows = put_at ltb eqb p.second (grown p (at ltb eqb p.second rows)) rows

unfoldable pub seconds_given : List Change → List (ℕ × Sums)
seconds_given [] = []
seconds_given (planned p ∷ cs) = add_plan p (seconds_given cs)
seconds_given (decided p w f ∷ cs) = add_plan p (seconds_given cs)
seconds_given (cleared w ∷ cs) = seconds_given cs

-- a worker's record, if it has one, with its stall cleared
unfoldable pub clean_at : Worker → Option Switching → List (Worker × Switching) → List (Worker × Switching)
clean_at w none rows = rows
clean_at w (some r) rows = put_at worker_less worker_same w (cleaned r) rows

unfoldable pub workers_given : List Change → List (Worker × Switching)
workers_given [] = []
workers_given (planned p ∷ cs) = workers_given cs
workers_given (decided p w f ∷ cs) = put_at worker_less worker_same w (f (at worker_less worker_same w (workers_given cs))) (workers_given cs)
workers_given (cleared w ∷ cs) = clean_at w (at worker_less worker_same w (workers_given cs)) (workers_given cs)

-- ---- each change with the record that its worker had before it

unfoldable pub before : Change → List Change → Option Switching
before (planned p) cs = none
before (decided p w f) cs = record_of w cs
before (cleared w) cs = record_of w cs

unfoldable pub logged : List Change → List (Change × Option Switching)
logged [] = []
logged (c ∷ cs) = (c, before c cs) ∷ logged cs

-- ---- as words

abbrev pub second_words : ℕ × Sums → List ℕ
second_words r = r.0 ∷ r.1.drafts ∷ r.1.sequences ∷ r.1.committed ∷ r.1.steps ∷ []

abbrev pub worker_words : Worker × Switching → List ℕ
worker_words r = r.0.0 ∷ r.0.1 ∷ r.1.width ∷ r.1.rounds ∷ r.1.stall ∷ []

-- a record from before: kind 1 where there was none
abbrev pub past_from : Option Switching → Past
past_from none = record { kind = 1; width = 0; rounds = 0; stall = 0 }
past_from (some r) = record { kind = 2; width = r.width; rounds = r.rounds; stall = r.stall }

unfoldable pub change_words : Change × Option Switching → List ℕ
change_words (planned p, o) = change_laid p 1 0 0 0 0 0 0
change_words (decided p w f, o) = change_laid p 1 (past_from o).kind w.0 w.1 (past_from o).width (past_from o).rounds (past_from o).stall
change_words (cleared w, none) = change_laid no_step 0 0 0 0 0 0 0
change_words (cleared w, some r) = change_laid no_step 0 2 w.0 w.1 r.width r.rounds r.stall

-- free slots
abbrev pub no_second : ℕ × Sums
no_second = (0, nothing_yet)

abbrev pub no_worker : Worker × Switching
no_worker = ((0, 0), record { width = 0; rounds = 0; stall = 0 })

abbrev pub no_change : Change × Option Switching
no_change = (cleared (0, 0), none)

-- ---- the newest changes, in a ring

-- how many can be withdrawn, the slot of the next change, and the changes that can be withdrawn, the newest first
pub record Newest : Type 0 where
  pub left : ℕ
  pub slot : ℕ
  pub log : List (Change × Option Switching)

-- the slot of the next change: the first where nothing stands, and one further around the ring for each change that stands
unfoldable pub slot_of : List Change → ℕ
slot_of [] = 0
slot_of (c ∷ cs) = following (slot_of cs)

abbrev pub newest_of : Standing → Newest
newest_of s = record { left = s.left; slot = slot_of s.changes; log = take s.left (logged s.changes) }

-- rows in slots around a ring: they stand backwards from the slot before `slot`, the first of them there, and go on in the last slot when the first is taken
unfoldable pub around : {R : Type 0} → ℕ → List R → List R
around slot rows = reverse (take slot rows) ++ reverse (drop slot rows)

abbrev pub ring_words : Newest → List ℕ
ring_words ring = flat change_words (around ring.slot (pad no_change changes_most ring.log))

-- counts, the next slot and tables, one after the other; `rest` is what was lent beyond the room
unfoldable pub laid : ℕ → ℕ → Newest → List (Worker × Switching) → List (ℕ × Sums) → List ℕ → List ℕ
laid n m ring workers seconds rest =
    n ∷ m ∷ ring.left ∷ ring.slot ∷ (ring_words ring ++ (flat worker_words (pad no_worker workers_most workers) ++ (flat second_words (pad no_second seconds_most seconds) ++ rest)))

-- all the words of what stands
unfoldable pub encode : Standing → List ℕ → List ℕ
encode s rest = laid (length (seconds_given s.changes)) (length (workers_given s.changes)) (newest_of s) (workers_given s.changes) (seconds_given s.changes) rest
