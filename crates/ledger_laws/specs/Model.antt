-- The storage as the rules say it: the changes that stand, what they give when worked out afresh, and the rule for withdrawals.
-- The newest change stands first.
use Rattle.std.specs.Prelude.{cond, List, [], ◌∷◌, ℕ, suc, ◌+◌, ◌-◌, ◌*◌, ◌≤◌, min, ltb, eqb, drop}
use Rattle.std.proofs.Math.Option.{Option, none, some}
use Rattle.ledger_rows.specs.Map.{is_held}
use Rattle.ledger_rows.specs.declared.layout.Step.{Step as Added}
use Rattle.ledger_rows.specs.Layout.{seconds_most, workers_most, changes_most, steps_most}
use Rattle.ledger_workers.specs.Workers.{worker_same}
use Rattle.ledger.specs.Calls.{or_else}

-- a worker is named by two numbers; it has a width, a counter of rounds, and a stall by its bits
abbrev pub Worker : Type 0
Worker = ℕ × ℕ

pub record Switching : Type 0 where
  pub width : ℕ
  pub rounds : ℕ
  pub stall : ℕ

-- what a plan adds at its second: drafts, sequences and committed
abbrev pub Plan : Type 0
Plan = Added

-- a change: a plan of no worker, a plan with a worker's decision, which makes its record of the one before, or a worker's stall collected
pub data Change : Type 0 where
  planned : Plan → Change
  decided : Plan → Worker → (Option Switching → Switching) → Change
  cleared : Worker → Change

-- ---- the sums at a second: over the standing plans at it

pub record Sums : Type 0 where
  pub drafts : ℕ
  pub sequences : ℕ
  pub committed : ℕ
  pub steps : ℕ

abbrev pub nothing_yet : Sums
nothing_yet = record { drafts = 0; sequences = 0; committed = 0; steps = 0 }

abbrev pub more : Plan → Sums → Sums
more p s = record { drafts = s.drafts + p.drafts; sequences = s.sequences + p.sequences; committed = s.committed + p.committed; steps = s.steps + 1 }

-- a plan counts at its own second only
unfoldable pub counted : ℕ → Plan → Sums → Sums
counted t p s = cond (eqb p.second t) (more p s) s

unfoldable pub sums_at : ℕ → List Change → Sums
sums_at t [] = nothing_yet
sums_at t (planned p ∷ cs) = counted t p (sums_at t cs)
sums_at t (decided p w f ∷ cs) = counted t p (sums_at t cs)
sums_at t (cleared w ∷ cs) = sums_at t cs

-- ---- a worker's record: its own standing changes folded in their order

abbrev pub cleaned : Switching → Switching
cleaned r = record { width = r.width; rounds = r.rounds; stall = 0 }

unfoldable pub cleaned_of : Option Switching → Option Switching
cleaned_of none = none
cleaned_of (some r) = some (cleaned r)

unfoldable pub record_of : Worker → List Change → Option Switching
record_of w [] = none
record_of w (planned p ∷ cs) = record_of w cs
record_of w (decided p v f ∷ cs) = cond (worker_same v w) (some (f (record_of w cs))) (record_of w cs)
record_of w (cleared v ∷ cs) = cond (worker_same v w) (cleaned_of (record_of w cs)) (record_of w cs)

-- ---- how many seconds have a standing plan, and how many workers a record

unfoldable pub seconds_of : List Change → ℕ
seconds_of [] = 0
seconds_of (planned p ∷ cs) = cond (ltb 0 (sums_at p.second cs).steps) (seconds_of cs) (suc (seconds_of cs))
seconds_of (decided p w f ∷ cs) = cond (ltb 0 (sums_at p.second cs).steps) (seconds_of cs) (suc (seconds_of cs))
seconds_of (cleared w ∷ cs) = seconds_of cs

unfoldable pub workers_of : List Change → ℕ
workers_of [] = 0
workers_of (planned p ∷ cs) = workers_of cs
workers_of (decided p w f ∷ cs) = cond (is_held (record_of w cs)) (workers_of cs) (suc (workers_of cs))
workers_of (cleared w ∷ cs) = workers_of cs

-- ---- what the rules refuse, 0 for nothing

-- 19: the second already has 1,000,000 steps; 18: it is new and 4,096 are held
unfoldable pub step_rule : ℕ → List Change → ℕ
step_rule t cs =
    cond (ltb 0 (sums_at t cs).steps)
    (cond (ltb (sums_at t cs).steps steps_most) 0 19)
    (cond (ltb (seconds_of cs) seconds_most) 0 18)

-- 17: the worker is new and workers_most are held
unfoldable pub worker_rule : Worker → List Change → ℕ
worker_rule w cs = cond (is_held (record_of w cs)) 0 (cond (ltb (workers_of cs) workers_most) 0 17)

-- ---- the calls, and what stands after them

pub data Call : Type 0 where
  plan : Plan → Call
  decide : Plan → Worker → (Option Switching → Switching) → Call
  collect : Worker → Call
  back : Call

-- the changes that stand, and the withdrawals available
pub record Standing : Type 0 where
  pub changes : List Change
  pub left : ℕ

-- 21: no withdrawal is available
unfoldable pub refusal : Call → Standing → ℕ
refusal (plan p) s = step_rule p.second s.changes
refusal (decide p w f) s = or_else (worker_rule w s.changes) (step_rule p.second s.changes)
refusal (collect w) s = 0
refusal back s = cond (ltb 0 s.left) 0 21

-- a change stands, and one more withdrawal is available, up to 64
abbrev pub stands : Change → Standing → Standing
stands c s = record { changes = c ∷ s.changes; left = min (s.left + 1) changes_most }

-- a call that is refused changes nothing; collecting from an unknown worker is no change; a withdrawal takes the newest change
unfoldable pub step : Call → Standing → Standing
step (plan p) s = cond (eqb (refusal (plan p) s) 0) (stands (planned p) s) s
step (decide p w f) s = cond (eqb (refusal (decide p w f) s) 0) (stands (decided p w f) s) s
step (collect w) s = cond (is_held (record_of w s.changes)) (stands (cleared w) s) s
step back s = cond (ltb 0 s.left) (record { changes = drop 1 s.changes; left = s.left - 1 }) s

-- after all the calls; the first call is first in the list
unfoldable pub after : List Call → Standing → Standing
after [] s = s
after (k ∷ ks) s = after ks (step k s)

abbrev pub nothing_stands : Standing
nothing_stands = record { changes = []; left = 0 }

-- a plan has 1 to 1,024 sequences, drafts at most 64 for each, and commits at most what it drafts
pub record Small (p : Plan) : Type 0 where
  pub some_sequences : 1 ≤ p.sequences
  pub sequences_small : p.sequences ≤ 1024
  pub drafts_small : p.drafts ≤ 64 * p.sequences
  pub committed_small : p.committed ≤ p.drafts

unfoldable pub InDomain : List Call → Type 0
InDomain [] = Unit
InDomain (plan p ∷ ks) = Small p × InDomain ks
InDomain (decide p w f ∷ ks) = Small p × InDomain ks
InDomain (collect w ∷ ks) = InDomain ks
InDomain (back ∷ ks) = InDomain ks
