-- What a host books beside the planner, from nothing but what the calls answer and hand back: for each change that stands, its second and what its verifies
-- accept. Assumes nothing.
use Rattle.std.specs.Prelude.{Bool, true, false, cond, List, [], ◌∷◌, ℕ, ◌+◌, eqb, take, drop, Result, Ok, Err, Option, Some, None}
use Rattle.numeral.specs.Moment.{second_of}
use Rattle.refusals.specs.declared.Refusal.{Refusal}
use Rattle.refusals.specs.Refusals.{Judgement}
use Rattle.ledger.specs.declared.answer.Held.{Held}
use Rattle.ledger.specs.Calls.{withdrawn, worker_of}
use Rattle.verifies.specs.Accepted.{committed_of}
use Rattle.planner.specs.Plan.{planned}
use Rattle.planner_laws.specs.Calls.{Call, plan, collect, withdraw, leaves}
use Rattle.planner_laws.specs.Standing.{is_plan}

-- a second, and what is accepted at it
abbrev pub Entry : Type 0
Entry = ℕ × ℕ

-- a collection is a change that accepts nothing
abbrev pub no_entry : Entry
no_entry = (0, 0)

-- the loop of a host over the first n drafts and commits that a plan hands back: what a verify accepts, summed
abbrev pub host_counts : ℕ → List ℕ → List ℕ → ℕ
host_counts n drafts commits = committed_of (take n drafts) (take n commits)

abbrev pub is_known : Result (Option Held) Refusal → Bool
is_known (Ok (Some held)) = true
is_known (Ok None) = false
is_known (Err refusal) = false

abbrev pub is_done : Judgement → Bool
is_done (Ok done) = true
is_done (Err refusal) = false

-- an accepted plan is booked, and a collection from a worker that is known, as the planner answers before it; a withdrawal that is done takes the newest entry
unfoldable pub books : Call → List ℕ → List Entry → List Entry
books (plan s a l ds cs) ws es =
    cond (is_plan (planned s a l ws ds cs).answer) ((second_of a.end, host_counts a.sequences (planned s a l ws ds cs).drafts (planned s a l ws ds cs).commits) ∷ es) es
books (collect a b) ws es = cond (is_known (worker_of ws a b)) (no_entry ∷ es) es
books withdraw ws es = cond (is_done (withdrawn ws).0) (drop 1 es) es

-- after all the calls, made one after the other on one storage
unfoldable pub booked : List Call → List ℕ → List Entry → List Entry
booked [] ws es = es
booked (k ∷ ks) ws es = booked ks (leaves k ws) (books k ws es)

-- what is booked at a second
unfoldable pub booked_at : ℕ → List Entry → ℕ
booked_at t [] = 0
booked_at t (e ∷ es) = cond (eqb e.0 t) (booked_at t es + e.1) (booked_at t es)
