-- How many drafts a verify accepts, and what the drafts of a plan come to. Assumes nothing.
use Rattle.std.specs.Prelude.{List, [], ◌∷◌, ℕ, ◌+◌, ◌≤◌, ◌<◌, min, length, get_or, Option, Some, None}
use Rattle.verifies.specs.declared.inner.Counts.{Counts}

-- at most what was drafted, of what the round committed; none where no round was planned
unfoldable pub accepted_of : ℕ → Option ℕ → ℕ
accepted_of draft (Some commits) = min commits draft
accepted_of draft None = 0

-- the drafts together
unfoldable pub total_of : List ℕ → ℕ
total_of [] = 0
total_of (d ∷ ds) = d + total_of ds

-- the committed of drafts together: each sequence's round commits what stands at its place
unfoldable pub committed_of : List ℕ → List ℕ → ℕ
committed_of [] cs = 0
committed_of (d ∷ ds) [] = 0
committed_of (d ∷ ds) (c ∷ cs) = accepted_of d (Some c) + committed_of ds cs

-- both sums
abbrev pub counts_of : List ℕ → List ℕ → Counts
counts_of drafts commits = record { drafts = total_of drafts; committed = committed_of drafts commits }

-- no draft is above 64
pub record Shallow (drafts : List ℕ) : Type 0 where
  pub each : (k : ℕ) → k < length drafts → get_or drafts k 0 ≤ 64
