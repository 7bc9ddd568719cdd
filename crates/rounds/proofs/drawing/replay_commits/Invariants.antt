-- `drawing::replay_commits` meets its contract: what is left to replay is replayed from the index of the sequence on. Assumes nothing.
use mathlib.Core.Path.{◌≡◌}
use lib.ListN.{length}
use Rattle.rounds.specs.Drawing.{replayed, drawn_over}
use Rattle.rounds.proofs.Draws.{left_from, to_replay}
use Rattle.rounds.proofs.drawing.replay_commits.Given as goal

abbrev pub invariant-loop-k : goal.invariant-loop-k
invariant-loop-k l = (length l.commits ≡ length l.initial.commits) × (drawn_over (replayed l.bank_commits l.rounds (length l.initial.commits) l.indices) l.initial.commits ≡ left_from l.k l.k l.commits (to_replay l.bank_commits l.rounds l.indices (length l.initial.commits) l.k))
