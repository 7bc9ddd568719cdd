-- `drawing::draw_commits` meets its contract: what is left to draw is drawn from where the sequence before stopped. Assumes nothing.
use mathlib.Core.Path.{◌≡◌}
use Prim.Native.Nat.{◌≤◌, ◌*◌}
use lib.ListN.{length}
use Rattle.rounds.specs.Drawing.{analytic, drawn_over}
use Rattle.rounds.proofs.Draws.{left_from, to_draw}
use Rattle.rounds.proofs.drawing.draw_commits.Given as goal

abbrev pub invariant-loop-k : goal.invariant-loop-k
invariant-loop-k l = (length l.commits ≡ length l.initial.commits) × (l.used ≤ l.k * 64) × (drawn_over (analytic l.model l.positions l.gamma (length l.initial.commits) l.draws) l.initial.commits ≡ left_from l.used l.k l.commits (to_draw l.model l.positions l.gamma l.draws (length l.initial.commits) l.k l.used))
