-- `trimming::trim_front` meets its contract: at each place the text trimmed is the text from there on, trimmed. Assumes nothing.
use mathlib.Core.Path.{◌≡◌}
use lib.ListN.{drop}
use Rattle.trimming.specs.Trim.{front_trimmed}
use Rattle.trimming.proofs.trim_front.Given as goal

abbrev pub invariant-loop-at : goal.invariant-loop-at
invariant-loop-at l = front_trimmed l.s ≡ front_trimmed (drop l.at l.s)
