-- `trimming::trim_end` meets its contract: at each place the text trimmed is the text up to there, trimmed. Assumes nothing.
use mathlib.Core.Path.{◌≡◌}
use lib.ListN.{take}
use Rattle.trimming.specs.Trim.{end_trimmed}
use Rattle.trimming.proofs.trim_end.Given as goal

abbrev pub invariant-loop-last : goal.invariant-loop-last
invariant-loop-last l = end_trimmed l.s ≡ end_trimmed (take l.last l.s)
