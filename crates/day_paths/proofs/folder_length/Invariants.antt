-- `day_paths::folder_length` meets its contract: from the place on there is no folder. Assumes nothing.
use mathlib.Core.Path.{◌≡◌}
use lib.ListN.{drop}
use Rattle.day_paths.specs.Paths.{folder_length}
use Rattle.day_paths.proofs.folder_length.Given as goal

abbrev pub invariant-loop-last : goal.invariant-loop-last
invariant-loop-last l = folder_length (drop l.last l.path) ≡ 0
