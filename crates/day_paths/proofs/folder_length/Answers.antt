-- `day_paths::folder_length` meets its contract: from the place on there is no folder. Assumes nothing.
use native.Mathlib.Omega.{arith}
use Rattle.day_paths.proofs.Ways.{folder_found}
use Rattle.day_paths.proofs.folder_length.Goals as goal

pub returns-then-path-last-eq47 : goal.returns-then-path-last-eq47
returns-then-path-last-eq47 c = omega (arith, folder_found c.args.path.now c.loop-last.last (omega arith) (omega arith) c.loop-last.invariant c.if-path-last-eq47.true)
