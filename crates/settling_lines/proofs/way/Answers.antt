-- `settling_lines::way` meets its contract: one part behind another. Assumes nothing.
use mathlib.Core.Path.{ap}
use mathlib.Core.List.{List, ◌++◌}
use Prim.Native.Nat.{ℕ}
use Rattle.page.specs.Spelt.{spelt}
use Rattle.page.proofs.Adding.{both, renamed}
use Rattle.line_parts.specs.Parts.{spaced}
use Rattle.settling_lines.specs.Lines.{way_fields}
use Rattle.settling_lines.proofs.way.Goals as goal

pub returns : goal.returns
unfolding way_fields
returns c =
    both c.labelled-a.ensures
    (both c.labelled-b.ensures
    (both (renamed (ap (λ (l : List ℕ). spelt ",widths" ++ spaced l) c.walked.ensures) c.listed-c.ensures) c.append.ensures))
