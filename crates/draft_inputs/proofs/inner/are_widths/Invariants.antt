-- `inner::are_widths` meets its contract: from each place on, the answer is that of the widths left. Assumes nothing.
use mathlib.Core.Path.{◌≡◌}
use lib.ListN.{drop}
use Rattle.draft_inputs.specs.Inputs.{all_widths}
use Rattle.draft_inputs.proofs.inner.are_widths.Given as goal

abbrev pub invariant-loop-w : goal.invariant-loop-w
invariant-loop-w l = all_widths l.widths ≡ all_widths (drop l.w-index l.widths)
