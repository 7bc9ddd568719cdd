-- `text::same` meets its contract: at each place the answer is that of what follows. Assumes nothing.
use mathlib.Core.Path.{◌≡◌}
use lib.ListN.{length, drop}
use Rattle.text.specs.Fields.{same_text}
use Rattle.text.proofs.same.Given as goal

abbrev pub invariant-loop-at : goal.invariant-loop-at
invariant-loop-at l = (length l.a ≡ length l.b) × (same_text l.a l.b ≡ same_text (drop l.at l.a) (drop l.at l.b))
