-- `line_parts::listed` meets its contract: the numbers passed stand behind the name. Assumes nothing.
use Rattle.line_parts.proofs.Listing.{Listed}
use Rattle.line_parts.proofs.listed.Given as goal

abbrev pub invariant-loop-n : goal.invariant-loop-n
invariant-loop-n l = Listed l.initial.page l.initial.at l.list l.page l.at l.n-index
