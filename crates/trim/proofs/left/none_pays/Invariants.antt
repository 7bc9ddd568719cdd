-- `left::none_pays` meets its contract: the answer is that of the sequences from the loop's on. Assumes nothing.
use mathlib.Core.Path.{◌≡◌}
use lib.ListN.{drop}
use Rattle.trim.specs.Kept.{pays_at, none_of}
use Rattle.trim.proofs.left.none_pays.Given as goal

abbrev pub invariant-loop-k : goal.invariant-loop-k
invariant-loop-k l =
    let pays = pays_at l.shut l.tally l.vp l.chains l.passes l.nk l.widths in
    none_of pays l.rest ≡ none_of pays (drop l.k-index l.rest)
