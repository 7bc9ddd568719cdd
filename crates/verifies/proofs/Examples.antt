-- What survives of three drafts, worked out. Assumes nothing.
use mathlib.Core.Path.{◌≡◌, refl}
use mathlib.Core.List.{[], ◌∷◌}
use Rattle.verifies.specs.Accepted.{accepted_of, total_of, committed_of, counts_of}

-- four are drafted and one is committed; four, and the round commits seven; two, and both are committed
pub seven_of_ten : counts_of (4 ∷ 4 ∷ 2 ∷ []) (1 ∷ 7 ∷ 2 ∷ []) ≡ record { drafts = 10; committed = 7 }
unfolding accepted_of total_of committed_of
seven_of_ten = refl
