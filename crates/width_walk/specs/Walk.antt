-- The walk through the candidate widths. Assumes nothing.
use Rattle.std.specs.Prelude.{ℕ, suc, ◌+◌, ◌-◌, ◌≤◌, min, max, cond, ◌&&◌, List, [], ◌∷◌, leb, ltb, eqb, length, get_or}
use Rattle.switch_settings.specs.declared.MaxStep.{MaxStep}
use Rattle.switch_settings.specs.declared.MaxStep.TheVariants.{Unlimited, AtMost}

-- the index of the first that is x or larger; the length where there is none
unfoldable pub first_at_least : List ℕ → ℕ → ℕ
first_at_least [] x = 0
first_at_least (c ∷ cs) x = cond (leb x c) 0 (suc (first_at_least cs x))

-- the held width's index or the next larger candidate's, the last if none
abbrev pub snap_index : List ℕ → ℕ → ℕ
snap_index candidates width = min (first_at_least candidates width) (length candidates - 1)

-- the target's index, and the snapped one where the target is missing
abbrev pub target_index : List ℕ → ℕ → ℕ → ℕ
target_index candidates target snap =
    let i = first_at_least candidates target in
    cond (ltb i (length candidates) && eqb (get_or candidates i 0) target) i snap

-- at most so many indices toward `to`
abbrev pub walk_index : ℕ → ℕ → MaxStep → ℕ
walk_index at to Unlimited = to
walk_index at to (AtMost d) = cond (ltb at to) (min (at + d) to) (max (at - d) to)

-- with no candidate at all the width stays
abbrev pub walk_candidates : List ℕ → ℕ → ℕ → MaxStep → ℕ
walk_candidates [] width target step = width
walk_candidates (c ∷ cs) width target step =
    let candidates = c ∷ cs in
    let at = snap_index candidates width in
    get_or candidates (walk_index at (target_index candidates target at) step) 0

-- candidates that rise, from `low` on
abbrev pub Rising : ℕ → List ℕ → Type 0
Rising low [] = Unit
Rising low (c ∷ cs) = (low ≤ c) × Rising (suc c) cs
