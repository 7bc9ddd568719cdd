-- Worked examples of the definitions, by computation. Assumes nothing.
use mathlib.Core.Path.{◌≡◌, refl}
use mathlib.Core.List.{[], ◌∷◌}
use Rattle.day_paths.specs.Paths.{path_of, placed_beside}

-- `a/b/day` names `c`: `a/b/c`
beside_the_day : path_of (97 ∷ 47 ∷ 98 ∷ 47 ∷ 100 ∷ []) (99 ∷ []) ≡ 97 ∷ 47 ∷ 98 ∷ 47 ∷ 99 ∷ []
beside_the_day = refl

-- `day` names `c`: `c`
no_folder : path_of (100 ∷ []) (99 ∷ []) ≡ 99 ∷ []
no_folder = refl

-- `a/d` names `/c`: `/c`
from_the_root : path_of (97 ∷ 47 ∷ 100 ∷ []) (47 ∷ 99 ∷ []) ≡ 47 ∷ 99 ∷ []
from_the_root = refl

-- with room for two bytes, `a/c` does not fit
too_long : placed_beside (97 ∷ 47 ∷ 100 ∷ []) (99 ∷ []) (1 ∷ 2 ∷ []) ≡ (0, 1 ∷ 2 ∷ [])
unfolding placed_beside
too_long = refl

-- with room for four, the last stays
fits : placed_beside (97 ∷ 47 ∷ 100 ∷ []) (99 ∷ []) (1 ∷ 2 ∷ 3 ∷ 4 ∷ []) ≡ (3, 97 ∷ 47 ∷ 99 ∷ 4 ∷ [])
unfolding placed_beside
fits = refl
