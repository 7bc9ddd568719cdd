-- Worked examples of the definitions, by computation. Assumes nothing.
use mathlib.Core.Path.{◌≡◌, refl}
use mathlib.Core.List.{[], ◌∷◌}
use Rattle.trimming.specs.Trim.{trimmed}

-- blanks at both ends go, and those between stay: tab, a, space, b, CR, LF
blanks_off : trimmed (9 ∷ 97 ∷ 32 ∷ 98 ∷ 13 ∷ 10 ∷ []) ≡ 97 ∷ 32 ∷ 98 ∷ []
blanks_off = refl

-- every blank: 9 to 13 and 32
only_blanks : trimmed (9 ∷ 10 ∷ 11 ∷ 12 ∷ 13 ∷ 32 ∷ []) ≡ []
only_blanks = refl

-- 8, 14, 31 and 33 are none
no_blanks : trimmed (8 ∷ 14 ∷ 32 ∷ 31 ∷ 33 ∷ []) ≡ 8 ∷ 14 ∷ 32 ∷ 31 ∷ 33 ∷ []
no_blanks = refl
