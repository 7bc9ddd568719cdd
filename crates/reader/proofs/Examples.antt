-- Worked examples of the definitions, by computation. Assumes nothing.
use mathlib.Core.Path.{◌≡◌, refl}
use mathlib.Core.List.{[], ◌∷◌}
use Rattle.std.specs.Prelude.{Some, None}
use Rattle.reader.specs.Reading.{span, line_at, field_at}

-- by places: a, CR, LF, b has a line up to 1 and the next from 3 on, and none behind that one
line_by_place : line_at (97 ∷ 13 ∷ 10 ∷ 98 ∷ []) 0 ≡ Some (span 0 1 3)
unfolding line_at
line_by_place = refl

last_by_place : line_at (97 ∷ 13 ∷ 10 ∷ 98 ∷ []) 3 ≡ Some (span 3 4 4)
unfolding line_at
last_by_place = refl

none_by_place : line_at (97 ∷ 13 ∷ 10 ∷ 98 ∷ []) 4 ≡ None
unfolding line_at
none_by_place = refl

-- a field behind the last comma is there, though it is empty: a, comma
field_by_place : field_at (97 ∷ 44 ∷ []) 2 2 ≡ Some (span 2 2 3)
unfolding field_at
field_by_place = refl

past_by_place : field_at (97 ∷ 44 ∷ []) 3 2 ≡ None
unfolding field_at
past_by_place = refl
