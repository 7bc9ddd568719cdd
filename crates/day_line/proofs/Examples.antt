-- Worked examples of the definitions, by computation. Assumes nothing.
use mathlib.Core.Path.{◌≡◌, refl}
use mathlib.Core.List.{[], ◌∷◌}
use lib.ListN.{length}
use Rattle.text.specs.Fields.{fields}
use Rattle.day_line.specs.DayLine.{uncommented, field_of}

-- `a, b #c,d`: two fields
two_fields : length (fields (uncommented (97 ∷ 44 ∷ 32 ∷ 98 ∷ 32 ∷ 35 ∷ 99 ∷ 44 ∷ 100 ∷ []))) ≡ 2
unfolding uncommented
two_fields = refl

second_field : field_of (97 ∷ 44 ∷ 32 ∷ 98 ∷ 32 ∷ 35 ∷ 99 ∷ 44 ∷ 100 ∷ []) 1 ≡ 98 ∷ []
unfolding uncommented
second_field = refl

-- `  #a`
only_a_comment : uncommented (32 ∷ 32 ∷ 35 ∷ 97 ∷ []) ≡ []
unfolding uncommented
only_a_comment = refl
