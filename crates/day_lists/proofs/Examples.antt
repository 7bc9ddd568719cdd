-- Worked examples of the definitions, by computation. Assumes nothing.
use mathlib.Core.Path.{◌≡◌, refl}
use mathlib.Core.List.{[], ◌∷◌}
use Rattle.day_line.specs.DayLine.{uncommented}
use Rattle.numeral.specs.Spelling.{whole_of}
use Rattle.std.specs.Prelude.{Ok, Err}
use Rattle.refusals.specs.declared.Refusal.TheVariants.{MalformedWhole}
use Rattle.day_lists.specs.declared.NoList.TheVariants.{TooMany, Wrong}
use Rattle.day_lists.specs.Lists.{wholes_listed}

-- `a, 7 ,8 #9` from the field 1 on, into a buffer of three numbers: two are read, and the third stays
two_read : wholes_listed (97 ∷ 44 ∷ 32 ∷ 55 ∷ 32 ∷ 44 ∷ 56 ∷ 32 ∷ 35 ∷ 57 ∷ []) 1 (1 ∷ 2 ∷ 3 ∷ []) ≡ (Ok 2, 7 ∷ 8 ∷ 3 ∷ [])
unfolding wholes_listed uncommented whole_of
two_read = refl

-- `a,7,x` into a buffer of one: the second field of the list is wrong, and goes before too little room
no_number : wholes_listed (97 ∷ 44 ∷ 55 ∷ 44 ∷ 120 ∷ []) 1 (1 ∷ []) ≡ (Err (Wrong (record { field = 2; refusal = MalformedWhole })), 1 ∷ [])
unfolding wholes_listed uncommented whole_of
no_number = refl

-- `a,7,8` into a buffer of one
too_little_room : wholes_listed (97 ∷ 44 ∷ 55 ∷ 44 ∷ 56 ∷ []) 1 (1 ∷ []) ≡ (Err TooMany, 1 ∷ [])
unfolding wholes_listed uncommented whole_of
too_little_room = refl

-- `a` has no field from 1 on
no_field : wholes_listed (97 ∷ []) 1 (1 ∷ []) ≡ (Ok 0, 1 ∷ [])
unfolding wholes_listed uncommented whole_of
no_field = refl
