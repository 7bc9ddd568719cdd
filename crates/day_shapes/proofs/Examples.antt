-- Worked examples of the definitions, by computation. Assumes nothing.
use mathlib.Core.Path.{◌≡◌, refl}
use mathlib.Core.List.{[], ◌∷◌}
use Rattle.numeral.specs.Spelling.{whole_of}
use Rattle.refusals.specs.declared.Refusal.TheVariants.{MalformedWhole}
use Rattle.day_shapes.specs.declared.Expected.TheVariants.{MoreFields, NoMoreFields, Number}
use Rattle.std.specs.Prelude.{Ok, Err}
use Rattle.day_shapes.specs.Shapes.{field_judged, shape_judged, any_text, whole, following}

-- `a,7`, `a,x`, `a` and `a,7,7` as a text and a whole number
as_asked : shape_judged 0 (any_text ∷ whole ∷ []) ((97 ∷ []) ∷ (55 ∷ []) ∷ []) ≡ Ok tt
unfolding field_judged whole_of
as_asked = refl

no_number : shape_judged 0 (any_text ∷ whole ∷ []) ((97 ∷ []) ∷ (120 ∷ []) ∷ []) ≡ Err (record { field = 1; expected = Number MalformedWhole })
unfolding field_judged whole_of
no_number = refl

too_few : shape_judged 0 (any_text ∷ whole ∷ []) ((97 ∷ []) ∷ []) ≡ Err (record { field = 1; expected = MoreFields })
unfolding field_judged
too_few = refl

too_many : shape_judged 0 (any_text ∷ whole ∷ []) ((97 ∷ []) ∷ (55 ∷ []) ∷ (55 ∷ []) ∷ []) ≡ Err (record { field = 2; expected = NoMoreFields })
unfolding field_judged whole_of
too_many = refl

-- any number of fields may follow
some_follow : shape_judged 0 (any_text ∷ following ∷ []) ((97 ∷ []) ∷ (55 ∷ []) ∷ (55 ∷ []) ∷ []) ≡ Ok tt
unfolding field_judged
some_follow = refl

none_follows : shape_judged 0 (any_text ∷ following ∷ []) ((97 ∷ []) ∷ []) ≡ Ok tt
unfolding field_judged
none_follows = refl
