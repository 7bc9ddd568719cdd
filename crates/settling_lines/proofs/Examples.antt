-- Lines as they are printed, by computation. Assumes nothing.
use mathlib.Core.Path.{◌≡◌, refl}
use mathlib.Core.List.{[], ◌∷◌}
use Rattle.page.specs.Spelt.{spelt}
use Rattle.page.specs.Numbers.{places_from, decimal}
use Rattle.line_parts.specs.Parts.{spaced}
use Rattle.width_way.specs.declared.Settling.TheVariants.{Within, NoStep, NoCandidate, AtOnce, Refused}
use Rattle.settling_lines.specs.Lines.{way_fields, answer_line, step_line}

-- what stands behind the last walk in the widths is not shown
three_walks : answer_line 9 (Within 6 3) (4 ∷ 2 ∷ 0 ∷ 7 ∷ []) ≡ spelt "9,settles,rounds 6,walks 3,widths 4 2 0\n"
unfolding places_from decimal spaced way_fields answer_line
three_walks = refl

never : answer_line 9 (NoStep 6) [] ≡ spelt "9,settles,never,stays 6\n"
unfolding places_from decimal answer_line
never = refl

no_such_target : answer_line 9 (NoCandidate 6) [] ≡ spelt "9,settles,no candidate,stays 6\n"
unfolding places_from decimal answer_line
no_such_target = refl

at_once : answer_line 9 AtOnce [] ≡ spelt "9,settles,at once\n"
unfolding places_from decimal answer_line
at_once = refl

refused : answer_line 9 (Refused 15) [] ≡ []
unfolding answer_line
refused = refl

a_step : step_line 9 2 4 2 (2 ∷ 0 ∷ []) ≡ spelt "9,step 2,rounds 4,walks 2,widths 2 0\n"
unfolding places_from decimal spaced way_fields step_line
a_step = refl
