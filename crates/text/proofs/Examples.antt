-- Worked examples of the definitions, by computation. Assumes nothing.
use mathlib.Core.Path.{◌≡◌, refl}
use mathlib.Core.List.{[], ◌∷◌}
use Rattle.text.specs.Lines.{lines}
use Rattle.text.specs.Fields.{fields}

-- a final LF opens no further line: a, LF
feed_last : lines (97 ∷ 10 ∷ []) ≡ (97 ∷ []) ∷ []
feed_last = refl

-- a blank line: a, LF, LF
feed_twice : lines (97 ∷ 10 ∷ 10 ∷ []) ≡ (97 ∷ []) ∷ [] ∷ []
feed_twice = refl

-- one CR directly before LF is dropped, and another stays: a, CR, CR, LF, b
one_return : lines (97 ∷ 13 ∷ 13 ∷ 10 ∷ 98 ∷ []) ≡ (97 ∷ 13 ∷ []) ∷ (98 ∷ []) ∷ []
one_return = refl

-- a CR at the very end stays: a, CR
return_last : lines (97 ∷ 13 ∷ []) ≡ (97 ∷ 13 ∷ []) ∷ []
return_last = refl

-- and one in the middle of a line does: a, CR, b, LF
return_alone : lines (97 ∷ 13 ∷ 98 ∷ 10 ∷ []) ≡ (97 ∷ 13 ∷ 98 ∷ []) ∷ []
return_alone = refl

-- nothing at all
no_line : lines [] ≡ []
no_line = refl

-- between, before and after commas
empty_fields : fields (44 ∷ 97 ∷ 44 ∷ []) ≡ [] ∷ (97 ∷ []) ∷ [] ∷ []
empty_fields = refl

-- a line with no comma has one field, also where it is blank
no_comma : fields [] ≡ [] ∷ []
no_comma = refl
