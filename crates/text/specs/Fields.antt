-- The fields of a line. 44 is the comma.
use Rattle.std.specs.Prelude.{ℕ, Bool, true, false, ◌&&◌, cond, List, [], ◌∷◌, eqb}
use Rattle.text.specs.Lines.{onto}

-- what stands between the commas: one field more than there are commas
abbrev pub fields : List ℕ → List (List ℕ)
fields [] = [] ∷ []
fields (b ∷ s) = cond (eqb b 44) ([] ∷ fields s) (onto b (fields s))

-- whether two texts have the same bytes in the same order
abbrev pub same_text : List ℕ → List ℕ → Bool
same_text [] [] = true
same_text [] (y ∷ t) = false
same_text (x ∷ s) [] = false
same_text (x ∷ s) (y ∷ t) = eqb x y && same_text s t
