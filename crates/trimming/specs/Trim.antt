-- A text without the blanks at its ends.
use Rattle.std.specs.Prelude.{ℕ, Bool, true, ◌&&◌, ◌||◌, cond, List, [], ◌∷◌, reverse, leb, eqb}

-- the bytes 9 to 13 (tab, LF, VT, FF, CR) and 32 (the space)
abbrev pub is_blank : ℕ → Bool
is_blank b = leb 9 b && leb b 13 || eqb b 32

abbrev pub all_blank : List ℕ → Bool
all_blank [] = true
all_blank (b ∷ s) = is_blank b && all_blank s

-- from the first byte on that is no blank
abbrev pub front_trimmed : List ℕ → List ℕ
front_trimmed [] = []
front_trimmed (b ∷ s) = cond (is_blank b) (front_trimmed s) (b ∷ s)

-- the same from the end: of the text read backwards
abbrev pub end_trimmed : List ℕ → List ℕ
end_trimmed s = reverse (front_trimmed (reverse s))

abbrev pub trimmed : List ℕ → List ℕ
trimmed s = end_trimmed (front_trimmed s)
