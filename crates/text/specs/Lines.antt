-- The lines of a text. 10 is LF, 13 is CR.
use Rattle.std.specs.Prelude.{ℕ, Bool, false, ◌&&◌, cond, List, [], ◌∷◌, eqb}

-- whether the byte is the first one
abbrev pub starts_with : ℕ → List ℕ → Bool
starts_with byte [] = false
starts_with byte (b ∷ s) = eqb b byte

-- a byte put before the first of the pieces
abbrev pub onto : ℕ → List (List ℕ) → List (List ℕ)
onto b [] = (b ∷ []) ∷ []
onto b (p ∷ ps) = (b ∷ p) ∷ ps

-- a line ends at LF, and a CR directly before it is dropped; what follows the last LF is a line where it is not empty
abbrev pub lines : List ℕ → List (List ℕ)
lines [] = []
lines (b ∷ s) = cond (eqb b 10) ([] ∷ lines s) (cond (starts_with 10 s && eqb b 13) (lines s) (onto b (lines s)))

-- the first of the lines: nothing where there is none
abbrev pub first_line : List ℕ → List ℕ
first_line [] = []
first_line (b ∷ s) = cond (eqb b 10) [] (cond (starts_with 10 s && eqb b 13) [] (b ∷ first_line s))

-- behind the first LF: nothing where there is none
abbrev pub after_line : List ℕ → List ℕ
after_line [] = []
after_line (b ∷ s) = cond (eqb b 10) s (after_line s)
