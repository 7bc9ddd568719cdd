-- Parts of a line.
use Rattle.std.specs.Prelude.{ℕ, List, [], ◌∷◌, ◌++◌}
use Prim.Native.String.{String}
use Rattle.page.specs.Spelt.{spelt}
use Rattle.page.specs.Numbers.{decimal}

-- a name and its number
abbrev pub labelled : String → ℕ → List ℕ
labelled name n = spelt name ++ decimal n

-- a line's number, a name and its number
abbrev pub headed : ℕ → String → ℕ → List ℕ
headed line name n = decimal line ++ labelled name n

-- numbers, each behind a blank
unfoldable pub spaced : List ℕ → List ℕ
spaced [] = []
spaced (n ∷ list) = labelled " " n ++ spaced list
