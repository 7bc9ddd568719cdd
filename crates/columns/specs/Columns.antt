-- A text in a column: blanks in front of it, up to the column's width. A longer text takes the room that it needs.
use Rattle.std.specs.Prelude.{ℕ, ◌-◌, List, ◌++◌, length, replicate}

-- so many blanks
abbrev pub blanks : ℕ → List ℕ
blanks n = replicate n 32

unfoldable pub padded : ℕ → List ℕ → List ℕ
padded width text = blanks (width - length text) ++ text
