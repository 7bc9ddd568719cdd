-- The path of a file that a day file names. 47 is `/`.
use Rattle.std.specs.Prelude.{ℕ, suc, cond, List, [], ◌∷◌, ◌++◌, ltb, eqb, length, take, drop}
use Rattle.text.specs.Lines.{starts_with}

-- how many bytes a path has up to its last `/` and with it
abbrev pub folder_length : List ℕ → ℕ
folder_length [] = 0
folder_length (b ∷ s) = cond (ltb 0 (folder_length s)) (suc (folder_length s)) (cond (eqb b 47) 1 0)

-- how many of the day file's path stand before a name: none where it is a path from the root, else the folder
abbrev pub kept_of : List ℕ → List ℕ → ℕ
kept_of day name = cond (starts_with 47 name) 0 (folder_length day)

abbrev pub path_of : List ℕ → List ℕ → List ℕ
path_of day name = take (kept_of day name) day ++ name

-- the path at the front of a buffer, and its length; where it does not fit the buffer stays, and 0
unfoldable pub placed_beside : List ℕ → List ℕ → List ℕ → ℕ × List ℕ
placed_beside day name out =
    cond (ltb (length out) (length (path_of day name))) (0, out) (length (path_of day name), path_of day name ++ drop (length (path_of day name)) out)
