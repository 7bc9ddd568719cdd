-- A text in quotes, as the bytes of its characters. Every text here is ASCII, where a character's code is its byte.
use Rattle.std.specs.Prelude.{ℕ, List, [], ◌∷◌}
use Prim.Native.Char.{code}
use Prim.Native.String.{String, [] as empty, ◌∷◌ as ◌then◌}

abbrev pub spelt : String → List ℕ
spelt empty = []
spelt (letter then rest) = code letter ∷ spelt rest
