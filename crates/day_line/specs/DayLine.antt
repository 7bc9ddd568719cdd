-- What a line of a day file holds. 35 is `#`, which starts a comment.
use Rattle.std.specs.Prelude.{ℕ, List, [], get_or, take}
use Rattle.blocks.specs.Blocks.{find}
use Rattle.text.specs.Fields.{fields}
use Rattle.trimming.specs.Trim.{trimmed}

-- the line up to its first `#`, without blanks at its ends
unfoldable pub uncommented : List ℕ → List ℕ
uncommented line = trimmed (take (find 35 line) line)

-- the field at a place, without blanks at its ends: an empty one where there are fewer
abbrev pub field_of : List ℕ → ℕ → List ℕ
field_of line place = trimmed (get_or (fields (uncommented line)) place [])
