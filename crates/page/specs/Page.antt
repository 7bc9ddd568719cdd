-- A page: a buffer whose front is text. What is added to the text goes behind it, as far as the page has room.
use Rattle.std.specs.Prelude.{ℕ, zero, suc, ◌+◌, min, cond, ◌≡◌, List, [], ◌∷◌, ltb, length}

-- the page with the bytes from a place on: what is past its end is left out
unfoldable pub put : List ℕ → ℕ → List ℕ → List ℕ
put [] at bytes = []
put (old ∷ page) (suc at) bytes = old ∷ put page at bytes
put (old ∷ page) zero [] = old ∷ page
put (old ∷ page) zero (byte ∷ bytes) = byte ∷ put page zero bytes

-- what the page is, and where its text ends, once the bytes are added to its first `used`
pub record Added (page : List ℕ) (used : ℕ) (bytes : List ℕ) (after : List ℕ) (end : ℕ) : Type 0 where
  pub ends : end ≡ min (used + length bytes) (length page)
  pub stands : after ≡ put page used bytes

-- the room that the longest line takes
abbrev pub line_room : ℕ
line_room = 32768

-- where the next line starts on a page of this length: at its front where the text leaves too little room, and is written out
abbrev pub roomy : ℕ → ℕ → ℕ
roomy long used = cond (ltb long (used + line_room)) 0 used
