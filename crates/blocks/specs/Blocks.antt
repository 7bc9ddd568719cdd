-- How many bytes of a text pass a test, where a byte first stands, and texts without a byte above 127.
use Rattle.std.specs.Prelude.{ℕ, suc, Bool, true, ◌&&◌, cond, List, [], ◌∷◌, leb, ltb, eqb}

abbrev pub tally : (ℕ → Bool) → List ℕ → ℕ
tally p [] = 0
tally p (b ∷ s) = cond (p b) (suc (tally p s)) (tally p s)

abbrev pub is_byte : ℕ → ℕ → Bool
is_byte byte b = eqb b byte

abbrev pub is_high : ℕ → Bool
is_high b = ltb 127 b

-- no byte is above 127
abbrev pub all_ascii : List ℕ → Bool
all_ascii [] = true
all_ascii (b ∷ s) = leb b 127 && all_ascii s

-- where the byte first stands: as far as the end where it does not
abbrev pub find : ℕ → List ℕ → ℕ
find byte [] = 0
find byte (b ∷ s) = cond (eqb b byte) 0 (suc (find byte s))
