-- Lines and fields by their places in a text: what a reader finds where it stands, and what it meets from there on. 44 is the comma.
use Rattle.std.specs.Prelude.{ℕ, zero, suc, ◌+◌, ◌-◌, ◌&&◌, cond, List, [], ◌∷◌, ltb, leb, length, take, drop, Option, Some, None, option_and_then}
use Rattle.reader.specs.declared.Reader.{Reader}
use Rattle.reader.specs.declared.Span.{Span}
use Rattle.blocks.specs.Blocks.{find}
use Rattle.text.specs.Lines.{first_line, after_line}

-- the bytes of a text from one place up to another
abbrev pub between : ℕ → ℕ → List ℕ → List ℕ
between start stop text = take (stop - start) (drop start text)

abbrev pub span : ℕ → ℕ → ℕ → Span
span start stop next = record { start = start; stop = stop; next = next }

-- what a span holds of a text
abbrev pub held : List ℕ → Span → List ℕ
held text s = between s.start s.stop text

-- the line that starts at a place is the first line of the text from there on, and the next one starts behind it; at the text's end there is none
unfoldable pub line_at : List ℕ → ℕ → Option Span
line_at text at =
    cond (ltb at (length text)) (Some (span at (at + length (first_line (drop at text))) (length text - length (after_line (drop at text))))) None

-- the line behind the first one
abbrev pub second_line : List ℕ → Option Span
second_line text = option_and_then (λ (line : Span). line_at text line.next) (line_at text 0)

-- a field goes up to the comma that is n bytes on, and the next one starts behind that comma
abbrev pub field_to : ℕ → ℕ → Span
field_to at n = span at (at + n) (at + n + 1)

-- the field that starts at a place of a line that stops at stop: there is one up to the line's end, and none past it
unfoldable pub field_at : List ℕ → ℕ → ℕ → Option Span
field_at text at stop = cond (leb at stop && leb stop (length text)) (Some (field_to at (find 44 (between at stop text)))) None

-- the same text, read on from another place
abbrev pub moved_to : Reader → ℕ → Reader
moved_to r at = record { text = r.text; at = at }

-- the same text, read on behind what was found there; where nothing was, from where it stands
abbrev pub moved_behind : Reader → Option Span → Reader
moved_behind r None = r
moved_behind r (Some s) = moved_to r s.next

-- ---- what a reader meets, at most n of them, each read where the one before it says

-- what was found, and then what is met from the next place on; nothing where nothing was found
abbrev pub met : List ℕ → (ℕ → List (List ℕ)) → Option Span → List (List ℕ)
met text more None = []
met text more (Some s) = held text s ∷ more s.next

-- the lines from a place on
unfoldable pub lines_from : ℕ → List ℕ → ℕ → List (List ℕ)
unfolding line_at
lines_from zero text at = []
lines_from (suc n) text at = met text (λ (next : ℕ). lines_from n text next) (line_at text at)

-- the fields from a place on, of a line that stops at stop
unfoldable pub fields_from : ℕ → List ℕ → ℕ → ℕ → List (List ℕ)
unfolding field_at
fields_from zero text at stop = []
fields_from (suc n) text at stop = met text (λ (next : ℕ). fields_from n text next stop) (field_at text at stop)
