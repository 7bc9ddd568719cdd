-- What is told of places in a text.
use Rattle.std.specs.Prelude.{ℕ, ◌-◌, cond, List, eqb, length, Option, Some, None}
use Rattle.reader.specs.declared.Span.{Span}
use Rattle.text.specs.Lines.{first_line, after_line}
use Rattle.exported.specs.declared.Told.{Told}
use Rattle.exported.specs.Telling.{told}

-- where the first line stops, and where the next one starts
abbrev pub line_told : List ℕ → Told
line_told s = told 0 (length (first_line s)) (length s - length (after_line s))

-- the place of a span that is asked for: 0 its start, 1 its stop, else that of the next one
abbrev pub place_of : ℕ → Span → ℕ
place_of asked s = cond (eqb asked 0) s.start (cond (eqb asked 1) s.stop s.next)

-- where nothing stands the place is `at`
abbrev pub span_told : ℕ → ℕ → Option Span → Told
span_told asked at None = told 0 0 at
span_told asked at (Some s) = told 0 1 (place_of asked s)
