-- What reading a cost table leaves in the three columns.
use Rattle.std.specs.Prelude.{ℕ, min, ◌≡◌, cond, List, [], ◌∷◌, ◌++◌, map, eqb, Float, length, take, drop, Some, None, Ok, Err}
use Rattle.text.specs.Lines.{lines}
use Rattle.cost_rows.specs.Table.{Row, over}
use Rattle.cost_rows.specs.Order.{sorted}
use Rattle.cost_rows.specs.Prune.{kept}
use Rattle.refusals.specs.declared.Refusal.TheVariants.{NoSaneRows}
use Rattle.table_line.specs.Line.{Line, line_read}
use Rattle.measured.specs.Judge.{Answer, refused, judged}

-- the row that a line is, if it is one
abbrev pub row_of : Line → List Row
row_of (Ok None) = []
row_of (Ok (Some read)) = record { depth = read.depth; batch = read.batch; seconds = read.seconds } ∷ []
row_of (Err refusal) = []

-- the rows of the lines, in their order
unfoldable pub rows_of : List (List ℕ) → List Row
unfolding line_read
rows_of [] = []
rows_of (line ∷ rest) = row_of (line_read line) ++ rows_of rest

-- columns with the rows t at their front
pub record Put (t : List Row) (d b : List ℕ) (s : List Float) : Type 0 where
  pub depths : take (length t) d ≡ map (λ r. r.depth) t
  pub batches : take (length t) b ≡ map (λ r. r.batch) t
  pub seconds : take (length t) s ≡ map (λ r. r.seconds) t

-- the rows stand in the columns where the answer is a table
abbrev pub PutAt : Answer → List Row → List ℕ → List ℕ → List Float → Type 0
PutAt answer t d b s = (rows : ℕ) → answer ≡ Ok rows → Put t d b s

-- a column in which the rows t, in order, were written over the front, and then the kept ones over these
abbrev pub kept_over : {A : Type 0} → (Row → A) → List Row → List A → List A
kept_over f t xs = over f (kept t) (over f t xs)

pub record Cleaned (t : List Row) (d b : List ℕ) (s : List Float) (d' b' : List ℕ) (s' : List Float) : Type 0 where
  pub depths : d' ≡ kept_over (λ r. r.depth) t d
  pub batches : b' ≡ kept_over (λ r. r.batch) t b
  pub seconds : s' ≡ kept_over (λ r. r.seconds) t s

-- refused where no rows are left after rows are dropped
abbrev pub cleaned_to : ℕ → Answer
cleaned_to left = cond (eqb left 0) (refused NoSaneRows 0) (Ok left)

-- what is left by a call: its answer and the three columns
pub record Outcome : Type 0 where
  pub answer : Answer
  pub depths : List ℕ
  pub batches : List ℕ
  pub seconds : List Float

-- a refusal leaves the columns as they were; else the rows t, in order, are cleaned in place
abbrev pub leaves : Answer → List Row → List ℕ → List ℕ → List Float → Outcome
leaves (Err why) t d b s = record { answer = Err why; depths = d; batches = b; seconds = s }
leaves (Ok rows) t d b s =
    record {
      answer = Ok rows;
      depths = kept_over (λ r. r.depth) t d;
      batches = kept_over (λ r. r.batch) t b;
      seconds = kept_over (λ r. r.seconds) t s;
    }

-- where the judge refuses, its refusal
abbrev pub answered : Answer → List Row → Answer
answered (Err why) t = Err why
answered (Ok rows) t = cleaned_to (length (kept t))

unfoldable pub table_read : List ℕ → List ℕ → List ℕ → List Float → Outcome
unfolding rows_of judged
table_read text d b s =
    let t = sorted (rows_of (drop 1 (lines text))) in
    leaves (answered (judged (min (length d) (min (length b) (length s))) text) t) t d b s
