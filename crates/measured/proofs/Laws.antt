-- Laws of the judge's definitions and of the rows of the lines. Assumes nothing.
use mathlib.Core.Path.{◌≡◌, refl, sym, ap, ◌∙◌}
use mathlib.Core.Bool.{Bool, true, false}
use mathlib.Core.List.{List, [], ◌∷◌, ◌++◌}
use Prim.Native.Nat.{ℕ, suc, ◌+◌, ◌≤◌, ◌<◌}
use native.Mathlib.Numerals.{add-one}
use native.Mathlib.Omega.{arith}
use borrow.Author.Tests.{le-leb, lt-leb, eq-eqb, ne_eqb}
use lib.ListN.{length}
use Rattle.text.specs.Lines.{lines}
use Rattle.text.specs.Fields.{fields}
use Rattle.blocks.specs.Blocks.{all_ascii}
use Rattle.std.proofs.Common.{Some, None, Ok, Err}
use Rattle.refusals.specs.declared.Refusal.{Refusal}
use Rattle.refusals.specs.declared.Refusal.TheVariants.{NotAscii, EmptyText, WrongHeader, NoRows, Size, ShortBuffer, NoSaneRows}
use Rattle.table_line.specs.declared.line.Row.{Row as RowSaid}
use Rattle.table_line.specs.Line.{Line, line_read}
use Rattle.measured.specs.Judge.{Answer, refused, batch_name, tokens_name, seconds_name, named, header_right, rows_in, unless_refused, judge_rows, judge_lines, judged}
use Rattle.measured.specs.Fill.{row_of, rows_of, cleaned_to}

-- ---- the header

module _ (names : List (List ℕ)) where
  pub head_count : (length names ≡ 3 → ⊥) → header_right names ≡ false
  unfolding header_right
  head_count n = rw (ne_eqb (length names) 3 n)

  module _ (count : ℕ) (c : count ≡ length names) (three : count ≡ 3) (a : Bool) (e : a ≡ named names 0 batch_name) where
    pub head_batch : a ≡ false → header_right names ≡ false
    unfolding header_right
    head_batch f = rw (eq-eqb (length names) 3 (sym c ∙ three), sym e ∙ f)

    module _ (f : a ≡ true) (b : Bool) (g : b ≡ named names 1 tokens_name) where
      pub head_tokens : b ≡ false → header_right names ≡ false
      unfolding header_right
      head_tokens h = rw (eq-eqb (length names) 3 (sym c ∙ three), sym e ∙ f, sym g ∙ h)

      pub head_seconds : b ≡ true → header_right names ≡ named names 2 seconds_name
      unfolding header_right
      head_seconds h = rw (eq-eqb (length names) 3 (sym c ∙ three), sym e ∙ f, sym g ∙ h)

-- ---- the lines after the header: said is what the first of them says

module _ (room : ℕ) where
  pub rows_none : (all : List (List ℕ)) (row n : ℕ) → all ≡ [] → n ≡ 0 → judge_rows room all row n ≡ refused NoRows 0
  rows_none all row n e z = ap (λ (l : List (List ℕ)). judge_rows room l row n) e ∙ rw (eq-eqb n 0 z)

  pub rows_done : (all : List (List ℕ)) (row n : ℕ) → all ≡ [] → (n ≡ 0 → ⊥) → judge_rows room all row n ≡ Ok n
  rows_done all row n e z = ap (λ (l : List (List ℕ)). judge_rows room l row n) e ∙ rw (ne_eqb n 0 z)

  module _ (all : List (List ℕ)) (line : List ℕ) (rest : List (List ℕ)) (row n : ℕ) (said : Line) (e : all ≡ line ∷ rest) (f : said ≡ line_read line) where
    abbrev opened : Line → Answer
    opened s = unless_refused s room row n (judge_rows room rest (suc row) (n + rows_in s))

    open_row : judge_rows room all row n ≡ opened said
    open_row = ap (λ (l : List (List ℕ)). judge_rows room l row n) e ∙ ap opened (sym f)

    pub rows_blank : said ≡ Ok None → judge_rows room all row n ≡ judge_rows room rest (row + 1) n
    rows_blank b =
        let z : n + 0 ≡ n = omega arith in
        open_row ∙ ap opened b ∙ ap (judge_rows room rest (suc row)) z ∙ ap (λ (r : ℕ). judge_rows room rest r n) (sym (add-one row))

    pub rows_wrong : (refusal : Refusal) → said ≡ Err refusal → judge_rows room all row n ≡ refused refusal row
    rows_wrong refusal w = open_row ∙ ap opened w

    module _ (read : RowSaid) (r : said ≡ Ok (Some read)) where
      pub rows_many : 4096 ≤ n → judge_rows room all row n ≡ refused Size row
      rows_many h = open_row ∙ ap opened r ∙ rw (le-leb 4096 n h)

      pub rows_full : n < 4096 → room ≤ n → judge_rows room all row n ≡ refused ShortBuffer row
      rows_full h k = open_row ∙ ap opened r ∙ rw (lt-leb 4096 n h, le-leb room n k)

      pub rows_next : n < 4096 → n < room → judge_rows room all row n ≡ judge_rows room rest (row + 1) (n + 1)
      rows_next h k = open_row ∙ ap opened r ∙ rw (lt-leb 4096 n h, lt-leb room n k) (ap (λ (i : ℕ). judge_rows room rest i (n + 1)) (sym (add-one row)))

-- ---- the text

module _ (room : ℕ) where
  module _ (header : List ℕ) (rest : List (List ℕ)) (right : Bool) (e : right ≡ header_right (fields header)) where
    pub lines_refused : right ≡ false → judge_lines room (header ∷ rest) ≡ refused WrongHeader 1
    unfolding judge_lines
    lines_refused f = rw (sym e ∙ f)

    pub lines_judged : right ≡ true → judge_lines room (header ∷ rest) ≡ judge_rows room rest 2 0
    unfolding judge_lines
    lines_judged f = rw (sym e ∙ f)

  pub text_high : (text : List ℕ) → all_ascii text ≡ false → judged room text ≡ refused NotAscii 0
  unfolding judged
  text_high text e = rw e

  pub text_judged : (text : List ℕ) → all_ascii text ≡ true → judged room text ≡ judge_lines room (lines text)
  unfolding judged
  text_judged text e = rw e

  pub text_empty : (text : List ℕ) → length text ≡ 0 → judged room text ≡ refused EmptyText 0
  unfolding judged judge_lines
  text_empty [] e = refl
  text_empty (b ∷ text) e = absurd (omega arith)

-- ---- the rows of the lines

module _ (all : List (List ℕ)) (line : List ℕ) (rest : List (List ℕ)) (said : Line) (e : all ≡ line ∷ rest) (f : said ≡ line_read line) where
  of_first : rows_of all ≡ row_of said ++ rows_of rest
  unfolding rows_of
  of_first = ap rows_of e ∙ ap (λ (s : Line). row_of s ++ rows_of rest) (sym f)

  pub of_blank : said ≡ Ok None → rows_of all ≡ rows_of rest
  of_blank b = of_first ∙ ap (λ (s : Line). row_of s ++ rows_of rest) b

  pub of_row : (read : RowSaid) → said ≡ Ok (Some read) → rows_of all ≡ record { depth = read.depth; batch = read.batch; seconds = read.seconds } ∷ rows_of rest
  of_row read r = of_first ∙ ap (λ (s : Line). row_of s ++ rows_of rest) r

pub of_none : (all : List (List ℕ)) → all ≡ [] → rows_of all ≡ []
unfolding rows_of
of_none all e = ap rows_of e

-- ---- what is left

pub none_left : (left : ℕ) → left ≡ 0 → cleaned_to left ≡ refused NoSaneRows 0
none_left left e = rw (eq-eqb left 0 e)

pub some_left : (left : ℕ) → (left ≡ 0 → ⊥) → cleaned_to left ≡ Ok left
some_left left n = rw (ne_eqb left 0 n)
