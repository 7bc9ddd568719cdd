-- What reading a cost table leaves: 1 to 4,096 rows, in order and in range, or one of the refusals 1 to 11 and 16; never 20. Assumes nothing.
use mathlib.Core.Path.{◌≡◌, refl, sym, ap, ◌∙◌, subst}
use mathlib.Core.Bool.{Bool, true, false, cond, ◌&&◌}
use mathlib.Core.List.{List, [], ◌∷◌, ◌++◌}
use Prim.Native.Nat.{ℕ, suc, ◌+◌, ◌^◌, ◌≤◌, ◌<◌, min, zero-le}
use native.Mathlib.Nat.{le_trans, le_of_eq}
use native.Mathlib.Omega.{arith}
use lib.Dec.{leb, ltb, eqb}
use Rattle.digits.specs.Digits.{all_digits, number, point}
use Rattle.digits.specs.Signs.{after_plus, after_sign, is_negative}
use lib.Ieee.{Float, lt}
use lib.ListN.{length, get_or, take, drop}
use Rattle.text.specs.Lines.{lines}
use Rattle.text.specs.Fields.{fields}
use Rattle.trimming.specs.Trim.{trimmed}
use Rattle.blocks.specs.Blocks.{all_ascii}
use Rattle.float.specs.Floats.{f0}
use Rattle.cost_rows.specs.Table.{Row, zip, over}
use Rattle.cost_rows.specs.Order.{sorted, ordered}
use Rattle.cost_rows.specs.Prune.{kept}
use Rattle.cost_rows.proofs.Sorting.{sorted_length}
use Rattle.cost_rows.proofs.Composed.{rows_read, kept_fewer, over_length}
use Rattle.cost_rows.proofs.Pruned.{stays_nonempty}
use Rattle.cost_rows.proofs.Ordered.{test, sorted_ordered, kept_ordered}
use Rattle.std.proofs.Common.{Some, None, Result, Ok, Err}
use Rattle.refusals.specs.declared.Refusal.{Refusal}
use Rattle.refusals.specs.declared.Refusal.TheVariants.{NotAscii, WrongHeader, NoRows, Size, ShortBuffer}
use Rattle.refusals.specs.Refusals.{number_in}
use Rattle.numeral.specs.Spelling.{Whole, whole_of, of_digits}
use Rattle.decimals.specs.Decimals.{Decimal, decimal_of, unsigned_of, of_parts, is_too_long}
use Rattle.table_line.specs.declared.line.Row.{Row as RowSaid}
use Rattle.table_line.specs.Line.{Line, said, whole_at, decimal_at, values_read, numbers_read, row_read, line_read}
use Rattle.measured.specs.Judge.{Answer, refused, header_right, rows_in, unless_refused, judge_rows, judge_lines, judged, answer_refusal}
use Rattle.measured.specs.Fill.{rows_of, kept_over, Outcome, leaves, answered, table_read}
use Rattle.cost_rows.specs.Lawful.{lawful}
use Rattle.measured.proofs.Laws.{some_left}
use Rattle.measured.proofs.Accepted.{accepted, refused_no}
use Rattle.measured.proofs.Ranges.{loaded_range}

-- ---- an accepted text

-- the rows of a text, in order
abbrev rows_in_order : List ℕ → List Row
rows_in_order text = sorted (rows_of (drop 1 (lines text)))

abbrev room_of : List ℕ → List ℕ → List Float → ℕ
room_of d b s = min (length d) (min (length b) (length s))

-- so many rows are left: some, at most 4,096, and the columns have room for them
left_facts : (text d b : List ℕ) (s : List Float) (rows : ℕ) → judged (room_of d b s) text ≡ Ok rows
    → (0 < length (kept (rows_in_order text))) × ((length (kept (rows_in_order text)) ≤ length (rows_in_order text)) × ((length (rows_in_order text) ≤ 4096) × (length (rows_in_order text) ≤ room_of d b s)))
left_facts text d b s rows e =
    let f = (accepted (room_of d b s) text rows e).1 in
    let a : 0 + length (rows_of (drop 1 (lines text))) ≡ rows = f.0 in
    let n : length (rows_in_order text) ≡ length (rows_of (drop 1 (lines text))) = sorted_length (rows_of (drop 1 (lines text))) in
    let some : 0 < rows = f.1.0 in
    let few : rows ≤ 4096 = f.1.1.0 in
    let fits : rows ≤ room_of d b s = f.1.1.1 in
    (stays_nonempty (rows_in_order text) (omega arith), (kept_fewer (rows_in_order text), (omega arith, omega arith)))

-- so the answer is a table
answer_is : (text d b : List ℕ) (s : List Float) (rows : ℕ) → judged (room_of d b s) text ≡ Ok rows
    → table_read text d b s ≡ leaves (Ok (length (kept (rows_in_order text)))) (rows_in_order text) d b s
unfolding table_read
answer_is text d b s rows e =
    let t = rows_in_order text in
    let some : 0 < length (kept t) = (left_facts text d b s rows e).0 in
    ap (λ (x : Answer). leaves (answered x t) t d b s) e ∙ ap (λ (x : Answer). leaves x t d b s) (some_left (length (kept t)) (λ z. omega arith))

-- and the columns hold the kept rows
zip_kept : (t : List Row) (d b : List ℕ) (s : List Float) → length t ≤ room_of d b s
    → zip (length (kept t)) (kept_over (λ r. r.depth) t d) (kept_over (λ r. r.batch) t b) (kept_over (λ r. r.seconds) t s) ≡ kept t
zip_kept t d b s h =
    let f : length (kept t) ≤ length t = kept_fewer t in
    let p : length t ≤ length d = omega arith in
    let q : length t ≤ length b = omega arith in
    let r : length t ≤ length s = omega arith in
    rows_read (kept t) (over (λ r. r.depth) t d) (over (λ r. r.batch) t b) (over (λ r. r.seconds) t s) (kept_over (λ r. r.depth) t d) (kept_over (λ r. r.batch) t b) (kept_over (λ r. r.seconds) t s) (record { depths = refl; batches = refl; seconds = refl })
    (le_trans f (le_trans p (le_of_eq (sym (over_length (λ r. r.depth) t d p)))))
    (le_trans f (le_trans q (le_of_eq (sym (over_length (λ r. r.batch) t b q)))))
    (le_trans f (le_trans r (le_of_eq (sym (over_length (λ r. r.seconds) t s r)))))

kept_lawful : (text : List ℕ) → lawful (kept (rows_in_order text)) ≡ true
unfolding lawful
kept_lawful text = rw (loaded_range (drop 1 (lines text)), kept_ordered (rows_in_order text) (sorted_ordered (rows_of (drop 1 (lines text)))))

-- what a table that was read is
pub record Loaded (text : List ℕ) (n : ℕ) (o : Outcome) : Type 0 where
  pub some : 0 < n
  pub few : n ≤ 4096
  pub holds : zip n o.depths o.batches o.seconds ≡ kept (sorted (rows_of (drop 1 (lines text))))
  pub in_order : ordered (zip n o.depths o.batches o.seconds) ≡ true
  pub judged_good : lawful (zip n o.depths o.batches o.seconds) ≡ true

kept_loaded : (text d b : List ℕ) (s : List Float) (rows : ℕ) → judged (room_of d b s) text ≡ Ok rows
    → Loaded text (length (kept (rows_in_order text))) (leaves (Ok (length (kept (rows_in_order text)))) (rows_in_order text) d b s)
kept_loaded text d b s rows e =
    let f = left_facts text d b s rows e in
    let some : 0 < length (kept (rows_in_order text)) = f.0 in
    let fewer : length (kept (rows_in_order text)) ≤ length (rows_in_order text) = f.1.0 in
    let few : length (rows_in_order text) ≤ 4096 = f.1.1.0 in
    let z = zip_kept (rows_in_order text) d b s f.1.1.1 in
    record {
      some = some;
      few = omega arith;
      holds = z;
      in_order = ap ordered z ∙ kept_ordered (rows_in_order text) (sorted_ordered (rows_of (drop 1 (lines text))));
      judged_good = ap lawful z ∙ kept_lawful text;
    }

same_rows : (n m : ℕ) → ◌≡◌ {A = Answer} (Ok n) (Ok m) → m ≡ n
same_rows n m e = cc

-- an answer of n rows: these are 1 to 4,096, in order, and a lent table that holds them is judged good
pub read_loaded : (text d b : List ℕ) (s : List Float) (n : ℕ) → (table_read text d b s).answer ≡ Ok n → Loaded text n (table_read text d b s)
unfolding table_read
read_loaded text d b s n e = go (judged (room_of d b s) text) refl
  where
    go : (j : Answer) → judged (room_of d b s) text ≡ j → Loaded text n (table_read text d b s)
    go (Err why) f = absurd (refused_no why n (sym (ap (λ (x : Answer). (leaves (answered x (rows_in_order text)) (rows_in_order text) d b s).answer) f) ∙ e))
    go (Ok rows) f =
        let a = answer_is text d b s rows f in
        let m : n ≡ length (kept (rows_in_order text)) = same_rows (length (kept (rows_in_order text))) n (sym (ap (λ (o : Outcome). o.answer) a) ∙ e) in
        subst (λ (k : ℕ). Loaded text k (table_read text d b s)) (sym m) (subst (Loaded text (length (kept (rows_in_order text)))) (sym a) (kept_loaded text d b s rows f))

-- ---- a refused one: no number is above 16, so none is 20

whole_few : (s : List ℕ) → number_in (whole_of s) ≤ 9
unfolding whole_of of_digits
whole_few s = test (ltb 0 (length (after_plus s)) && all_digits (after_plus s) && ltb (number 0 (after_plus s)) (2 ^ 32)) (λ p. rw p (omega arith)) (λ p. rw p (omega arith))

parts_few : (negative : Bool) (w f : List ℕ) → number_in (of_parts negative w f) ≤ 9
unfolding of_parts
parts_few negative w f =
    test (ltb 0 (length (w ++ f)) && all_digits (w ++ f))
    (λ p. test (is_too_long w f) (λ q. rw (p, q) (omega arith)) (λ q. rw (p, q) (omega arith)))
    (λ p. rw p (omega arith))

decimal_few : (s : List ℕ) → number_in (decimal_of s) ≤ 9
unfolding decimal_of unsigned_of
decimal_few s = let t = after_sign s in parts_few (is_negative s) (take (point t) t) (drop (suc (point t)) t)

values_few : (batch tokens : ℕ) (x : Float) → number_in (values_read batch tokens x) ≤ 9
unfolding values_read
values_few batch tokens x = test (lt f0 x) (λ p. test (eqb tokens 0) (λ q. rw (p, q) (omega arith)) (λ q. rw (p, q) (omega arith))) (λ p. rw p (omega arith))

numbers_few : (w v : Whole) (y : Decimal) → number_in w ≤ 9 → number_in v ≤ 9 → number_in y ≤ 9 → number_in (numbers_read w v y) ≤ 9
unfolding numbers_read
numbers_few (Err refusal) v y h k l = h
numbers_few (Ok b) (Err refusal) y h k l = k
numbers_few (Ok b) (Ok t) (Err refusal) h k l = l
numbers_few (Ok b) (Ok t) (Ok x) h k l = values_few b t x

row_few : (row : List (List ℕ)) → number_in (row_read row) ≤ 9
unfolding row_read
row_few row =
    test (eqb (length row) 3)
    (λ q. rw q (numbers_few (whole_at 0 row) (whole_at 1 row) (decimal_at 2 row) (whole_few (trimmed (get_or row 0 []))) (whole_few (trimmed (get_or row 1 []))) (decimal_few (trimmed (get_or row 2 [])))))
    (λ q. rw q (omega arith))

said_few : (read : Result RowSaid Refusal) → number_in read ≤ 9 → number_in (said read) ≤ 9
said_few (Ok row) h = h
said_few (Err refusal) h = h

line_few : (line : List ℕ) → number_in (line_read line) ≤ 9
unfolding line_read
line_few line = test (eqb (length (trimmed line)) 0) (λ p. rw p (omega arith)) (λ p. rw p (said_few (row_read (fields line)) (row_few (fields line))))

cond_few : (z : Bool) (x y : Answer) → answer_refusal x ≤ 16 → answer_refusal y ≤ 16 → answer_refusal (cond z x y) ≤ 16
cond_few true x y h k = h
cond_few false x y h k = k

unless_few : (line : Line) (room row n : ℕ) (later : Answer) → number_in line ≤ 9 → answer_refusal later ≤ 16 → answer_refusal (unless_refused line room row n later) ≤ 16
unless_few (Ok None) room row n later h k = k
unless_few (Ok (Some read)) room row n later h k =
    cond_few (leb 4096 n) (refused Size row) (cond (leb room n) (refused ShortBuffer row) later) (omega arith) (cond_few (leb room n) (refused ShortBuffer row) later (omega arith) k)
unless_few (Err refusal) room row n later h k = omega arith

rows_few : (room : ℕ) (all : List (List ℕ)) (row n : ℕ) → answer_refusal (judge_rows room all row n) ≤ 16
rows_few room [] row n = cond_few (eqb n 0) (refused NoRows 0) (Ok n) (omega arith) (omega arith)
rows_few room (line ∷ rest) row n = unless_few (line_read line) room row n (judge_rows room rest (suc row) (n + rows_in (line_read line))) (line_few line) (rows_few room rest (suc row) (n + rows_in (line_read line)))

lines_few : (room : ℕ) (all : List (List ℕ)) → answer_refusal (judge_lines room all) ≤ 16
unfolding judge_lines
lines_few room [] = omega arith
lines_few room (header ∷ rest) = cond_few (header_right (fields header)) (judge_rows room rest 2 0) (refused WrongHeader 1) (rows_few room rest 2 0) (omega arith)

judged_few : (room : ℕ) (text : List ℕ) → answer_refusal (judged room text) ≤ 16
unfolding judged
judged_few room text = cond_few (all_ascii text) (judge_lines room (lines text)) (refused NotAscii 0) (lines_few room (lines text)) (omega arith)

pub refusals : (text d b : List ℕ) (s : List Float) → answer_refusal (table_read text d b s).answer ≤ 16
unfolding table_read
refusals text d b s = go (judged (room_of d b s) text) refl
  where
    go : (j : Answer) → judged (room_of d b s) text ≡ j → answer_refusal (table_read text d b s).answer ≤ 16
    go (Err why) f =
        subst (λ (k : ℕ). k ≤ 16) (ap (λ (x : Answer). answer_refusal (leaves (answered x (rows_in_order text)) (rows_in_order text) d b s).answer) (sym f))
        (subst (λ (x : Answer). answer_refusal x ≤ 16) f (judged_few (room_of d b s) text))
    go (Ok rows) f = subst (λ (o : Outcome). answer_refusal o.answer ≤ 16) (sym (answer_is text d b s rows f)) zero-le

-- some row is always left
pub never_20 : (text d b : List ℕ) (s : List Float) → answer_refusal (table_read text d b s).answer ≡ 20 → ⊥
never_20 text d b s e = let h : answer_refusal (table_read text d b s).answer ≤ 16 = refusals text d b s in omega arith
