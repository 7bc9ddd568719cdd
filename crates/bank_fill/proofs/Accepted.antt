-- What holds of a text of which the judge says that it is a bank. Assumes nothing.
use mathlib.Core.Path.{◌≡◌, refl, sym, ap, ◌∙◌, subst}
use mathlib.Core.Bool.{Bool, true, false, cond}
use mathlib.Core.List.{List, [], ◌∷◌}
use Prim.Native.Nat.{ℕ, zero, suc, ◌+◌, ◌-◌, ◌*◌, ◌/◌, ◌≤◌, ◌<◌, suc-le-suc, zero-le}
use native.Mathlib.Nat.{le_trans, min-le_left, min-le_right, not-suc-le-zero, le_of_suc-le-suc, zero-mul, zero-add, suc-mul, add_comm, mul-le-mul_right, div-mul-le_self}
use native.Mathlib.Omega.{arith}
use borrow.Author.Tests.{eqb-false, eqb-true}
use lib.Dec.{eqb}
use lib.ListN.{length, get_or, take, drop, length-drop, length-append}
use lib.Seq.{sets}
use Rattle.text.specs.Lines.{lines, first_line, after_line}
use Rattle.text.proofs.Walk.{line_first, some_text}
use Rattle.text.specs.Fields.{fields}
use Rattle.std.specs.Prelude.{Ok, Err}
use Rattle.refusals.specs.declared.Refusal.TheVariants.{NotAscii, EmptyText, FieldCount, NoRows}
use Rattle.refusals.specs.declared.RefusedRow.{RefusedRow}
use Rattle.refusals.specs.Refusals.{Judgement, passed_if, and_then}
use Rattle.numeral.specs.Spelling.{whole_of}
use Rattle.decimals.specs.Decimals.{without_value}
use Rattle.blocks.specs.Blocks.{all_ascii}
use Rattle.bank_judge.specs.declared.BankSize.{BankSize}
use Rattle.bank_judge.specs.Judge.{Answer, sized, refused_in, depth_of, header_judged, signals_judged, row_judged, round_judged, at_row, unless, judge_rows, room_for, judge_lines, judged}
use Rattle.bank_fill.specs.Fill.{commits_of, decimals_of, signals_of, Accepted}
use Rattle.bank_curve.specs.Curve.{curve_from}
use Rattle.bank_judge.proofs.Laws.{no_answer, round_facts, head_facts, depth_width}
use Rattle.bank_curve.proofs.Stores.{take_sets}

-- past a test that did not refuse
past : (z : Bool) (q : RefusedRow) (answer : Answer) (s : BankSize) → ◌≡◌ {A = Answer} (cond z (Err q) answer) (Ok s) → (z ≡ false) × (answer ≡ Ok s)
past true q answer s e = absurd (no_answer q s e)
past false q answer s e = (refl, e)

past_row : (j : Judgement) (row : ℕ) (answer : Answer) (s : BankSize) → unless (at_row j row) answer ≡ Ok s → (j ≡ Ok tt) × (answer ≡ Ok s)
past_row (Ok x) row answer s e = (refl, e)
past_row (Err r) row answer s e = absurd (no_answer (record { refusal = r; row = row }) s e)

-- the size of a bank
abbrev depth_in : Answer → ℕ
depth_in (Ok s) = s.depth
depth_in (Err q) = 0

abbrev rounds_in : Answer → ℕ
rounds_in (Ok s) = s.rounds
rounds_in (Err q) = 0

-- a row that is not refused has as many fields as the header
row_wide : (width skip : ℕ) (row : List (List ℕ)) → row_judged width skip row ≡ Ok tt → length row ≡ width
unfolding row_judged
row_wide width skip row = go (eqb (length row) width) (eqb-true (length row) width)
  where
    go : (z : Bool) → (z ≡ true → length row ≡ width)
        → ◌≡◌ {A = Judgement} (and_then (passed_if z FieldCount) (and_then (without_value (whole_of (get_or row 0 []))) (signals_judged (drop skip row)))) (Ok tt) → length row ≡ width
    go true f e = f refl
    go false f e = absurd (no_answer FieldCount tt e)

pub decimals_length : (fs : List (List ℕ)) → length (decimals_of fs) ≡ length fs
decimals_length [] = refl
decimals_length (f ∷ fs) = ap suc (decimals_length fs)

-- so its signal is as long as the others'
row_signal : (width skip : ℕ) (row : List (List ℕ)) → length row ≡ width → length (decimals_of (drop skip row)) ≡ width - skip
row_signal width skip row e = decimals_length (drop skip row) ∙ length-drop skip row ∙ ap (λ (n : ℕ). n - skip) e

-- what holds of a line and of each after it holds of each of them
all_rows : (P : List ℕ → Type 0) (line : List ℕ) (rows : List (List ℕ)) → P line → ((i : ℕ) → i < length rows → P (get_or rows i []))
    → (i : ℕ) → i < suc (length rows) → P (get_or (line ∷ rows) i [])
all_rows P line rows e f zero h = e
all_rows P line rows e f (suc i) h = f i (le_of_suc-le-suc h)

-- the rows, with the rounds before them
record Rows (rows : List (List ℕ)) (width skip room given depth round rounds : ℕ) : Type 0 where
  same : depth ≡ given
  some : 0 < rounds
  few : rounds ≤ 65536
  all : rounds ≡ round + length rows
  clean : (i : ℕ) → i < length rows → row_judged width skip (fields (get_or rows i [])) ≡ Ok tt
  wide : (i : ℕ) → i < length rows → length (fields (get_or rows i [])) ≡ width
  each : length (signals_of skip rows) ≡ length rows * (width - skip)
  fits : rounds ≤ room

rows_facts : (width skip given room : ℕ) (rows : List (List ℕ)) (round depth rounds : ℕ) → round ≤ 65536 → round ≤ room
    → judge_rows width skip given room rows round ≡ sized depth rounds → Rows rows width skip room given depth round rounds
rows_facts width skip given room [] round depth rounds h k e =
    let p = past (eqb round 0) (record { refusal = NoRows; row = 0 }) (sized given round) (record { depth = depth; rounds = rounds }) e in
    let n : round ≡ 0 → ⊥ = eqb-false round 0 p.0 in
    let d : depth ≡ given = sym (ap depth_in p.1) in
    let r : rounds ≡ round = sym (ap rounds_in p.1) in
    record { same = d; some = omega arith; few = omega arith; all = omega arith; clean = λ i l. absurd (not-suc-le-zero l); wide = λ i l. absurd (not-suc-le-zero l); each = sym (zero-mul (width - skip)); fits = omega arith }
rows_facts width skip given room (line ∷ rows) round depth rounds h k e =
    let rest = judge_rows width skip given room rows (suc round) in
    let p = past_row (round_judged width skip room (fields line) round) (round + 2) rest (record { depth = depth; rounds = rounds }) e in
    let r = round_facts width skip room (fields line) round p.0 in
    let f = rows_facts width skip given room rows (suc round) depth rounds r.1.0 r.1.1 p.1 in
    let a : rounds ≡ suc round + length rows = f.all in
    let first = row_signal width skip (fields line) (row_wide width skip (fields line) r.0) in
    let both : length (signals_of skip (line ∷ rows)) ≡ (width - skip) + length rows * (width - skip) =
    length-append (decimals_of (drop skip (fields line))) (signals_of skip rows) ∙ ap (λ (n : ℕ). n + length (signals_of skip rows)) first ∙ ap (λ (n : ℕ). (width - skip) + n) f.each in
    record {
      same = f.same;
      some = f.some;
      few = f.few;
      all = omega arith;
      clean = all_rows (λ (l : List ℕ). row_judged width skip (fields l) ≡ Ok tt) line rows r.0 f.clean;
      wide = all_rows (λ (l : List ℕ). length (fields l) ≡ width) line rows (row_wide width skip (fields line) r.0) f.wide;
      each = both ∙ add_comm (width - skip) (length rows * (width - skip)) ∙ sym (suc-mul (length rows) (width - skip));
      fits = f.fits;
    }

lines_facts : (text : List (List ℕ)) (commits signals curve depth rounds : ℕ) → judge_lines text commits signals curve ≡ sized depth rounds
    → Accepted text commits signals curve depth rounds
unfolding judge_lines
lines_facts [] commits signals curve depth rounds e = absurd (no_answer (record { refusal = EmptyText; row = 0 }) (record { depth = depth; rounds = rounds }) e)
lines_facts (header ∷ rows) commits signals curve depth rounds e =
    let names = fields header in
    let given = depth_of names in
    let room = room_for given commits signals in
    let p = past_row (header_judged names curve) 1 (judge_rows (length names) (length names - given) given room rows 0) (record { depth = depth; rounds = rounds }) e in
    let f = rows_facts (length names) (length names - given) given room rows 0 depth rounds zero-le zero-le p.1 in
    let good = head_facts names curve p.0 in
    let a : rounds ≡ length rows = f.all ∙ zero-add (length rows) in
    let g : depth ≡ given = f.same in
    let wide : given ≤ length names = depth_width names in
    let deep : length names - (length names - given) ≡ given = omega arith in
    record {
      header = suc-le-suc zero-le;
      within = subst (λ (d : ℕ). d ≤ length names) (sym g) wide;
      deep = subst (λ (d : ℕ). 0 < d) (sym g) good.0;
      shallow = subst (λ (d : ℕ). d ≤ 64) (sym g) good.1.0;
      some = f.some;
      few = f.few;
      all = a;
      clean = subst (λ (d : ℕ). (i : ℕ) → i < length rows → row_judged (length names) (length names - d) (fields (get_or rows i [])) ≡ Ok tt) (sym g) f.clean;
      wide = f.wide;
      each =
          ap (λ (d : ℕ). length (signals_of (length names - d) rows)) g
          ∙ f.each
          ∙ ap (λ (n : ℕ). length rows * n) deep
          ∙ ap (λ (n : ℕ). n * given) (sym a)
          ∙ ap (λ (d : ℕ). rounds * d) (sym g);
      commits_fit = le_trans f.fits (min-le_left commits (signals / given));
      signals_fit =
          subst (λ (d : ℕ). rounds * d ≤ signals) (sym g)
          (le_trans (mul-le-mul_right given (le_trans f.fits (min-le_right commits (signals / given)))) (div-mul-le_self signals given));
      curve_fits = subst (λ (d : ℕ). d < curve) (sym g) good.1.1;
    }

pub accepted : (text : List ℕ) (commits signals curve depth rounds : ℕ) → judged text commits signals curve ≡ sized depth rounds
    → Accepted (lines text) commits signals curve depth rounds
unfolding judged
accepted text commits signals curve depth rounds e = go (all_ascii text) e
  where
    go : (z : Bool) → cond z (judge_lines (lines text) commits signals curve) (refused_in NotAscii 0) ≡ sized depth rounds → Accepted (lines text) commits signals curve depth rounds
    go true e = lines_facts (lines text) commits signals curve depth rounds e
    go false e = absurd (no_answer (record { refusal = NotAscii; row = 0 }) (record { depth = depth; rounds = rounds }) e)

-- ---- its buffers

-- the header and the rows, where stop and next are what `first_line` gives
module _ (s : List ℕ) (stop next : ℕ) (e : stop ≡ length (first_line s)) (f : next ≡ length s - length (after_line s)) (some : 0 < length (lines s)) where
  pub header_is : get_or (lines s) 0 [] ≡ take stop s
  header_is = ap (λ (l : List (List ℕ)). get_or l 0 []) (line_first s stop next e f (some_text s some))

  pub rows_are : drop 1 (lines s) ≡ lines (take (length s - next) (drop next s))
  rows_are = ap (drop 1) (line_first s stop next e f (some_text s some))

pub commits_length : (rows : List (List ℕ)) → length (commits_of rows) ≡ length rows
commits_length [] = refl
commits_length (line ∷ rows) = ap suc (commits_length rows)

-- the rounds' commits, read back from the buffer
pub commits_kept : (rows : List (List ℕ)) (before after : List ℕ) (rounds : ℕ) → after ≡ sets before 0 (commits_of rows) → rounds ≡ length rows → rounds ≤ length before
    → take rounds after ≡ commits_of rows
commits_kept rows before after rounds e r h =
    let n : rounds ≡ length (commits_of rows) = r ∙ sym (commits_length rows) in
    ap (take rounds) e
    ∙ ap (λ (k : ℕ). take k (sets before 0 (commits_of rows))) n
    ∙ take_sets (commits_of rows) before (subst (λ (k : ℕ). k ≤ length before) n h)

pub curve_length : (g n : ℕ) (commits : List ℕ) → length (curve_from g n commits) ≡ n
curve_length g zero commits = refl
curve_length g (suc n) commits = ap suc (curve_length (suc g) n commits)
