-- Laws of the judge's definitions. Assumes nothing.
use mathlib.Core.Path.{◌≡◌, refl, sym, ap, ◌∙◌}
use mathlib.Core.Bool.{Bool, true, false, not, ◌&&◌, cond}
use mathlib.Core.List.{List, [], ◌∷◌}
use Prim.Native.Nat.{ℕ, zero, suc, ◌+◌, ◌-◌, ◌≤◌, ◌<◌, zero-le, suc-le-suc}
use native.Mathlib.Nat.{not-suc-le-zero, le_trans, le-suc}
use native.Mathlib.Numerals.{add-one}
use native.Mathlib.Omega.{arith}
use borrow.Author.Tests.{le-leb, lt-leb, lt-ltb, le-ltb, eq-eqb, ne_eqb, eqb-true, eqb-false, leb-true, ltb-true}
use lib.Dec.{leb, ltb, eqb}
use lib.ListN.{length, get_or, take, drop}
use Rattle.std.specs.Prelude.{⊤, Result, Ok, Err}
use Rattle.refusals.specs.declared.Refusal.{Refusal}
use Rattle.refusals.specs.declared.Refusal.TheVariants.{NotAscii, EmptyText, WrongHeader, FieldCount, NoRows, Size, ShortBuffer}
use Rattle.refusals.specs.declared.RefusedRow.{RefusedRow}
use Rattle.refusals.specs.Refusals.{Judgement, passed_if, and_then}
use Rattle.laws.proofs.Both.{and_false}
use Rattle.blocks.specs.Blocks.{find, all_ascii}
use Rattle.text.specs.Lines.{starts_with, lines}
use Rattle.text.specs.Fields.{fields, same_text}
use Rattle.text.proofs.Walk.{drop_more}
use Rattle.first_field.specs.Front.{field_length}
use Rattle.numeral.specs.Spelling.{whole_of}
use Rattle.decimals.specs.Decimals.{Decimal, decimal_of, without_value}
use Rattle.bank_judge.specs.Judge.{Answer, sized, refused_in, commits_name, depth_of, header_judged, signals_judged, row_judged, round_judged, at_row, unless, judge_rows, room_for, judge_lines, judged}

-- ---- a refusal is no answer

pub no_answer : {A B : Type 0} (b : B) (a : A) → ◌≡◌ {A = Result A B} (Err b) (Ok a) → ⊥
no_answer b a e = let z : ◌≡◌ {A = ℕ} 0 1 = cc in omega arith

-- ---- the depth

-- a name starts with `a` where the rest of the header does
starts_name : (s : List ℕ) → starts_with 97 (take (find 44 s) s) ≡ starts_with 97 s
starts_name [] = refl
starts_name (b ∷ s) = go (eqb b 44) (λ e. ne_eqb b 97 (λ f. eqb-false 44 97 refl (sym (eqb-true b 44 e) ∙ f)))
  where
    go : (z : Bool) → (z ≡ true → eqb b 97 ≡ false) → starts_with 97 (take (cond z 0 (suc (find 44 s))) (b ∷ s)) ≡ eqb b 97
    go true f = sym (f refl)
    go false f = refl

-- the depth of what stands from a name on
pub depth_from : (s : List ℕ) (n : ℕ) (z : Bool) (names : List (List ℕ)) → n ≡ find 44 s → z ≡ starts_with 97 s → fields s ≡ take n s ∷ names
    → depth_of (fields s) ≡ cond z 1 0 + depth_of names
depth_from s n z names e f l =
    ap depth_of l
    ∙ ap (λ (y : Bool). cond y (suc (depth_of names)) (depth_of names)) (ap (λ (k : ℕ). starts_with 97 (take k s)) e ∙ starts_name s ∙ sym f)
    ∙ go z
  where
    go : (y : Bool) → cond y (suc (depth_of names)) (depth_of names) ≡ cond y 1 0 + depth_of names
    go true = omega arith
    go false = omega arith

-- ---- the signal

-- a decimal's field ends where the search for the comma ends
pub field_found : (s : List ℕ) → field_length s ≡ find 44 s
field_found [] = refl
field_found (b ∷ s) = go (eqb b 44) (field_found s)
  where
    go : (z : Bool) → field_length s ≡ find 44 s → cond (not z) (suc (field_length s)) 0 ≡ cond z 0 (suc (find 44 s))
    go true e = refl
    go false e = ap suc e

-- a field that is passed over
pub signal_skipped : (k : ℕ) (f : List ℕ) (fs : List (List ℕ)) → 0 < k → signals_judged (drop k (f ∷ fs)) ≡ signals_judged (drop (k - 1) fs)
signal_skipped k f fs h = ap signals_judged (drop_more k f fs h)

-- a field that is judged: m is its judgement
pub signal_refused : (k : ℕ) (m : Judgement) (r : Refusal) (f : List ℕ) (fs : List (List ℕ)) → k ≤ 0 → m ≡ without_value (decimal_of f) → m ≡ Err r → signals_judged (drop k (f ∷ fs)) ≡ Err r
signal_refused zero m r f fs h e n = ap (λ (j : Judgement). and_then j (signals_judged fs)) (sym e ∙ n)
signal_refused (suc k) m r f fs h e n = absurd (not-suc-le-zero h)

pub signal_passed : (k : ℕ) (m : Judgement) (x : ⊤) (f : List ℕ) (fs : List (List ℕ)) → k ≤ 0 → m ≡ without_value (decimal_of f) → m ≡ Ok x → signals_judged (drop k (f ∷ fs)) ≡ signals_judged (drop k fs)
signal_passed zero m x f fs h e n = ap (λ (j : Judgement). and_then j (signals_judged fs)) (sym e ∙ n)
signal_passed (suc k) m x f fs h e n = absurd (not-suc-le-zero h)

-- ---- a row

module _ (width skip : ℕ) (row : List (List ℕ)) where
  pub row_width : (length row ≡ width → ⊥) → row_judged width skip row ≡ Err FieldCount
  unfolding row_judged
  row_width n = rw (ne_eqb (length row) width n)

  pub row_whole : (r : Refusal) → length row ≡ width → without_value (whole_of (get_or row 0 [])) ≡ Err r → row_judged width skip row ≡ Err r
  unfolding row_judged
  row_whole r l e = rw (eq-eqb (length row) width l) (ap (λ (j : Judgement). and_then j (signals_judged (drop skip row))) e)

  pub row_signals : length row ≡ width → without_value (whole_of (get_or row 0 [])) ≡ Ok tt → row_judged width skip row ≡ signals_judged (drop skip row)
  unfolding row_judged
  row_signals l e = rw (eq-eqb (length row) width l) (ap (λ (j : Judgement). and_then j (signals_judged (drop skip row))) e)

-- ---- the header

module _ (names : List (List ℕ)) (room : ℕ) where
  pub head_name : same_text (get_or names 0 []) commits_name ≡ false → header_judged names room ≡ Err WrongHeader
  unfolding header_judged
  head_name e = rw e

  pub head_none : depth_of names ≡ 0 → header_judged names room ≡ Err WrongHeader
  unfolding header_judged
  head_none e = rw (e, and_false (same_text (get_or names 0 []) commits_name))

  module _ (same : same_text (get_or names 0 []) commits_name ≡ true) (some : 0 < depth_of names) where
    pub head_wide : 128 < length names → header_judged names room ≡ Err Size
    unfolding header_judged
    head_wide h = rw (same, lt-ltb 0 (depth_of names) some, lt-leb (length names) 128 h)

    pub head_deep : length names ≤ 128 → 64 < depth_of names → header_judged names room ≡ Err Size
    unfolding header_judged
    head_deep w h = rw (same, lt-ltb 0 (depth_of names) some, le-leb (length names) 128 w, lt-leb (depth_of names) 64 h)

    pub head_short : length names ≤ 128 → depth_of names ≤ 64 → room ≤ depth_of names → header_judged names room ≡ Err ShortBuffer
    unfolding header_judged
    head_short w d h = rw (same, lt-ltb 0 (depth_of names) some, le-leb (length names) 128 w, le-leb (depth_of names) 64 d, le-ltb (depth_of names) room h)

    pub head_good : length names ≤ 128 → depth_of names ≤ 64 → depth_of names < room → header_judged names room ≡ Ok tt
    unfolding header_judged
    head_good w d h = rw (same, lt-ltb 0 (depth_of names) some, le-leb (length names) 128 w, le-leb (depth_of names) 64 d, lt-ltb (depth_of names) room h)

-- ---- the rows: m is what is said of the first line

pub row_passed : (j : Judgement) (row : ℕ) (x : ⊤) → at_row j row ≡ Ok x → j ≡ Ok tt
row_passed (Ok y) row x e = refl
row_passed (Err refusal) row x e = absurd (no_answer (record { refusal = refusal; row = row }) x e)

-- what holds of a round that passes
pub round_facts : (width skip room : ℕ) (row : List (List ℕ)) (round : ℕ) → round_judged width skip room row round ≡ Ok tt
    → (row_judged width skip row ≡ Ok tt) × ((round < 65536) × (round < room))
unfolding round_judged
round_facts width skip room row round = go (row_judged width skip row) (ltb round 65536) (ltb round room) (ltb-true round 65536) (ltb-true round room)
  where
    go : (j : Judgement) (a b : Bool) → (a ≡ true → round < 65536) → (b ≡ true → round < room)
        → ◌≡◌ {A = Judgement} (and_then j (and_then (passed_if a Size) (passed_if b ShortBuffer))) (Ok tt) → (j ≡ Ok tt) × ((round < 65536) × (round < room))
    go (Ok y) true true f g e = (refl, (f refl, g refl))
    go (Ok y) true false f g e = absurd (no_answer ShortBuffer tt e)
    go (Ok y) false b f g e = absurd (no_answer Size tt e)
    go (Err refusal) a b f g e = absurd (no_answer refusal tt e)

round_refused : (width skip room : ℕ) (row : List (List ℕ)) (round : ℕ) (refusal : Refusal) → row_judged width skip row ≡ Err refusal → round_judged width skip room row round ≡ Err refusal
unfolding round_judged
round_refused width skip room row round refusal said = ap (λ (j : Judgement). and_then j (and_then (passed_if (ltb round 65536) Size) (passed_if (ltb round room) ShortBuffer))) said

module _ (width skip room : ℕ) (row : List (List ℕ)) (round : ℕ) (passes : row_judged width skip row ≡ Ok tt) where
  round_many : 65536 ≤ round → round_judged width skip room row round ≡ Err Size
  unfolding round_judged
  round_many h = rw (passes, le-ltb round 65536 h)

  round_fits : round < 65536 → round < room → round_judged width skip room row round ≡ Ok tt
  unfolding round_judged
  round_fits h k = rw (passes, lt-ltb round 65536 h, lt-ltb round room k)

  round_full : round < 65536 → room ≤ round → round_judged width skip room row round ≡ Err ShortBuffer
  unfolding round_judged
  round_full h k = rw (passes, lt-ltb round 65536 h, le-ltb round room k)

module _ (width skip depth room : ℕ) where
  pub rows_none : (rows : List (List ℕ)) (round : ℕ) → rows ≡ [] → round ≡ 0 → judge_rows width skip depth room rows round ≡ refused_in NoRows 0
  rows_none rows round e z = ap (λ (r : List (List ℕ)). judge_rows width skip depth room r round) e ∙ rw (eq-eqb round 0 z)

  pub rows_done : (rows : List (List ℕ)) (round : ℕ) → rows ≡ [] → (round ≡ 0 → ⊥) → judge_rows width skip depth room rows round ≡ sized depth round
  rows_done rows round e n = ap (λ (r : List (List ℕ)). judge_rows width skip depth room r round) e ∙ rw (ne_eqb round 0 n)

  module _ (rows : List (List ℕ)) (line : List ℕ) (rest : List (List ℕ)) (round : ℕ) (m : Result ⊤ RefusedRow) (e : rows ≡ line ∷ rest) (f : m ≡ at_row (round_judged width skip room (fields line) round) (round + 2)) where
    -- the answer, with what is said of the line in place
    abbrev opened : Result ⊤ RefusedRow → Answer
    opened said = unless said (judge_rows width skip depth room rest (suc round))

    open_row : judge_rows width skip depth room rows round ≡ opened m
    open_row = ap (λ (r : List (List ℕ)). judge_rows width skip depth room r round) e ∙ ap opened (sym f)

    pub rows_end : (q : RefusedRow) → m ≡ Err q → judge_rows width skip depth room rows round ≡ Err q
    rows_end q n = open_row ∙ ap opened n

    pub rows_go_on : (x : ⊤) → m ≡ Ok x → judge_rows width skip depth room rows round ≡ judge_rows width skip depth room rest (round + 1)
    rows_go_on x n = open_row ∙ ap opened n ∙ ap (judge_rows width skip depth room rest) (sym (add-one round))

    pub rows_few : (x : ⊤) → m ≡ Ok x → round < 65536
    rows_few x n =
        let j = round_judged width skip room (fields line) round in
        (round_facts width skip room (fields line) round (row_passed j (round + 2) x (sym f ∙ n))).1.0

  -- a row's own refusal goes first, whatever the round and the room
  pub rows_refused : (rows : List (List ℕ)) (line : List ℕ) (rest : List (List ℕ)) (round : ℕ) → rows ≡ line ∷ rest → (refusal : Refusal) → row_judged width skip (fields line) ≡ Err refusal
      → judge_rows width skip depth room rows round ≡ refused_in refusal (round + 2)
  rows_refused rows line rest round e refusal said =
      rows_end rows line rest round (at_row (round_judged width skip room (fields line) round) (round + 2)) e refl (record { refusal = refusal; row = round + 2 })
      (ap (λ (j : Judgement). at_row j (round + 2)) (round_refused width skip room (fields line) round refusal said))

  -- past a row that is not refused
  module _ (rows : List (List ℕ)) (line : List ℕ) (rest : List (List ℕ)) (round : ℕ) (e : rows ≡ line ∷ rest) (passes : row_judged width skip (fields line) ≡ Ok tt) where
    pub rows_many : 65536 ≤ round → judge_rows width skip depth room rows round ≡ refused_in Size (round + 2)
    rows_many h =
        rows_end rows line rest round (at_row (round_judged width skip room (fields line) round) (round + 2)) e refl (record { refusal = Size; row = round + 2 })
        (ap (λ (j : Judgement). at_row j (round + 2)) (round_many width skip room (fields line) round passes h))

    pub rows_full : round < 65536 → room ≤ round → judge_rows width skip depth room rows round ≡ refused_in ShortBuffer (round + 2)
    rows_full h k =
        rows_end rows line rest round (at_row (round_judged width skip room (fields line) round) (round + 2)) e refl (record { refusal = ShortBuffer; row = round + 2 })
        (ap (λ (j : Judgement). at_row j (round + 2)) (round_full width skip room (fields line) round passes h k))

    pub rows_next : round < 65536 → round < room → judge_rows width skip depth room rows round ≡ judge_rows width skip depth room rest (round + 1)
    rows_next h k =
        rows_go_on rows line rest round (at_row (round_judged width skip room (fields line) round) (round + 2)) e refl tt
        (ap (λ (j : Judgement). at_row j (round + 2)) (round_fits width skip room (fields line) round passes h k))

-- ---- the header and the rows

-- what holds where nothing is wrong with the header
pub head_facts : (names : List (List ℕ)) (room : ℕ) → header_judged names room ≡ Ok tt → (0 < depth_of names) × ((depth_of names ≤ 64) × (depth_of names < room))
unfolding header_judged
head_facts names room e =
    let f = go (same_text (get_or names 0 []) commits_name) (ltb 0 (depth_of names)) (leb (length names) 128) (leb (depth_of names) 64) (ltb (depth_of names) room) e in
    (ltb-true 0 (depth_of names) f.0, (leb-true (depth_of names) 64 f.1.0, ltb-true (depth_of names) room f.1.1))
  where
    go : (a b c d f : Bool) → ◌≡◌ {A = Judgement} (and_then (passed_if (a && b) WrongHeader) (and_then (passed_if (c && d) Size) (passed_if f ShortBuffer))) (Ok tt)
        → (b ≡ true) × ((d ≡ true) × (f ≡ true))
    go false b c d f e = absurd (no_answer WrongHeader tt e)
    go true false c d f e = absurd (no_answer WrongHeader tt e)
    go true true false d f e = absurd (no_answer Size tt e)
    go true true true false f e = absurd (no_answer Size tt e)
    go true true true true false e = absurd (no_answer ShortBuffer tt e)
    go true true true true true e = (refl, (refl, refl))

pub depth_width : (names : List (List ℕ)) → depth_of names ≤ length names
depth_width [] = zero-le
depth_width (name ∷ names) = go (starts_with 97 name) (depth_width names)
  where
    go : (z : Bool) → depth_of names ≤ length names → cond z (suc (depth_of names)) (depth_of names) ≤ suc (length names)
    go true h = suc-le-suc h
    go false h = le_trans h (le-suc (length names))

module _ (header : List ℕ) (rows : List (List ℕ)) (commits signals curve : ℕ) (m : Result ⊤ RefusedRow) (e : m ≡ at_row (header_judged (fields header) curve) 1) where
  -- the answer, with what is said of the header in place
  abbrev behind_header : Result ⊤ RefusedRow → Answer
  behind_header said =
      unless said (judge_rows (length (fields header)) (length (fields header) - depth_of (fields header)) (depth_of (fields header)) (room_for (depth_of (fields header)) commits signals) rows 0)

  pub lines_refused : (q : RefusedRow) → m ≡ Err q → judge_lines (header ∷ rows) commits signals curve ≡ Err q
  unfolding judge_lines
  lines_refused q n = ap behind_header (sym e ∙ n)

  pub lines_judged : (x : ⊤) → m ≡ Ok x
      → judge_lines (header ∷ rows) commits signals curve
      ≡ judge_rows (length (fields header)) (length (fields header) - depth_of (fields header)) (depth_of (fields header)) (room_for (depth_of (fields header)) commits signals) rows 0
  unfolding judge_lines
  lines_judged x n = ap behind_header (sym e ∙ n)

  pub lines_facts : (x : ⊤) → m ≡ Ok x → (0 < depth_of (fields header)) × ((depth_of (fields header) ≤ 64) × (depth_of (fields header) < curve))
  lines_facts x n = head_facts (fields header) curve (row_passed (header_judged (fields header) curve) 1 x (sym e ∙ n))

module _ (text : List ℕ) (commits signals curve : ℕ) where
  pub text_high : all_ascii text ≡ false → judged text commits signals curve ≡ refused_in NotAscii 0
  unfolding judged
  text_high e = rw e

  pub text_judged : all_ascii text ≡ true → judged text commits signals curve ≡ judge_lines (lines text) commits signals curve
  unfolding judged
  text_judged e = rw e

pub text_empty : (text : List ℕ) (commits signals curve : ℕ) → length text ≡ 0 → judged text commits signals curve ≡ refused_in EmptyText 0
unfolding judged judge_lines
text_empty [] commits signals curve e = refl
text_empty (b ∷ s) commits signals curve e = absurd (omega arith)
