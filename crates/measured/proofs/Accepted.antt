-- What holds of a text of which the judge says that it is a cost table, and of the columns after it was read. Assumes nothing.
use mathlib.Core.Path.{◌≡◌, refl, sym, ap, ◌∙◌}
use mathlib.Core.Bool.{Bool, true, false, cond}
use mathlib.Core.List.{List, [], ◌∷◌, ◌++◌, map}
use Prim.Native.Nat.{ℕ, suc, ◌+◌, ◌-◌, ◌≤◌, ◌<◌, min, suc-le-suc, zero-le}
use native.Mathlib.Omega.{arith}
use borrow.Author.Tests.{leb-false, eqb-false}
use lib.Dec.{leb, eqb}
use lib.ListN.{length, take, drop, length-take, length-map}
use lib.Seq.{take_at}
use lib.Ieee.{Float}
use Rattle.text.specs.Lines.{lines, first_line, after_line}
use Rattle.text.specs.Fields.{fields}
use Rattle.blocks.specs.Blocks.{all_ascii}
use Rattle.text.proofs.Walk.{line_first, some_text}
use Rattle.cost_rows.specs.Table.{Row, table, counted, over, Written}
use Rattle.cost_rows.specs.Order.{sorted}
use Rattle.cost_rows.specs.Prune.{kept}
use Rattle.cost_rows.proofs.Sorting.{sorted_length}
use Rattle.cost_rows.proofs.Composed.{read_back, arranged, kept_fewer, over_over}
use Rattle.cost_rows.proofs.Pruned.{stays_nonempty}
use Rattle.std.proofs.Common.{Some, None, Ok, Err}
use Rattle.refusals.specs.declared.Refusal.TheVariants.{NotAscii, EmptyText, WrongHeader, NoRows, Size, ShortBuffer}
use Rattle.refusals.specs.declared.RefusedRow.{RefusedRow}
use Rattle.table_line.specs.Line.{Line, line_read}
use Rattle.measured.specs.Judge.{Answer, refused, header_right, rows_in, unless_refused, judge_rows, judge_lines, judged}
use Rattle.measured.specs.Fill.{row_of, rows_of, Put, PutAt, kept_over, Cleaned, cleaned_to, Outcome, leaves, answered, table_read}
use Rattle.measured.proofs.Laws.{some_left}

-- a refusal is no table
pub refused_no : (why : RefusedRow) (rows : ℕ) → ◌≡◌ {A = Answer} (Err why) (Ok rows) → ⊥
refused_no why rows e = let z : ◌≡◌ {A = ℕ} 0 1 = cc in omega arith

-- past a test that did not refuse
past : (z : Bool) (why : RefusedRow) (rows : ℕ) (answer : Answer) → cond z (Err why) answer ≡ Ok rows → (z ≡ false) × (answer ≡ Ok rows)
past true why rows answer e = absurd (refused_no why rows e)
past false why rows answer e = (refl, e)

-- of lines with the rows t after n rows, `rows` in all
abbrev Facts : ℕ → ℕ → List Row → ℕ → Type 0
Facts room n t rows = (n + length t ≡ rows) × ((0 < rows) × ((rows ≤ 4096) × (rows ≤ room)))

line_facts : (said : Line) (room : ℕ) (rest : List (List ℕ)) (row n rows : ℕ) → n ≤ 4096 → n ≤ room
    → ((m : ℕ) → m ≤ 4096 → m ≤ room → judge_rows room rest (suc row) m ≡ Ok rows → Facts room m (rows_of rest) rows)
    → unless_refused said room row n (judge_rows room rest (suc row) (n + rows_in said)) ≡ Ok rows → Facts room n (row_of said ++ rows_of rest) rows
line_facts (Ok None) room rest row n rows h k ih e =
    let z : n + 0 ≡ n = omega arith in
    ih n h k (ap (judge_rows room rest (suc row)) (sym z) ∙ e)
line_facts (Err refusal) room rest row n rows h k ih e = absurd (refused_no (record { refusal = refusal; row = row }) rows e)
line_facts (Ok (Some read)) room rest row n rows h k ih e =
    let later = judge_rows room rest (suc row) (n + 1) in
    let p = past (leb 4096 n) (record { refusal = Size; row = row }) rows (cond (leb room n) (refused ShortBuffer row) later) e in
    let q = past (leb room n) (record { refusal = ShortBuffer; row = row }) rows later p.1 in
    let f = ih (n + 1) (omega (arith, leb-false 4096 n p.0)) (omega (arith, leb-false room n q.0)) q.1 in
    let a : (n + 1) + length (rows_of rest) ≡ rows = f.0 in
    (omega arith, f.1)

rows_facts : (room : ℕ) (all : List (List ℕ)) (row n rows : ℕ) → n ≤ 4096 → n ≤ room → judge_rows room all row n ≡ Ok rows → Facts room n (rows_of all) rows
unfolding rows_of
rows_facts room [] row n rows h k e =
    let p = past (eqb n 0) (record { refusal = NoRows; row = 0 }) rows (Ok n) e in
    let z : n ≡ 0 → ⊥ = eqb-false n 0 p.0 in
    let b : Ok n ≡ Ok rows = p.1 in
    let r : n ≡ rows = cc in
    (omega arith, (omega arith, (omega arith, omega arith)))
rows_facts room (line ∷ rest) row n rows h k e = line_facts (line_read line) room rest row n rows h k (λ m i j f. rows_facts room rest (suc row) m rows i j f) e

lines_facts : (room : ℕ) (text : List (List ℕ)) (rows : ℕ) → judge_lines room text ≡ Ok rows → (0 < length text) × Facts room 0 (rows_of (drop 1 text)) rows
unfolding judge_lines
lines_facts room [] rows e = absurd (refused_no (record { refusal = EmptyText; row = 0 }) rows e)
lines_facts room (header ∷ rest) rows e = go (header_right (fields header)) e
  where
    go : (z : Bool) → cond z (judge_rows room rest 2 0) (refused WrongHeader 1) ≡ Ok rows → (0 < suc (length rest)) × Facts room 0 (rows_of rest) rows
    go true f = (suc-le-suc zero-le, rows_facts room rest 2 0 rows zero-le zero-le f)
    go false f = absurd (refused_no (record { refusal = WrongHeader; row = 1 }) rows f)

-- a text that the judge takes for a table of so many rows
pub accepted : (room : ℕ) (text : List ℕ) (rows : ℕ) → judged room text ≡ Ok rows → (0 < length text) × Facts room 0 (rows_of (drop 1 (lines text))) rows
unfolding judged
accepted room text rows e = go (all_ascii text) e
  where
    go : (z : Bool) → cond z (judge_lines room (lines text)) (refused NotAscii 0) ≡ Ok rows → (0 < length text) × Facts room 0 (rows_of (drop 1 (lines text))) rows
    go true f = let p = lines_facts room (lines text) rows f in (some_text text p.0, p.1)
    go false f = absurd (refused_no (record { refusal = NotAscii; row = 0 }) rows f)

-- the lines after the header, where stop and next are what `first_line` gives
pub rows_are : (s : List ℕ) (stop next : ℕ) → stop ≡ length (first_line s) → next ≡ length s - length (after_line s) → 0 < length s
    → drop 1 (lines s) ≡ lines (take (length s - next) (drop next s))
rows_are s stop next e f h = ap (drop 1) (line_first s stop next e f h)

-- ---- the rows in the columns that the judge was lent

-- a refusal says nothing of them
pub put_refused : (why : RefusedRow) (answer : Answer) (t : List Row) (d b : List ℕ) (s : List Float) → answer ≡ Err why → PutAt answer t d b s
put_refused why answer t d b s e rows f = absurd (refused_no why rows (sym e ∙ f))

front : {A : Type 0} (f : Row → A) (t : List Row) (x y : List A) → y ≡ over f t x → take (length t) y ≡ map f t
unfolding over
front f t x y e = ap (take (length t)) e ∙ take_at (map f t) (drop (length t) x) (length t) (length-map t f)

pub put_all : (t : List Row) (d₀ b₀ : List ℕ) (s₀ : List Float) (d b : List ℕ) (s : List Float) → Written t d₀ b₀ s₀ d b s → Put t d b s
put_all t d₀ b₀ s₀ d b s w =
    record { depths = front (λ r. r.depth) t d₀ d w.depths; batches = front (λ r. r.batch) t b₀ b w.batches; seconds = front (λ r. r.seconds) t s₀ s w.seconds }

-- ---- put in order, then cleaned

pub cleaned_law : (rows : ℕ) (d b : List ℕ) (s : List Float) (d1 b1 : List ℕ) (s1 : List Float) (left : ℕ) (d2 b2 : List ℕ) (s2 : List Float)
    → Written (sorted (table rows d b s)) d b s d1 b1 s1
    → left ≡ length (kept (table rows d1 b1 s1)) → Written (kept (table rows d1 b1 s1)) d1 b1 s1 d2 b2 s2
    → (left ≡ length (kept (sorted (table rows d b s)))) × Cleaned (sorted (table rows d b s)) d b s d2 b2 s2
cleaned_law rows d b s d1 b1 s1 left d2 b2 s2 v e w =
    let q = arranged rows d b s d1 b1 s1 v in
    let t = sorted (table rows d b s) in (
      e ∙ ap (λ (x : List Row). length (kept x)) q,
      record {
        depths = w.depths ∙ ap (λ (x : List Row). over (λ r. r.depth) (kept x) d1) q ∙ ap (over (λ r. r.depth) (kept t)) v.depths;
        batches = w.batches ∙ ap (λ (x : List Row). over (λ r. r.batch) (kept x) b1) q ∙ ap (over (λ r. r.batch) (kept t)) v.batches;
        seconds = w.seconds ∙ ap (λ (x : List Row). over (λ r. r.seconds) (kept x) s1) q ∙ ap (over (λ r. r.seconds) (kept t)) v.seconds;
      },
    )

-- ---- the outcome

abbrev rows_read : List ℕ → List Row
rows_read text = rows_of (drop 1 (lines text))

module _ (text d b : List ℕ) (s : List Float) (low room : ℕ) (f : low ≡ min (length b) (length s)) (g : room ≡ min (length d) low) (answer : Answer) (e : answer ≡ judged room text) where
  room_is : room ≡ min (length d) (min (length b) (length s))
  room_is = g ∙ ap (min (length d)) f

  judged_is : answer ≡ judged (min (length d) (min (length b) (length s))) text
  judged_is = e ∙ ap (λ (n : ℕ). judged n text) room_is

  pub read_refused : (why : RefusedRow) → answer ≡ Err why
      → ◌≡◌ {A = Outcome} (record { answer = answer; depths = d; batches = b; seconds = s }) (table_read text d b s)
  unfolding table_read
  read_refused why r =
      let t = sorted (rows_read text) in
      ap {B = Outcome} (λ (x : Answer). record { answer = x; depths = d; batches = b; seconds = s }) r
      ∙ ap (λ (x : Answer). leaves (answered x t) t d b s) (sym r ∙ judged_is)

  module _ (rows : ℕ) (r : answer ≡ Ok rows) where
    facts : (0 < length text) × Facts room 0 (rows_read text) rows
    facts = accepted room text rows (sym e ∙ r)

    all : length (rows_read text) ≡ rows
    all = let a : 0 + length (rows_read text) ≡ rows = facts.1.0 in omega arith

    pub few : rows ≤ 4096
    few = facts.1.1.1.0

    -- the rows have room in the columns
    in_depths : rows ≤ length d
    in_depths = let h : rows ≤ room = facts.1.1.1.1 in let m : room ≡ min (length d) (min (length b) (length s)) = room_is in omega arith

    in_batches : rows ≤ length b
    in_batches = let h : rows ≤ room = facts.1.1.1.1 in let m : room ≡ min (length d) (min (length b) (length s)) = room_is in omega arith

    in_seconds : rows ≤ length s
    in_seconds = let h : rows ≤ room = facts.1.1.1.1 in let m : room ≡ min (length d) (min (length b) (length s)) = room_is in omega arith

    -- what is copied is not longer than the columns
    pub rows_fit : (rd rb : List ℕ) (rs : List Float) → (length (take rows rd) ≤ length d) × (length (take rows rb) ≤ length b) × (length (take rows rs) ≤ length s)
    rows_fit rd rb rs = (omega (arith, length-take rows rd, in_depths), omega (arith, length-take rows rb, in_batches), omega (arith, length-take rows rs, in_seconds))

    front_is : {A : Type 0} (f : Row → A) (x y z : List A) → take (length (rows_read text)) x ≡ map f (rows_read text) → z ≡ take rows x ++ drop (length (take rows x)) y → z ≡ over f (rows_read text) y
    unfolding over
    front_is f x y z p q =
        let a : take rows x ≡ map f (rows_read text) = ap (λ (k : ℕ). take k x) (sym all) ∙ p in
        q ∙ ap (λ (l : List _). l ++ drop (length l) y) a ∙ ap (λ (k : ℕ). map f (rows_read text) ++ drop k y) (length-map (rows_read text) f)

    -- the rows that were read, copied over the front of the columns
    pub put_written : (rd rb : List ℕ) (rs : List Float) → Put (rows_read text) rd rb rs → (d1 b1 : List ℕ) (s1 : List Float)
        → d1 ≡ take rows rd ++ drop (length (take rows rd)) d → b1 ≡ take rows rb ++ drop (length (take rows rb)) b → s1 ≡ take rows rs ++ drop (length (take rows rs)) s
        → Written (rows_read text) d b s d1 b1 s1
    put_written rd rb rs p d1 b1 s1 x y z =
        record {
          depths = front_is (λ r. r.depth) rd d d1 p.depths x;
          batches = front_is (λ r. r.batch) rb b b1 p.batches y;
          seconds = front_is (λ r. r.seconds) rs s s1 p.seconds z;
        }

    module _ (d1 b1 : List ℕ) (s1 : List Float) (w : Written (rows_read text) d b s d1 b1 s1) where
      -- what is read of the columns is what was put there
      back : table rows d1 b1 s1 ≡ rows_read text
      back =
          let h : rows ≤ 4096 = few in
          let a : length (rows_read text) ≡ rows = all in
          let p : rows ≤ length d = in_depths in
          let q : rows ≤ length b = in_batches in
          let o : rows ≤ length s = in_seconds in
          let x : length (rows_read text) ≤ length d = omega arith in
          let y : length (rows_read text) ≤ length b = omega arith in
          let z : length (rows_read text) ≤ length s = omega arith in
          let c : counted rows d b s ≡ length (rows_read text) = omega arith in
          read_back (rows_read text) d b s d1 b1 s1 w x y z rows c

      module _ (left : ℕ) (k : left ≡ length (kept (sorted (table rows d1 b1 s1)))) where
        left_is : left ≡ length (kept (sorted (rows_read text)))
        left_is = k ∙ ap (λ (t : List Row). length (kept (sorted t))) back

        pub left_few : left ≤ 4096
        left_few =
            let t = sorted (rows_read text) in
            let n : length t ≡ rows = sorted_length (rows_read text) ∙ all in
            let f : rows ≤ 4096 = few in
            let h : length (kept t) ≤ length t = kept_fewer t in
            let l : left ≡ length (kept t) = left_is in
            omega arith

        left_some : left ≡ 0 → ⊥
        left_some z =
            let t = sorted (rows_read text) in
            let n : length t ≡ rows = sorted_length (rows_read text) ∙ all in
            let some : 0 < rows = facts.1.1.0 in
            let h : 0 < length (kept t) = stays_nonempty t (omega arith) in
            let l : left ≡ length (kept t) = left_is in
            omega arith

        pub read_filled : (last : Answer) (d2 b2 : List ℕ) (s2 : List Float) → last ≡ cleaned_to left
            → Cleaned (sorted (table rows d1 b1 s1)) d1 b1 s1 d2 b2 s2
            → ◌≡◌ {A = Outcome} (record { answer = last; depths = d2; batches = b2; seconds = s2 }) (table_read text d b s)
        unfolding table_read
        read_filled last d2 b2 s2 h c =
            let t = sorted (rows_read text) in
            let n : length t ≡ length (rows_read text) = sorted_length (rows_read text) in
            let u = ap sorted back in
            let D : d2 ≡ kept_over (λ r. r.depth) t d = c.depths ∙ ap (λ (x : List Row). kept_over (λ r. r.depth) x d1) u ∙ ap (λ (x : List ℕ). kept_over (λ r. r.depth) t x) w.depths ∙ ap (over (λ r. r.depth) (kept t)) (over_over (λ r. r.depth) t (rows_read text) d n) in
            let B : b2 ≡ kept_over (λ r. r.batch) t b = c.batches ∙ ap (λ (x : List Row). kept_over (λ r. r.batch) x b1) u ∙ ap (λ (x : List ℕ). kept_over (λ r. r.batch) t x) w.batches ∙ ap (over (λ r. r.batch) (kept t)) (over_over (λ r. r.batch) t (rows_read text) b n) in
            let S : s2 ≡ kept_over (λ r. r.seconds) t s = c.seconds ∙ ap (λ (x : List Row). kept_over (λ r. r.seconds) x s1) u ∙ ap (λ (x : List Float). kept_over (λ r. r.seconds) t x) w.seconds ∙ ap (over (λ r. r.seconds) (kept t)) (over_over (λ r. r.seconds) t (rows_read text) s n) in
            let A : last ≡ Ok left = h ∙ some_left left left_some in
            ap {B = Outcome} (λ (x : Answer). record { answer = x; depths = d2; batches = b2; seconds = s2 }) A
            ∙ ap {B = Outcome} (λ (x : List ℕ). record { answer = Ok left; depths = x; batches = b2; seconds = s2 }) D
            ∙ ap {B = Outcome} (λ (x : List ℕ). record { answer = Ok left; depths = kept_over (λ r. r.depth) t d; batches = x; seconds = s2 }) B
            ∙ ap {B = Outcome} (λ (x : List Float). record { answer = Ok left; depths = kept_over (λ r. r.depth) t d; batches = kept_over (λ r. r.batch) t b; seconds = x }) S
            ∙ ap (λ (x : Answer). leaves x t d b s) (sym A ∙ h ∙ ap cleaned_to left_is)
            ∙ ap (λ (x : Answer). leaves (answered x t) t d b s) (sym r ∙ judged_is)
