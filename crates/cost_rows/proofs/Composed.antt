-- What a later call reads of columns that rows were written over: these rows. So loading composes. Assumes nothing.
use mathlib.Core.Path.{◌≡◌, refl, sym, ap, ◌∙◌}
use mathlib.Core.Bool.{Bool, true, false}
use mathlib.Core.List.{List, [], ◌∷◌, ◌++◌, map}
use Prim.Native.Nat.{ℕ, suc, ◌+◌, ◌≤◌}
use native.Mathlib.Nat.{le_trans, le_of_eq}
use native.Mathlib.Omega.{arith}
use lib.ListN.{length, drop, length-append, length-drop, length-map}
use lib.Seq.{drop_at}
use lib.Ieee.{Float}
use Rattle.cost_rows.specs.Table.{Row, zip, counted, table, over, Written}
use Rattle.cost_rows.specs.Order.{sorted}
use Rattle.cost_rows.specs.Prune.{dropped, kept}
use Rattle.cost_rows.proofs.Rows.{zip_length}
use Rattle.cost_rows.proofs.Keeping.{kept_not, kept_too}
use Rattle.cost_rows.proofs.Sorting.{zip_front, zip_map, sorted_length}

pub over_length : {A : Type 0} (f : Row → A) (t : List Row) (c : List A) → length t ≤ length c → length (over f t c) ≡ length c
unfolding over
over_length f t c h =
    length-append (map f t) (drop (length t) c) ∙ (let g : length (map f t) + length (drop (length t) c) ≡ length c = omega (arith, length-map t f, length-drop (length t) c) in g)

within_depths : (n rows : ℕ) (d b : List ℕ) (s : List Float) → n ≡ counted rows d b s → n ≤ length d
within_depths n rows d b s e = omega arith

within_batches : (n rows : ℕ) (d b : List ℕ) (s : List Float) → n ≡ counted rows d b s → n ≤ length b
within_batches n rows d b s e = omega arith

within_seconds : (n rows : ℕ) (d b : List ℕ) (s : List Float) → n ≡ counted rows d b s → n ≤ length s
within_seconds n rows d b s e = omega arith

within_most : (n rows : ℕ) (d b : List ℕ) (s : List Float) → n ≡ counted rows d b s → n ≤ 4096
within_most n rows d b s e = omega arith

-- the rows there are in a table are as many as were counted
pub table_length : (rows : ℕ) (d b : List ℕ) (s : List Float) → length (table rows d b s) ≡ counted rows d b s
table_length rows d b s = zip_length (counted rows d b s) d b s (omega arith) (omega arith) (omega arith)

module _ (t : List Row) (d b : List ℕ) (s : List Float) (d' b' : List ℕ) (s' : List Float) (w : Written t d b s d' b' s') (p : length t ≤ length d) (q : length t ≤ length b) (r : length t ≤ length s) where
  same_depths : length d' ≡ length d
  same_depths = ap length w.depths ∙ over_length (λ r. r.depth) t d p

  same_batches : length b' ≡ length b
  same_batches = ap length w.batches ∙ over_length (λ r. r.batch) t b q

  same_seconds : length s' ≡ length s
  same_seconds = ap length w.seconds ∙ over_length (λ r. r.seconds) t s r

  pub rows_read : zip (length t) d' b' s' ≡ t
  unfolding over
  rows_read =
      rw (w.depths, w.batches, w.seconds)
      (zip_front (length t) (map (λ r. r.depth) t) (map (λ r. r.batch) t) (map (λ r. r.seconds) t) (drop (length t) d) (drop (length t) b) (drop (length t) s) (omega (arith, length-map t (λ r. r.depth))) (omega (arith, length-map t (λ r. r.batch))) (omega (arith, length-map t (λ r. r.seconds)))
      ∙ zip_map t)

  -- asked for at least as many rows as were written, where no more are counted
  pub read_back : (rows : ℕ) → counted rows d b s ≡ length t → table rows d' b' s' ≡ t
  read_back rows e =
      let f : counted rows d' b' s' ≡ length t = rw (same_depths, same_batches, same_seconds) e in
      ap (λ n. zip n d' b' s') f ∙ rows_read

  pub read_rows : length t ≤ 4096 → table (length t) d' b' s' ≡ t
  read_rows h = read_back (length t) (let g : counted (length t) d b s ≡ length t = omega arith in g)

kept_by : (r : Row) (t : List Row) (v : Bool) → dropped r t ≡ v → length (kept t) ≤ length t → length (kept (r ∷ t)) ≤ suc (length t)
kept_by r t true e h = rw (kept_not r t e) (omega arith)
kept_by r t false e h = rw (kept_too r t e) (omega arith)

pub kept_fewer : (t : List Row) → length (kept t) ≤ length t
unfolding kept
kept_fewer [] = omega arith
kept_fewer (r ∷ t) = kept_by r t (dropped r t) refl (kept_fewer t)

-- the columns once they were put in order hold the table sorted
pub arranged : (rows : ℕ) (d b : List ℕ) (s : List Float) (d1 b1 : List ℕ) (s1 : List Float)
    → Written (sorted (table rows d b s)) d b s d1 b1 s1 → table rows d1 b1 s1 ≡ sorted (table rows d b s)
arranged rows d b s d1 b1 s1 v =
    let t = sorted (table rows d b s) in
    let n : length t ≡ counted rows d b s = sorted_length (table rows d b s) ∙ table_length rows d b s in
    read_back t d b s d1 b1 s1 v (within_depths (length t) rows d b s n) (within_batches (length t) rows d b s n) (within_seconds (length t) rows d b s n) rows (sym n)

-- arranged, then sanitised: the columns, read with the count that was answered, hold the table sorted and sanitised
pub loaded : (rows : ℕ) (d b : List ℕ) (s : List Float) (d1 b1 : List ℕ) (s1 : List Float) (d2 b2 : List ℕ) (s2 : List Float)
    → Written (sorted (table rows d b s)) d b s d1 b1 s1
    → Written (kept (table rows d1 b1 s1)) d1 b1 s1 d2 b2 s2
    → table (length (kept (table rows d1 b1 s1))) d2 b2 s2 ≡ kept (sorted (table rows d b s))
loaded rows d b s d1 b1 s1 d2 b2 s2 v w =
    let k = kept (table rows d1 b1 s1) in
    let f : length k ≤ counted rows d1 b1 s1 = le_trans (kept_fewer (table rows d1 b1 s1)) (le_of_eq (table_length rows d1 b1 s1)) in
    read_rows k d1 b1 s1 d2 b2 s2 w (le_trans f (within_depths (counted rows d1 b1 s1) rows d1 b1 s1 refl)) (le_trans f (within_batches (counted rows d1 b1 s1) rows d1 b1 s1 refl)) (le_trans f (within_seconds (counted rows d1 b1 s1) rows d1 b1 s1 refl)) (le_trans f (within_most (counted rows d1 b1 s1) rows d1 b1 s1 refl))
    ∙ ap kept (arranged rows d b s d1 b1 s1 v)

-- other rows, as many, over rows: what the first ones were does not matter
pub over_over : {A : Type 0} (f : Row → A) (s t : List Row) (c : List A) → length s ≡ length t → over f s (over f t c) ≡ over f s c
unfolding over
over_over f s t c e = ap (λ l. map f s ++ l) (drop_at (map f t) (drop (length t) c) (length s) (length-map t f ∙ sym e) ∙ ap (λ n. drop n c) (sym e))
