-- Laws of the rows that are kept. Assumes nothing.
use mathlib.Core.Path.{◌≡◌, refl, sym, ap, ◌∙◌}
use mathlib.Core.Bool.{Bool, true, false, cond}
use mathlib.Core.List.{List, [], ◌∷◌}
use Prim.Native.Nat.{ℕ, suc, ◌+◌, ◌≤◌, ◌<◌}
use native.Mathlib.Numerals.{add-one}
use native.Mathlib.Omega.{arith}
use borrow.Author.Tests.{ltb-true, ltb-false}
use lib.Dec.{ltb}
use lib.ListN.{length, get_or, drop, set, drop_of_length-le}
use lib.Ieee.{Float, nan}
use Rattle.cost_rows.specs.Table.{Row, zip}
use Rattle.cost_rows.specs.Prune.{dropped, kept}
use Rattle.cost_rows.specs.Inner.{dropped_at}
use Rattle.cost_rows.proofs.Rows.{row_at, zip_next, zip_length}
use Rattle.cost_rows.proofs.Columns.{Done, up_get, row_done, head_rest}

pub kept_not : (r : Row) (t : List Row) → dropped r t ≡ true → kept (r ∷ t) ≡ kept t
unfolding kept
kept_not r t e = ap (λ (v : Bool). cond v (kept t) (r ∷ kept t)) e

pub kept_too : (r : Row) (t : List Row) → dropped r t ≡ false → kept (r ∷ t) ≡ r ∷ kept t
unfolding kept
kept_too r t e = ap (λ (v : Bool). cond v (kept t) (r ∷ kept t)) e

pub kept_none : (t : List Row) (i : ℕ) → length t ≤ i → kept (drop i t) ≡ []
unfolding kept
kept_none t i h = rw (drop_of_length-le t {i = i} h)

-- the test in the columns is that of the rows
at_row : (d b : List ℕ) (s : List Float) (n i : ℕ) → n ≤ length d → n ≤ length b → n ≤ length s → (v : Bool) → ltb (i + 1) n ≡ v → dropped_at d s n i ≡ dropped (row_at d b s nan i) (drop (suc i) (zip n d b s))
unfolding dropped_at dropped
at_row d b s n i p q r true e = rw (e, zip_next n d b s nan (suc i) p q r (omega (arith, ltb-true (i + 1) n e)), add-one)
at_row d b s n i p q r false e = rw (e, drop_of_length-le (zip n d b s) {i = suc i} (omega (arith, ltb-false (i + 1) n e, zip_length n d b s p q r)))

pub dropped_row : (d b : List ℕ) (s : List Float) (n i : ℕ) → n ≤ length d → n ≤ length b → n ≤ length s → dropped_at d s n i ≡ dropped (row_at d b s nan i) (drop (suc i) (zip n d b s))
dropped_row d b s n i p q r = at_row d b s n i p q r (ltb (i + 1) n) refl

module _ (K : List Row) (k : ℕ) (d₀ b₀ : List ℕ) (s₀ : List Float) (d b : List ℕ) (s : List Float) (done : Done K k d₀ b₀ s₀ d b s) (n i : ℕ) (p : n ≤ length d₀) (q : n ≤ length b₀) (r : n ≤ length s₀) (h : i < n) (ki : k ≤ i) where
  -- what is still to be read of the columns is as it was
  pub same_row : row_at d b s nan i ≡ row_at d₀ b₀ s₀ nan i
  same_row = rw (
    done.depths,
    done.batches,
    done.seconds,
    up_get (λ r. r.depth) K k d₀ i 0 done.within (omega arith) ki,
    up_get (λ r. r.batch) K k b₀ i 0 done.within (omega arith) ki,
    up_get (λ r. r.seconds) K k s₀ i nan done.within (omega arith) ki,
  )

  pub same_test : dropped_at d s n i ≡ dropped (row_at d₀ b₀ s₀ nan i) (drop (suc i) (zip n d₀ b₀ s₀))
  unfolding dropped_at
  same_test = rw (
    done.depths,
    done.seconds,
    up_get (λ r. r.depth) K k d₀ i 0 done.within (omega arith) ki,
    up_get (λ r. r.seconds) K k s₀ i nan done.within (omega arith) ki,
    up_get (λ r. r.depth) K k d₀ (i + 1) 0 done.within (omega arith) (omega arith),
    up_get (λ r. r.seconds) K k s₀ (i + 1) nan done.within (omega arith) (omega arith),
  )
      (dropped_row d₀ b₀ s₀ n i p q r)

  module _ (left : drop k K ≡ kept (drop i (zip n d₀ b₀ s₀))) where
    next_kept : dropped_at d s n i ≡ false → drop k K ≡ row_at d₀ b₀ s₀ nan i ∷ kept (drop (suc i) (zip n d₀ b₀ s₀))
    next_kept e = left ∙ ap kept (zip_next n d₀ b₀ s₀ nan i p q r h) ∙ kept_too (row_at d₀ b₀ s₀ nan i) (drop (suc i) (zip n d₀ b₀ s₀)) (sym same_test ∙ e)

    -- a turn at a row that is kept: it goes to place k
    pub keep_row : dropped_at d s n i ≡ false → Done K (k + 1) d₀ b₀ s₀ (set d k (get_or d i 0)) (set b k (get_or b i 0)) (set s k (get_or s i nan))
    keep_row e = rw (ap (λ r. r.depth) same_row, ap (λ r. r.batch) same_row, ap (λ r. r.seconds) same_row)
        (row_done K k d₀ b₀ s₀ d b s done (row_at d₀ b₀ s₀ nan i) (kept (drop (suc i) (zip n d₀ b₀ s₀))) (next_kept e) (omega arith) (omega arith) (omega arith))

    pub keep_left : dropped_at d s n i ≡ false → drop (k + 1) K ≡ kept (drop (i + 1) (zip n d₀ b₀ s₀))
    keep_left e = rw (add-one k, add-one i) (head_rest K k (row_at d₀ b₀ s₀ nan i) (kept (drop (suc i) (zip n d₀ b₀ s₀))) (next_kept e))

    -- and at a row that is dropped
    pub drop_left : dropped_at d s n i ≡ true → drop k K ≡ kept (drop (i + 1) (zip n d₀ b₀ s₀))
    drop_left e = rw (add-one i) (left ∙ ap kept (zip_next n d₀ b₀ s₀ nan i p q r h) ∙ kept_not (row_at d₀ b₀ s₀ nan i) (drop (suc i) (zip n d₀ b₀ s₀)) (sym same_test ∙ e))
