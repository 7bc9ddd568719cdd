-- What is measured, and a turn of the loop over the rows: the range. Assumes nothing.
use mathlib.Core.Path.{◌≡◌, refl, ap}
use mathlib.Core.Bool.{◌||◌}
use mathlib.Core.List.{List, [], ◌∷◌}
use Prim.Native.Nat.{ℕ, zero, suc, ◌+◌, ◌≤◌, ◌<◌}
use native.Mathlib.Nat.{le_of_suc-le-suc, not-suc-le-zero}
use native.Mathlib.Numerals.{add-one}
use native.Mathlib.Omega.{arith}
use borrow.Author.Tests.{eq-eqb, ne_eqb}
use lib.Dec.{eqb}
use lib.ListN.{length, get_or, take, drop, drop_of_length-le}
use lib.Ieee.{Float, nan}
use Rattle.std.specs.Prelude.{Option}
use Rattle.std.specs.List.{list_any}
use Rattle.batch_ranges.specs.declared.BatchRange.{BatchRange}
use Rattle.cost_rows.specs.Table.{zip, of_depth}
use Rattle.batch_ranges.specs.Range.{measures, widened, range_from}
use Rattle.cost_rows.proofs.Rows.{zip_next, zip_length}

-- a depth is measured where the first of the column have it
pub measured_any : (g n : ℕ) (d b : List ℕ) (s : List Float) → n ≤ length d → n ≤ length b → n ≤ length s → list_any (λ y. eqb y g) (take n d) ≡ measures g (zip n d b s)
unfolding measures zip
measured_any g zero d b s p q r = refl
measured_any g (suc n) [] b s p q r = absurd (not-suc-le-zero p)
measured_any g (suc n) (x ∷ d) [] s p q r = absurd (not-suc-le-zero q)
measured_any g (suc n) (x ∷ d) (y ∷ b) [] p q r = absurd (not-suc-le-zero r)
measured_any g (suc n) (x ∷ d) (y ∷ b) (z ∷ s) p q r = ap (λ v. eqb x g || v) (measured_any g n d b s (le_of_suc-le-suc p) (le_of_suc-le-suc q) (le_of_suc-le-suc r))

module _ (n : ℕ) (d b : List ℕ) (s : List Float) (p : n ≤ length d) (q : n ≤ length b) (r : n ≤ length s) where
  module _ (i : ℕ) (h : i < n) where
    pub range_here : (g : ℕ) (range : Option BatchRange) → get_or d i 0 ≡ g → range_from range (of_depth g (drop i (zip n d b s))) ≡ range_from (widened range (get_or b i 0)) (of_depth g (drop (i + 1) (zip n d b s)))
    unfolding of_depth range_from
    range_here g range e = rw (add-one, zip_next n d b s nan i p q r h, eq-eqb (get_or d i 0) g e)

    pub range_other : (g : ℕ) (range : Option BatchRange) → (get_or d i 0 ≡ g → ⊥) → range_from range (of_depth g (drop i (zip n d b s))) ≡ range_from range (of_depth g (drop (i + 1) (zip n d b s)))
    unfolding of_depth range_from
    range_other g range e = rw (add-one, zip_next n d b s nan i p q r h, ne_eqb (get_or d i 0) g e)

  module _ (i : ℕ) (h : n ≤ i) where
    none : drop i (zip n d b s) ≡ []
    none = drop_of_length-le (zip n d b s) {i = i} (omega (arith, zip_length n d b s p q r))

    pub range_end : (g : ℕ) (range : Option BatchRange) → range_from range (of_depth g (drop i (zip n d b s))) ≡ range
    unfolding of_depth range_from
    range_end g range = rw none
