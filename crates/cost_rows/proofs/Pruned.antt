-- Which rows are kept: all but those above 1.3 times the next one of their depth, and so the last of each depth. Assumes nothing.
use mathlib.Core.Path.{◌≡◌, refl, sym, ap, subst, ◌∙◌}
use mathlib.Core.Bool.{Bool, true, false}
use mathlib.Core.List.{List, [], ◌∷◌}
use mathlib.Core.Option.{Option, none, some}
use Prim.Native.Nat.{ℕ, ◌<◌}
use native.Mathlib.Omega.{arith}
use borrow.Author.Tests.{eqb-true, eqb-false, eq-eqb, ne_eqb}
use lib.Dec.{T, eqb}
use lib.ListN.{length}
use lib.Ieee.{Float, binary64, lt, mul}
use Rattle.cost_rows.specs.Table.{Row, of_depth}
use Rattle.cost_rows.specs.Prune.{limit, above, dropped, kept, last_from, last_of}
use Rattle.cost_rows.proofs.Keeping.{kept_not, kept_too}

-- ---- the rule, row by row

-- the rows k are those of t without the ones that are above the row behind them, each judged by the rows of t
pub data Pruned : List Row → List Row → Type 0 where
  ends : Pruned [] []
  drops : (r : Row) (t k : List Row) → dropped r t ≡ true → Pruned t k → Pruned (r ∷ t) k
  keeps : (r : Row) (t k : List Row) → dropped r t ≡ false → Pruned t k → Pruned (r ∷ t) (r ∷ k)

by_rule : (r : Row) (t : List Row) (v : Bool) → dropped r t ≡ v → Pruned t (kept t) → Pruned (r ∷ t) (kept (r ∷ t))
by_rule r t true e p = rw (kept_not r t e) (drops r t (kept t) e p)
by_rule r t false e p = rw (kept_too r t e) (keeps r t (kept t) e p)

pub kept_pruned : (t : List Row) → Pruned t (kept t)
unfolding kept
kept_pruned [] = ends
kept_pruned (r ∷ t) = by_rule r t (dropped r t) refl (kept_pruned t)

-- and no other rows are
pub pruned_kept : (t k : List Row) → Pruned t k → k ≡ kept t
unfolding kept
pruned_kept a b ends = refl
pruned_kept a b (drops r t k e p) = pruned_kept t k p ∙ sym (kept_not r t e)
pruned_kept a b (keeps r t k e p) = ap (λ (l : List Row). r ∷ l) (pruned_kept t k p) ∙ sym (kept_too r t e)

-- the last of all rows is not dropped, and another one is where it is of the next row's depth and above 1.3 times its seconds
pub last_stays : (r : Row) → dropped r [] ≡ false
unfolding dropped
last_stays r = refl

pub dropped_where : (r s : Row) (t : List Row) → r.depth ≡ s.depth → dropped r (s ∷ t) ≡ lt (mul binary64 limit s.seconds) r.seconds
unfolding dropped above
dropped_where r s t e = rw (eq-eqb r.depth s.depth e)

pub dropped_nowhere : (r s : Row) (t : List Row) → (r.depth ≡ s.depth → ⊥) → dropped r (s ∷ t) ≡ false
unfolding dropped above
dropped_nowhere r s t n = rw (ne_eqb r.depth s.depth n)

-- ---- the last row of each depth is never dropped

-- a dropped row has one of its depth behind it
above_same : (g : ℕ) (x : Float) (h : ℕ) (y : Float) (v : Bool) → eqb g h ≡ v → above g x h y ≡ true → g ≡ h
unfolding above
above_same g x h y true e a = eqb-true g h e
above_same g x h y false e a = absurd (subst T (sym (rw e at a)) tt)

-- one row of the depth
last_row : (g : ℕ) (o : Option Row) (r : Row) (t : List Row) → r.depth ≡ g → last_from o (of_depth g (r ∷ t)) ≡ last_from (some r) (of_depth g t)
unfolding last_from of_depth
last_row g o r t e = rw (eq-eqb r.depth g e)

-- one of another
last_other : (g : ℕ) (o : Option Row) (r : Row) (t : List Row) → (r.depth ≡ g → ⊥) → last_from o (of_depth g (r ∷ t)) ≡ last_from o (of_depth g t)
unfolding last_from of_depth
last_other g o r t e = rw (ne_eqb r.depth g e)

-- a row in front of one of its depth is not the last
last_hidden : (g : ℕ) (o : Option Row) (r s : Row) (t : List Row) (v : Bool) → eqb s.depth g ≡ v → r.depth ≡ s.depth → last_from o (of_depth g (r ∷ s ∷ t)) ≡ last_from o (of_depth g (s ∷ t))
last_hidden g o r s t true e f = last_row g o r (s ∷ t) (f ∙ eqb-true s.depth g e) ∙ last_row g (some r) s t (eqb-true s.depth g e) ∙ sym (last_row g o s t (eqb-true s.depth g e))
last_hidden g o r s t false e f = last_other g o r (s ∷ t) (λ h. eqb-false s.depth g e (sym f ∙ h))

last_drop : (g : ℕ) (o : Option Row) (r : Row) (t : List Row) → dropped r t ≡ true → last_from o (of_depth g (r ∷ t)) ≡ last_from o (of_depth g t)
unfolding dropped
last_drop g o r [] e = absurd (subst T (sym e) tt)
last_drop g o r (s ∷ t) e = last_hidden g o r s t (eqb s.depth g) refl (above_same r.depth r.seconds s.depth s.seconds _ refl e)

last_keep : (g : ℕ) (o : Option Row) (r : Row) (t : List Row) (v : Bool) → eqb r.depth g ≡ v → ((p : Option Row) → last_from p (of_depth g (kept t)) ≡ last_from p (of_depth g t)) → last_from o (of_depth g (r ∷ kept t)) ≡ last_from o (of_depth g (r ∷ t))
last_keep g o r t true e ih = last_row g o r (kept t) (eqb-true r.depth g e) ∙ ih (some r) ∙ sym (last_row g o r t (eqb-true r.depth g e))
last_keep g o r t false e ih = last_other g o r (kept t) (eqb-false r.depth g e) ∙ ih o ∙ sym (last_other g o r t (eqb-false r.depth g e))

last_step : (g : ℕ) (o : Option Row) (r : Row) (t : List Row) (v : Bool) → dropped r t ≡ v → ((p : Option Row) → last_from p (of_depth g (kept t)) ≡ last_from p (of_depth g t)) → last_from o (of_depth g (kept (r ∷ t))) ≡ last_from o (of_depth g (r ∷ t))
last_step g o r t true e ih = ap (λ l. last_from o (of_depth g l)) (kept_not r t e) ∙ ih o ∙ sym (last_drop g o r t e)
last_step g o r t false e ih = ap (λ l. last_from o (of_depth g l)) (kept_too r t e) ∙ last_keep g o r t (eqb r.depth g) refl ih

last_all : (g : ℕ) (t : List Row) (o : Option Row) → last_from o (of_depth g (kept t)) ≡ last_from o (of_depth g t)
unfolding kept
last_all g [] o = refl
last_all g (r ∷ t) o = last_step g o r t (dropped r t) refl (last_all g t)

pub last_is_kept : (g : ℕ) (t : List Row) → last_of g (kept t) ≡ last_of g t
unfolding last_of
last_is_kept g t = last_all g t none

-- ---- so a table with rows keeps some

some_kept : (r : Row) (t : List Row) (v : Bool) → dropped r t ≡ v → (0 < length t → 0 < length (kept t)) → 0 < length (kept (r ∷ t))
unfolding dropped
some_kept r [] v e ih = rw (kept_too r [] refl) (omega arith)
some_kept r (s ∷ t) true e ih = rw (kept_not r (s ∷ t) e) (ih (omega arith))
some_kept r (s ∷ t) false e ih = rw (kept_too r (s ∷ t) e) (omega arith)

pub stays_nonempty : (t : List Row) → 0 < length t → 0 < length (kept t)
stays_nonempty [] h = absurd (omega arith)
stays_nonempty (r ∷ t) h = some_kept r t (dropped r t) refl (stays_nonempty t)
