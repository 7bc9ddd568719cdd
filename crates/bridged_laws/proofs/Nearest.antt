-- The nearest measured depths to a width: those that the fractional lookup finds among a table's rows are those that the bridged price finds on a curve, as
-- far as the curve goes. Assumes nothing.
use mathlib.Core.Path.{◌≡◌, refl, sym, ap, ◌∙◌, subst}
use mathlib.Core.Logic.{◌⊎◌, inl, inr, ⊎_elim}
use mathlib.Core.Bool.{Bool, true, false, ◌||◌, cond}
use mathlib.Core.List.{List, [], ◌∷◌}
use Prim.Native.Nat.{ℕ, zero, suc, ◌+◌, ◌-◌, ◌≤◌, ◌<◌, min, max}
use native.Mathlib.Decide.{ℕ_discrete}
use native.Mathlib.Omega.{arith}
use borrow.Author.Tests.{leb-true, leb-false, eqb-true, eq-eqb}
use lib.Dec.{leb, eqb}
use lib.ListN.{length}
use lib.Ieee.{Float, le}
use Rattle.float.specs.Floats.{whole}
use Rattle.float.proofs.Classes.{clash}
use Rattle.cost_rows.specs.Table.{Row}
use Rattle.batch_ranges.specs.Range.{measures}
use Rattle.std.specs.Prelude.{Option, Some, None}
use Rattle.step_times.specs.Between.{deeper, deepest, shallower, shallowest, depths_of}
use Rattle.verify_prices.specs.Bridge.{is_measured, lower, upper_of, upper}
use Rattle.verify_prices.proofs.Spans.{lower_le, upper_ge, upper_le}

-- ---- among the numbers that pass a test: the largest up to s, and the smallest from r on
abbrev pub Low : (ℕ → Bool) → ℕ → Option ℕ → Type 0
Low q s None = (k : ℕ) → q k ≡ true → k ≤ s → ⊥
Low q s (Some m) = (q m ≡ true) × (m ≤ s) × ((k : ℕ) → q k ≡ true → k ≤ s → k ≤ m)

abbrev pub High : (ℕ → Bool) → ℕ → Option ℕ → Type 0
High q r None = (k : ℕ) → q k ≡ true → r ≤ k → ⊥
High q r (Some m) = (q m ≡ true) × (r ≤ m) × ((k : ℕ) → q k ≡ true → r ≤ k → m ≤ k)

module _ (q p : ℕ → Bool) (same : (k : ℕ) → q k ≡ p k) where
  same_low : (s : ℕ) (d : Option ℕ) → Low q s d → Low p s d
  same_low s None h = λ k e l. h k (same k ∙ e) l
  same_low s (Some m) h = (sym (same m) ∙ h.0, h.1, λ k e l. h.2 k (same k ∙ e) l)

  same_high : (r : ℕ) (d : Option ℕ) → High q r d → High p r d
  same_high r None h = λ k e l. h k (same k ∙ e) l
  same_high r (Some m) h = (sym (same m) ∙ h.0, h.1, λ k e l. h.2 k (same k ∙ e) l)

or_either : (a b : Bool) → (a || b) ≡ true → (a ≡ true) ⊎ (b ≡ true)
or_either true b h = inl refl
or_either false b h = inr h

or_first : (a b : Bool) → a ≡ true → (a || b) ≡ true
or_first true b h = refl
or_first false b h = clash h

or_second : (a b : Bool) → b ≡ true → (a || b) ≡ true
or_second true b h = refl
or_second false b h = h

or_none : (a : Bool) → a ≡ (a || false)
or_none true = refl
or_none false = refl

or_grouped : (a b c : Bool) → ((a || b) || c) ≡ (a || (b || c))
or_grouped true b c = refl
or_grouped false b c = refl

-- the numbers that passed before, and n
abbrev With : (ℕ → Bool) → ℕ → ℕ → Bool
With q n k = q k || eqb n k

-- what holds of each that passed before, and of n, holds of each that passes now
of_each : (q : ℕ → Bool) (n : ℕ) (P : ℕ → Type 0) → ((k : ℕ) → q k ≡ true → P k) → P n → (k : ℕ) → With q n k ≡ true → P k
of_each q n P f h k e = ⊎_elim (λ (a : q k ≡ true). f k a) (λ (b : eqb n k ≡ true). subst P (eqb-true n k b) h) (or_either (q k) (eqb n k) e)

itself : (q : ℕ → Bool) (n : ℕ) → With q n n ≡ true
itself q n = or_second (q n) (eqb n n) (eq-eqb n n refl)

-- ---- one depth more
module _ (w : Float) (s : ℕ) (law : (k : ℕ) → le (whole k) w ≡ leb k s) (q : ℕ → Bool) (n : ℕ) where
  deeper_low : (best : Option ℕ) → Low q s best → Low (With q n) s (deeper w best n)
  unfolding deeper
  deeper_low None h = subst (λ (b : Bool). Low (With q n) s (cond b (Some n) None)) (sym (law n)) (go (leb n s) refl)
    where
      go : (b : Bool) → leb n s ≡ b → Low (With q n) s (cond b (Some n) None)
      go true e = (itself q n, leb-true n s e, of_each q n (λ k. k ≤ s → k ≤ n) (λ k a l. absurd (h k a l)) (λ l. omega arith))
      go false e = of_each q n (λ k. k ≤ s → ⊥) h (λ l. let f = leb-false n s e in omega arith)
  deeper_low (Some m) h = subst (λ (b : Bool). Low (With q n) s (cond b (Some (max m n)) (Some m))) (sym (law n)) (go (leb n s) refl)
    where
      either : (b : Bool) → leb m n ≡ b → With q n (max m n) ≡ true
      either true e = let l = leb-true m n e in let is : n ≡ max m n = omega arith in ap (With q n) (sym is) ∙ itself q n
      either false e = let l = leb-false m n e in let is : m ≡ max m n = omega arith in ap (With q n) (sym is) ∙ or_first (q m) (eqb n m) h.0

      go : (b : Bool) → leb n s ≡ b → Low (With q n) s (cond b (Some (max m n)) (Some m))
      go true e =
          let l = leb-true n s e in
          (either (leb m n) refl, omega (arith, h.1), of_each q n (λ k. k ≤ s → k ≤ max m n) (λ k a f. omega (arith, h.2 k a f)) (λ f. omega arith))
      go false e =
          (or_first (q m) (eqb n m) h.0, h.1, of_each q n (λ k. k ≤ s → k ≤ m) h.2 (λ f. let l = leb-false n s e in absurd (let z : ⊥ = omega arith in z)))

module _ (w : Float) (r : ℕ) (law : (k : ℕ) → le w (whole k) ≡ leb r k) (q : ℕ → Bool) (n : ℕ) where
  shallower_high : (best : Option ℕ) → High q r best → High (With q n) r (shallower w best n)
  unfolding shallower
  shallower_high None h = subst (λ (b : Bool). High (With q n) r (cond b (Some n) None)) (sym (law n)) (go (leb r n) refl)
    where
      go : (b : Bool) → leb r n ≡ b → High (With q n) r (cond b (Some n) None)
      go true e = (itself q n, leb-true r n e, of_each q n (λ k. r ≤ k → n ≤ k) (λ k a l. absurd (h k a l)) (λ l. omega arith))
      go false e = of_each q n (λ k. r ≤ k → ⊥) h (λ l. let f = leb-false r n e in omega arith)
  shallower_high (Some m) h = subst (λ (b : Bool). High (With q n) r (cond b (Some (min m n)) (Some m))) (sym (law n)) (go (leb r n) refl)
    where
      either : (b : Bool) → leb m n ≡ b → With q n (min m n) ≡ true
      either true e = let l = leb-true m n e in let is : m ≡ min m n = omega arith in ap (With q n) (sym is) ∙ or_first (q m) (eqb n m) h.0
      either false e = let l = leb-false m n e in let is : n ≡ min m n = omega arith in ap (With q n) (sym is) ∙ itself q n

      go : (b : Bool) → leb r n ≡ b → High (With q n) r (cond b (Some (min m n)) (Some m))
      go true e =
          let l = leb-true r n e in
          (either (leb m n) refl, omega (arith, h.1), of_each q n (λ k. r ≤ k → min m n ≤ k) (λ k a f. omega (arith, h.2 k a f)) (λ f. omega arith))
      go false e =
          (or_first (q m) (eqb n m) h.0, h.1, of_each q n (λ k. r ≤ k → m ≤ k) h.2 (λ f. let l = leb-false r n e in absurd (let z : ⊥ = omega arith in z)))

-- ---- all rows
module _ (w : Float) (s : ℕ) (law : (k : ℕ) → le (whole k) w ≡ leb k s) where
  deepest_from : (t : List Row) (q : ℕ → Bool) (best : Option ℕ) → Low q s best → Low (λ k. q k || measures k t) s (deepest w best (depths_of t))
  unfolding deepest measures
  deepest_from [] q best h = same_low q (λ k. q k || false) (λ k. or_none (q k)) s best h
  deepest_from (x ∷ t) q best h =
      same_low (λ k. With q x.depth k || measures k t) (λ k. q k || (eqb x.depth k || measures k t)) (λ k. or_grouped (q k) (eqb x.depth k) (measures k t)) s (deepest w (deeper w best x.depth) (depths_of t))
      (deepest_from t (With q x.depth) (deeper w best x.depth) (deeper_low w s law q x.depth best h))

  -- the deepest measured depth at or below the width
  pub deepest_low : (t : List Row) → Low (λ k. measures k t) s (deepest w None (depths_of t))
  deepest_low t = deepest_from t (λ k. false) None (λ k e l. clash e)

module _ (w : Float) (r : ℕ) (law : (k : ℕ) → le w (whole k) ≡ leb r k) where
  shallowest_from : (t : List Row) (q : ℕ → Bool) (best : Option ℕ) → High q r best → High (λ k. q k || measures k t) r (shallowest w best (depths_of t))
  unfolding shallowest measures
  shallowest_from [] q best h = same_high q (λ k. q k || false) (λ k. or_none (q k)) r best h
  shallowest_from (x ∷ t) q best h =
      same_high (λ k. With q x.depth k || measures k t) (λ k. q k || (eqb x.depth k || measures k t)) (λ k. or_grouped (q k) (eqb x.depth k) (measures k t)) r (shallowest w (shallower w best x.depth) (depths_of t))
      (shallowest_from t (With q x.depth) (shallower w best x.depth) (shallower_high w r law q x.depth best h))

  -- the shallowest measured depth at or above the width
  pub shallowest_high : (t : List Row) → High (λ k. measures k t) r (shallowest w None (depths_of t))
  shallowest_high t = shallowest_from t (λ k. false) None (λ k e l. clash e)

-- ---- on a curve
module _ (curve : List Float) where
  lower_by : (s m : ℕ) → m ≤ s → is_measured curve m ≡ true → ((g : ℕ) → m < g → g ≤ s → is_measured curve g ≡ false) → lower curve s ≡ m
  unfolding lower
  lower_by zero m l h none = omega arith
  lower_by (suc s) m l h none = pick (ℕ_discrete m (suc s)) (λ k. lower_by s m k h (λ g a b. none g a (omega arith)))
    where
      pick : Dec (m ≡ suc s) → (m ≤ s → lower curve s ≡ m) → cond (is_measured curve (suc s)) (suc s) (lower curve s) ≡ m
      pick (yes e) later = ap (λ (b : Bool). cond b (suc s) (lower curve s)) (ap (is_measured curve) (sym e) ∙ h) ∙ sym e
      pick (no e) later = ap (λ (b : Bool). cond b (suc s) (lower curve s)) (none (suc s) (omega arith) (omega arith)) ∙ later (omega arith)

  upper_by : (n g m : ℕ) → g ≤ m → m ≤ g + n → is_measured curve m ≡ true → ((k : ℕ) → g ≤ k → k < m → is_measured curve k ≡ false) → upper_of curve n g ≡ m
  unfolding upper_of
  upper_by zero g m l u h none = omega arith
  upper_by (suc n) g m l u h none = pick (ℕ_discrete m g) (λ k. upper_by n (suc g) m k (omega arith) h (λ i a b. none i (omega arith) b))
    where
      pick : Dec (m ≡ g) → (suc g ≤ m → upper_of curve n (suc g) ≡ m) → cond (is_measured curve g) g (upper_of curve n (suc g)) ≡ m
      pick (yes e) later = ap (λ (b : Bool). cond b g (upper_of curve n (suc g))) (ap (is_measured curve) (sym e) ∙ h) ∙ sym e
      pick (no e) later = ap (λ (b : Bool). cond b g (upper_of curve n (suc g))) (none g (omega arith) (omega arith)) ∙ later (omega arith)

  -- the curve's measured depths, up to its last, are those that pass a test
  module _ (q : ℕ → Bool) (some : 0 < length curve) (same : (g : ℕ) → g ≤ length curve - 1 → is_measured curve g ≡ q g) where
    not_so : (b : Bool) → (b ≡ true → ⊥) → b ≡ false
    not_so true f = absurd (f refl)
    not_so false f = refl

    pub lower_at : (s m : ℕ) → s ≤ length curve - 1 → Low q s (Some m) → lower curve s ≡ m
    lower_at s m l h =
        lower_by s m h.1 (same m (omega (arith, h.1)) ∙ h.0)
        (λ g a b. same g (omega arith) ∙ not_so (q g) (λ e. omega (arith, h.2 g e b)))

    pub lower_none : (s : ℕ) → s ≤ length curve - 1 → Low q s None → is_measured curve (lower curve s) ≡ false
    lower_none s l h = same (lower curve s) (omega (arith, lower_le curve s)) ∙ not_so (q (lower curve s)) (λ e. h (lower curve s) e (lower_le curve s))

    pub upper_at : (r m : ℕ) → m ≤ length curve - 1 → High q r (Some m) → upper curve r ≡ m
    upper_at r m l h =
        upper_by (length curve - 1 - r) r m h.1 (omega (arith, h.1)) (same m l ∙ h.0)
        (λ k a b. same k (omega arith) ∙ not_so (q k) (λ e. omega (arith, h.2 k e a)))

    -- no measured depth from r to the curve's end
    pub upper_none : (r : ℕ) → r ≤ length curve - 1 → ((k : ℕ) → q k ≡ true → r ≤ k → k ≤ length curve - 1 → ⊥) → is_measured curve (upper curve r) ≡ false
    upper_none r l h =
        let most = upper_le curve r (omega arith) in
        same (upper curve r) most ∙ not_so (q (upper curve r)) (λ e. h (upper curve r) e (upper_ge curve r) most)
