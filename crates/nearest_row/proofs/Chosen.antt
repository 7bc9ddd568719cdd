-- Which row is the nearest: one that all earlier rows of its depth give way to, and no later one is to be taken before. Assumes nothing.
use mathlib.Core.Path.{◌≡◌, refl, sym, ap, subst, ◌∙◌}
use mathlib.Core.Bool.{Bool, true, false, cond}
use mathlib.Core.List.{List}
use Prim.Native.Nat.{ℕ, zero, suc, ◌+◌, ◌-◌, ◌≤◌, ◌<◌}
use native.Mathlib.Omega.{arith}
use borrow.Author.Tests.{eqb-true, eqb-false}
use lib.Dec.{T, eqb}
use lib.ListN.{length, get_or, drop}
use lib.Ieee.{Float, nan}
use Rattle.std.specs.Prelude.{Option, Some, None}
use Rattle.nearest_row.specs.declared.Nearest.{Nearest}
use Rattle.cost_rows.specs.Table.{zip, of_depth}
use Rattle.nearest_row.specs.Lookup.{nearer, measured, closer, closest, nearest}
use Rattle.cost_rows.proofs.Rows.{zip_length}
use Rattle.nearest_row.proofs.Near.{turn_here, turn_other, at_end}

abbrev is_none : Option Nearest → Bool
is_none None = true
is_none (Some near) = false

-- batch a is to be taken before what is held
abbrev GivesWay : ℕ → ℕ → Option Nearest → Type 0
GivesWay batch a best = (near : Nearest) → best ≡ Some near → nearer batch a near.batch ≡ true

held_is : {x y : Nearest} → Some x ≡ Some y → x.batch ≡ y.batch
held_is e = cc

closer_taken : (batch : ℕ) (best : Option Nearest) (a : ℕ) (x : Float) → GivesWay batch a best → closer batch best a x ≡ measured a x
unfolding closer
closer_taken batch None a x h = refl
closer_taken batch (Some near) a x h = rw (h near refl)

closer_kept : (batch b a : ℕ) (s x : Float) → nearer batch a b ≡ false → closer batch (measured b s) a x ≡ measured b s
unfolding closer
closer_kept batch b a s x e = rw e

closer_gives : (batch a : ℕ) (best : Option Nearest) (b : ℕ) (x : Float) → GivesWay batch a best → nearer batch a b ≡ true → GivesWay batch a (closer batch best b x)
unfolding closer
closer_gives batch a None b x h e near f = rw (← held_is f) e
closer_gives batch a (Some held) b x h e near f = go (nearer batch b held.batch) f
  where
    go : (v : Bool) → cond v (measured b x) (Some held) ≡ Some near → nearer batch a near.batch ≡ true
    go true f = rw (← held_is f) e
    go false f = rw (← held_is f) (h held refl)

module _ (n : ℕ) (d b : List ℕ) (s : List Float) (p : n ≤ length d) (q : n ≤ length b) (r : n ≤ length s) (batch g : ℕ) where
  abbrev from : Option Nearest → ℕ → Option Nearest
  from best k = closest batch best (of_depth g (drop k (zip n d b s)))

  module _ (i : ℕ) (h : i < n) (e : get_or d i 0 ≡ g) where
    abbrev it : Option Nearest
    it = measured (get_or b i 0) (get_or s i nan)

    -- up to row i
    front : ((j : ℕ) → j < i → get_or d j 0 ≡ g → nearer batch (get_or b i 0) (get_or b j 0) ≡ true) → (m k : ℕ) (best : Option Nearest) → k + m ≡ i → GivesWay batch (get_or b i 0) best → from best k ≡ from it (i + 1)
    front f zero k best l w =
        let same : k ≡ i = omega arith in
        rw same (turn_here n d b s nan p q r batch g i best h e ∙ ap (λ x. from x (i + 1)) (closer_taken batch best (get_or b i 0) (get_or s i nan) w))
    front f (suc m) k best l w = go (eqb (get_or d k 0) g) refl (front f m (k + 1))
      where
        go : (v : Bool) → eqb (get_or d k 0) g ≡ v → ((best : Option Nearest) → k + 1 + m ≡ i → GivesWay batch (get_or b i 0) best → from best (k + 1) ≡ from it (i + 1)) → from best k ≡ from it (i + 1)
        go true t ih = turn_here n d b s nan p q r batch g k best (omega arith) (eqb-true _ _ t) ∙ ih (closer batch best (get_or b k 0) (get_or s k nan)) (omega arith) (closer_gives batch (get_or b i 0) best (get_or b k 0) (get_or s k nan) w (f k (omega arith) (eqb-true _ _ t)))
        go false t ih = turn_other n d b s nan p q r batch g k best (omega arith) (eqb-false _ _ t) ∙ ih best (omega arith) w

    -- from row i on
    back : ((j : ℕ) → i < j → j < n → get_or d j 0 ≡ g → nearer batch (get_or b j 0) (get_or b i 0) ≡ false) → (m k : ℕ) → k + m ≡ n → i < k → from it k ≡ it
    back f zero k l w = at_end batch g it (zip n d b s) k (omega (arith, zip_length n d b s p q r))
    back f (suc m) k l w = go (eqb (get_or d k 0) g) refl (back f m (k + 1) (omega arith) (omega arith))
      where
        go : (v : Bool) → eqb (get_or d k 0) g ≡ v → from it (k + 1) ≡ it → from it k ≡ it
        go true t ih = turn_here n d b s nan p q r batch g k it (omega arith) (eqb-true _ _ t) ∙ ap (λ x. from x (k + 1)) (closer_kept batch (get_or b i 0) (get_or b k 0) (get_or s i nan) (get_or s k nan) (f k w (omega arith) (eqb-true _ _ t))) ∙ ih
        go false t ih = turn_other n d b s nan p q r batch g k it (omega arith) (eqb-false _ _ t) ∙ ih

    pub chosen : ((j : ℕ) → j < i → get_or d j 0 ≡ g → nearer batch (get_or b i 0) (get_or b j 0) ≡ true) → ((j : ℕ) → i < j → j < n → get_or d j 0 ≡ g → nearer batch (get_or b j 0) (get_or b i 0) ≡ false) → it ≡ nearest batch g (zip n d b s)
    unfolding nearest
    chosen f k = sym (front f i 0 None (omega arith) nothing_held ∙ back k (n - (i + 1)) (i + 1) (omega arith) (omega arith))
      where
        nothing_held : GivesWay batch (get_or b i 0) None
        nothing_held near f = absurd (subst T (ap is_none f) tt)

  -- no row of the depth
  none_from : ((j : ℕ) → j < n → get_or d j 0 ≡ g → ⊥) → (m k : ℕ) → k + m ≡ n → from None k ≡ None
  none_from f zero k l = at_end batch g None (zip n d b s) k (omega (arith, zip_length n d b s p q r))
  none_from f (suc m) k l = turn_other n d b s nan p q r batch g k None (omega arith) (f k (omega arith)) ∙ none_from f m (k + 1) (omega arith)

  pub none_chosen : ((j : ℕ) → j < n → get_or d j 0 ≡ g → ⊥) → None ≡ nearest batch g (zip n d b s)
  unfolding nearest
  none_chosen f = sym (none_from f n 0 (omega arith))
