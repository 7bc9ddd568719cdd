-- Survivals counted by what is wrong with each: a survival is one that is not below zero and at most one, and none is wrong where the count is zero. Assumes nothing.
use mathlib.Core.Path.{◌≡◌, refl, sym, ap, ◌∙◌}
use mathlib.Core.Logic.{⊎_elim}
use mathlib.Core.Bool.{Bool, true, false, not, cond, ◌&&◌, ◌||◌}
use mathlib.Core.List.{List}
use Prim.Native.Nat.{ℕ, ◌+◌, ◌*◌, ◌≤◌, ◌<◌}
use native.Mathlib.Nat.{eq-or-lt_of_le}
use native.Mathlib.Omega.{arith}
use borrow.Author.Tests.{lt-ltb, le-ltb, eq-eqb, ne_eqb, ltb-true, ltb-false}
use lib.Dec.{ltb, eqb}
use lib.ListN.{length, get_or, drop}
use lib.Ieee.{Float, nan, inf, fin, up, down, lt, le, eq, is_nan, of_bits}
use lib.Ieee.Fits.{down_pos}
use Rattle.laws.proofs.Both.{and_false, and_true}
use Rattle.float.specs.Floats.{f0, f1}
use Rattle.float.specs.Range.{in_signed_range}
use Rattle.chains.specs.Tests.{all_of, is_survival}
use Rattle.chains.proofs.Tested.{all_next, all_end}

-- ---- at most one: no NaN, and one is not below it
pub at_most : (a b : ℕ) → (ltb a b || (eqb a b && true)) ≡ not (ltb b a)
at_most a b = go (ltb b a) refl
  where
    go : (z : Bool) → ltb b a ≡ z → (ltb a b || (eqb a b && true)) ≡ not z
    go true h =
        let k : b < a = ltb-true b a h in
        rw (le-ltb a b (omega arith), ne_eqb a b (λ e. let w : ⊥ = omega arith in w))
    go false h =
        ⊎_elim (λ (e : a ≡ b). rw (le-ltb a b (omega arith), eq-eqb a b e)) (λ (k : a < b). rw (lt-ltb a b k)) (eq-or-lt_of_le (ltb-false b a h))

to_one : (x : Float) → le x f1 ≡ (not (is_nan x) && not (lt f1 x))
unfolding le lt eq is_nan of_bits
to_one nan = refl
to_one (inf true) = refl
to_one (inf false) = refl
to_one (fin true m e) = let k : 0 < m * up e * 1 + 1 * 1 * down e = omega (arith, down_pos e) in rw (lt-ltb 0 (m * up e * 1 + 1 * 1 * down e) k)
to_one (fin false m e) = at_most (m * up e * 1) (1 * 1 * down e)

survival_is : (x : Float) → is_survival x ≡ (not (lt x f0) && le x f1)
unfolding in_signed_range
survival_is x = go (is_nan x) (lt x f0) (lt f1 x) ∙ ap (λ (b : Bool). not (lt x f0) && b) (sym (to_one x))
  where
    go : (n p r : Bool) → (not n && (not p && not r)) ≡ (not p && (not n && not r))
    go true true r = refl
    go true false r = refl
    go false true r = refl
    go false false r = refl

-- ---- one more
counted : (p q : Bool) (k : ℕ) (R : Bool) → (eqb k 0 && ((not p && q) && R)) ≡ (eqb (k + cond p 1 0 + cond q 0 1) 0 && R)
counted true true k R = rw (ne_eqb (k + 1 + 0) 0 (λ e. let w : ⊥ = omega arith in w)) (and_false (eqb k 0))
counted true false k R = rw (ne_eqb (k + 1 + 1) 0 (λ e. let w : ⊥ = omega arith in w)) (and_false (eqb k 0))
counted false true k R = let e : k ≡ k + 0 + 0 = omega arith in ap (λ (n : ℕ). eqb n 0 && R) e
counted false false k R = rw (ne_eqb (k + 0 + 1) 0 (λ e. let w : ⊥ = omega arith in w)) (and_false (eqb k 0))

module _ (values : List Float) (d faults : ℕ) (inv : all_of is_survival values ≡ (eqb faults 0 && all_of is_survival (drop d values))) where
  pub faults_next : (a b : ℕ) → d < length values → a ≡ cond (lt (get_or values d nan) f0) 1 0 → b ≡ cond (le (get_or values d nan) f1) 0 1
      → all_of is_survival values ≡ (eqb (faults + (a + b)) 0 && all_of is_survival (drop (d + 1) values))
  faults_next a b h u v =
      let x = get_or values d nan in
      let R = all_of is_survival (drop (d + 1) values) in
      let sum : faults + a + b ≡ faults + (a + b) = omega arith in
      inv ∙ ap (λ (z : Bool). eqb faults 0 && z) (all_next is_survival nan (is_survival x) values d h refl)
      ∙ ap (λ (z : Bool). eqb faults 0 && (z && R)) (survival_is x) ∙ counted (lt x f0) (le x f1) faults R
      ∙ ap (λ (n : ℕ). eqb (faults + n + cond (le x f1) 0 1) 0 && R) (sym u) ∙ ap (λ (n : ℕ). eqb (faults + a + n) 0 && R) (sym v)
      ∙ ap (λ (n : ℕ). eqb n 0 && R) sum

  pub faults_end : length values ≤ d → eqb faults 0 ≡ all_of is_survival values
  faults_end h = sym (and_true (eqb faults 0)) ∙ ap (λ (z : Bool). eqb faults 0 && z) (sym (all_end is_survival nan values d h)) ∙ sym inv
