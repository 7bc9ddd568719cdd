-- The nearest measured depths: where they lie, one turn of each loop that looks for them, and what the loops leave. Assumes nothing.
use Prim.Native.Nat.{ℕ, zero, suc, ◌+◌, ◌-◌, ◌≤◌, ◌<◌, min}
use mathlib.Core.Path.{◌≡◌, refl, sym, ap, ◌∙◌}
use mathlib.Core.Bool.{Bool, true, false, cond}
use mathlib.Core.List.{List}
use native.Mathlib.Decide.{ℕ_discrete, dec_lt}
use native.Mathlib.Omega.{arith}
use lib.ListN.{length, get_or, set}
use lib.Seq.{get_or-set_same, get_or-set_other}
use lib.Ieee.{Float}
use Rattle.verify_prices.specs.Bridge.{is_measured, lower, upper_of, upper}

-- ---- where they lie
either_le : (b : Bool) (x y m : ℕ) → x ≤ m → y ≤ m → cond b x y ≤ m
either_le true x y m p q = p
either_le false x y m p q = q

either_ge : (b : Bool) (x y m : ℕ) → m ≤ x → m ≤ y → m ≤ cond b x y
either_ge true x y m p q = p
either_ge false x y m p q = q

same : (b : Bool) (x : ℕ) → cond b x x ≡ x
same true x = refl
same false x = refl

module _ (curve : List Float) where
  pub lower_le : (g : ℕ) → lower curve g ≤ g
  unfolding lower
  lower_le zero = omega arith
  lower_le (suc g) = either_le (is_measured curve (suc g)) (suc g) (lower curve g) (suc g) (omega arith) (omega (arith, lower_le g))

  of_ge : (k g : ℕ) → g ≤ upper_of curve k g
  unfolding upper_of
  of_ge zero g = omega arith
  of_ge (suc k) g = either_ge (is_measured curve g) g (upper_of curve k (suc g)) g (omega arith) (omega (arith, of_ge k (suc g)))

  of_le : (k g : ℕ) → upper_of curve k g ≤ g + k
  unfolding upper_of
  of_le zero g = omega arith
  of_le (suc k) g = either_le (is_measured curve g) g (upper_of curve k (suc g)) (g + suc k) (omega arith) (omega (arith, of_le k (suc g)))

  pub upper_ge : (g : ℕ) → g ≤ upper curve g
  upper_ge g = of_ge (length curve - 1 - g) g

  pub upper_le : (g : ℕ) → g < length curve → upper curve g ≤ length curve - 1
  upper_le g h = omega (arith, of_le (length curve - 1 - g) g)

  -- ---- at a measured depth
  pub lower_here : (g : ℕ) → is_measured curve g ≡ true → lower curve g ≡ g
  unfolding lower
  lower_here zero h = refl
  lower_here (suc g) h = rw h

  of_here : (k g : ℕ) → is_measured curve g ≡ true → upper_of curve k g ≡ g
  unfolding upper_of
  of_here zero g h = refl
  of_here (suc k) g h = rw h

  pub upper_here : (g : ℕ) → is_measured curve g ≡ true → upper curve g ≡ g
  upper_here g h = of_here (length curve - 1 - g) g h

  -- ---- one depth more
  pub lower_start : 0 ≡ lower curve (0 - 1)
  unfolding lower
  lower_start = refl

  pub lower_next : (g held next : ℕ) → held ≡ lower curve (g - 1) → next ≡ cond (is_measured curve g) g held → next ≡ lower curve g
  unfolding lower
  lower_next zero held next h e = e ∙ ap (λ (x : ℕ). cond (is_measured curve 0) 0 x) (h ∙ sym lower_start) ∙ same (is_measured curve 0) 0
  lower_next (suc g) held next h e =
      let p : suc g - 1 ≡ g = omega arith in
      e ∙ ap (λ (x : ℕ). cond (is_measured curve (suc g)) (suc g) x) (h ∙ ap (lower curve) p)

  last_upper : (g : ℕ) → length curve ≤ g + 1 → upper curve g ≡ g
  unfolding upper_of
  last_upper g h = let z : length curve - 1 - g ≡ 0 = omega arith in rw z

  pub upper_start : 0 < length curve → length curve - 1 ≡ upper curve (min (length curve) (length curve - 1))
  upper_start h =
      let m : min (length curve) (length curve - 1) ≡ length curve - 1 = omega arith in
      sym (ap (upper curve) m ∙ last_upper (length curve - 1) (omega arith))

  pub upper_next :
      (g held next : ℕ) → g < length curve → held ≡ upper curve (min (g + 1) (length curve - 1)) → next ≡ cond (is_measured curve g) g held
      → next ≡ upper curve g
  unfolding upper_of
  upper_next g held next l h e = pick (dec_lt (g + 1) (length curve))
    where
      pick : Dec (g + 1 < length curve) → next ≡ upper curve g
      pick (yes k) =
          let m : min (g + 1) (length curve - 1) ≡ suc g = omega arith in
          let p : length curve - 1 - g ≡ suc (length curve - 1 - suc g) = omega arith in
          rw p (e ∙ ap (λ (x : ℕ). cond (is_measured curve g) g x) (h ∙ ap (upper curve) m))
      pick (no k) =
          let m : min (g + 1) (length curve - 1) ≡ g = omega arith in
          e ∙ ap (λ (x : ℕ). cond (is_measured curve g) g x) (h ∙ ap (upper curve) m ∙ last_upper g (omega arith)) ∙ same (is_measured curve g) g
          ∙ sym (last_upper g (omega arith))

-- ---- a list filled from the front, and one filled from the back, behind `base`
pub filled_up :
    (f : ℕ → ℕ) (S : List ℕ) (g v : ℕ) → g < length S → v ≡ f g → ((k : ℕ) → k < g → get_or S k 0 ≡ f k)
    → (k : ℕ) → k < g + 1 → get_or (set S g v) k 0 ≡ f k
filled_up f S g v room e at k l = pick (ℕ_discrete k g)
  where
    pick : Dec (k ≡ g) → get_or (set S g v) k 0 ≡ f k
    pick (yes p) = rw p (get_or-set_same S g v 0 room ∙ e)
    pick (no p) = get_or-set_other S g k v 0 p ∙ at k (omega arith)

pub filled_down :
    (base : ℕ) (f : ℕ → ℕ) (S : List ℕ) (n g v : ℕ) → base + g < length S → v ≡ f g
    → ((k : ℕ) → g + 1 ≤ k → k < n → get_or S (base + k) 0 ≡ f k)
    → (k : ℕ) → g ≤ k → k < n → get_or (set S (base + g) v) (base + k) 0 ≡ f k
filled_down base f S n g v room e at k m l = pick (ℕ_discrete k g)
  where
    pick : Dec (k ≡ g) → get_or (set S (base + g) v) (base + k) 0 ≡ f k
    pick (yes p) = rw p (get_or-set_same S (base + g) v 0 room ∙ e)
    pick (no p) = get_or-set_other S (base + g) (base + k) v 0 (λ (q : base + k ≡ base + g). p (omega arith)) ∙ at k (omega arith) l

-- what lies before `base` stays
pub before_kept :
    (base : ℕ) (S₀ S : List ℕ) (g v : ℕ) → ((k : ℕ) → k < base → get_or S k 0 ≡ get_or S₀ k 0)
    → (k : ℕ) → k < base → get_or (set S (base + g) v) k 0 ≡ get_or S₀ k 0
before_kept base S₀ S g v at k l = get_or-set_other S (base + g) k v 0 (λ (q : k ≡ base + g). absurd (let w : ⊥ = omega arith in w)) ∙ at k l
