-- Rows whose depths rise by little: a row that rises does not go before the one in front, and a turn of the loop over them. Assumes nothing.
use Rattle.std.proofs.Common.{◌≡◌, ℕ, ◌+◌, ◌-◌, ◌*◌, ◌<◌, ◌≤◌, Bool, true, false, cond, ◌&&◌, ◌||◌, eqb, ltb, List, length, get_or, drop, sym, refl, ap, ◌∙◌, arith, le-ltb, ne_eqb}
use lib.Bits.{bit_or, or_add_and, and_le_l, and_le_r}
use lib.Ieee.{Float}
use Rattle.cost_rows.specs.Table.{zip}
use Rattle.cost_rows.specs.Order.{before, ordered}
use Rattle.cost_lookup.proofs.Turns.{after, order_row, order_end, after_first}

-- a row that does not go before the one in front
not_before : (g a h b fallen r : ℕ) → fallen ≡ cond (ltb a b) 1 0 → g ≡ h + fallen + r → before g a h b ≡ false
unfolding before
not_before g a h b fallen r e k = go (ltb a b) refl
  where
    go : (v : Bool) → ltb a b ≡ v → (ltb g h || (eqb g h && v)) ≡ false
    go true w =
        let one : fallen ≡ 1 = e ∙ ap (λ z. cond z 1 0) w in
        rw (le-ltb g h (omega arith), ne_eqb g h (λ same. omega arith))
    go false w =
        rw (le-ltb g h (omega arith)) (none (eqb g h))
      where
        none : (v : Bool) → (v && false) ≡ false
        none true = refl
        none false = refl

pub none_ordered : (n : ℕ) (d b : List ℕ) (s : List Float) → n ≡ 0 → ordered (zip n d b s) ≡ true
unfolding ordered zip
none_ordered n d b s e = rw e

-- the rows so far rise by little, so that the depth in front is not high and the order is that of the rows left
abbrev pub Rising : ℕ → List ℕ → List ℕ → List Float → ℕ → ℕ → Type 0
Rising n d b s rises i = rises < 262144 → (get_or d (i - 1) 0 ≤ i * 262144) × (after (get_or d (i - 1) 0) (get_or b (i - 1) 0) (drop i (zip n d b s)) ≡ ordered (zip n d b s))

module _ (n : ℕ) (d b : List ℕ) (s : List Float) (p : n ≤ length d) (q : n ≤ length b) (r : n ≤ length s) where
  pub rising_first : Rising n d b s (get_or d 0 0) 1
  rising_first h = (omega arith, after_first n d b s p q r)

  pub rising_next : (rises i fallen step : ℕ) → n ≤ 4096 → i < n → Rising n d b s rises i
      → fallen ≡ cond (ltb (get_or b i 0) (get_or b (i - 1) 0)) 1 0 → fallen ≤ 1
      → (step < 262144 → get_or d (i - 1) 0 + 262144 < 4294967296 → get_or d i 0 ≡ get_or d (i - 1) 0 + fallen + step)
      → Rising n d b s (bit_or rises step) (i + 1)
  rising_next rises i fallen step m h inv e o f w =
      let low : rises < 262144 = omega (arith, or_add_and rises step, and_le_r rises step) in
      let small : step < 262144 = omega (arith, or_add_and rises step, and_le_l rises step) in
      let front = inv low in
      let bound : get_or d (i - 1) 0 + 262144 < 4294967296 = omega (arith, front.0) in
      let is = f small bound in
      let same : i + 1 - 1 ≡ i = omega arith in
      let good : before (get_or d i 0) (get_or b i 0) (get_or d (i - 1) 0) (get_or b (i - 1) 0) ≡ false = not_before _ _ _ _ fallen step e is in
      (rw same (omega (arith, front.0)), sym (rw good at (order_row n d b s p q r i h (get_or d (i - 1) 0) (get_or b (i - 1) 0))) ∙ front.1)

  pub rising_end : (rises i : ℕ) → n ≤ i → Rising n d b s rises i → rises < 262144 → ordered (zip n d b s) ≡ true
  rising_end rises i h inv w = sym (inv w).1 ∙ order_end n d b s p q r i h (get_or d (i - 1) 0) (get_or b (i - 1) 0)
