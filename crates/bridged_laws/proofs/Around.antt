-- Which whole depths lie at or below a width within 0..gamma, and which at or above it: its whole part and the depth next to it say so, for every whole
-- number, also for one that a float does not hold. Assumes nothing.
use mathlib.Core.Path.{◌≡◌, refl, sym, ap, ◌∙◌, subst}
use mathlib.Core.Bool.{Bool, true, false, not, cond}
use Prim.Native.Nat.{ℕ, ◌+◌, ◌-◌, ◌*◌, ◌/◌, ◌^◌, ◌≤◌, ◌<◌, min}
use native.Mathlib.Nat.{one-mul, add-mul, mul-le-mul_right, le_trans, div-mul-le_self, div-lt_iff_lt-mul, zero-div, lt_of_mul-lt-mul_right, lt_of_lt_of_le}
use native.Mathlib.Decide.{dec_lt}
use native.Mathlib.Omega.{arith}
use borrow.Author.Tests.{ltb-true, ltb-false, lt-ltb, le-ltb, le-leb, lt-leb}
use lib.Dec.{T, leb, ltb}
use lib.IntN.{ℤ}
use lib.Ieee.{Float, nan, inf, fin, binary64, up, down, lt, le, is_nan, fits, of_bits, to_unsigned}
use lib.Ieee.Fits.{down_pos}
use lib.Ieee.Exact.{HasValue}
use Rattle.float.specs.Floats.{less, whole, f0}
use Rattle.float.proofs.Classes.{clash}
use Rattle.float.proofs.Order.{nlt_trans}
use Rattle.verify_prices.specs.Bridge.{foot_of, ceiling_of}
use Rattle.verify_prices.proofs.Counted.{whole_value}
use Rattle.bridged_laws.proofs.Compared.{le_is, ltb_scaled, Unsigned, below_held, above_held, whole_number, large}
use Rattle.bridged_laws.proofs.Ways.{some_way, no_way}

-- ---- the whole part of a / c, and the whole number next above it where a / c is no whole number
module _ (a c : ℕ) (some : 0 < c) where
  foot_under : a / c * c ≤ a
  foot_under = div-mul-le_self a c

  past_foot : (k : ℕ) → ltb a (k * c) ≡ ltb (a / c) k
  past_foot k = go (ltb (a / c) k) refl
    where
      go : (b : Bool) → ltb (a / c) k ≡ b → ltb a (k * c) ≡ b
      go true h = lt-ltb a (k * c) ((div-lt_iff_lt-mul some).0 (ltb-true (a / c) k h))
      go false h = le-ltb a (k * c) (le_trans (mul-le-mul_right c (ltb-false (a / c) k h)) foot_under)

  -- a / c lies behind its whole part
  past_top : a / c * c < a → (k : ℕ) → ltb (k * c) a ≡ ltb k (a / c + 1)
  past_top l k = go (ltb k (a / c + 1)) refl
    where
      go : (b : Bool) → ltb k (a / c + 1) ≡ b → ltb (k * c) a ≡ b
      go true h = let low = ltb-true k (a / c + 1) h in lt-ltb (k * c) a (let le : k * c ≤ a / c * c = mul-le-mul_right c (let z : k ≤ a / c = omega arith in z) in omega arith)
      go false h = let z : a < k * c = (div-lt_iff_lt-mul some).0 (let w = ltb-false k (a / c + 1) h in let v : a / c < k = omega arith in v) in le-ltb (k * c) a (omega arith)

  -- a / c is its whole part
  past_whole : a / c * c ≡ a → (k : ℕ) → ltb (k * c) a ≡ ltb k (a / c)
  past_whole q k = ap (ltb (k * c)) (sym q) ∙ ltb_scaled k (a / c) c some

-- ---- what a width is
pub record Around (gamma : ℕ) (w : Float) (s r : ℕ) : Type 0 where
  pub foot_low : s ≤ gamma
  pub top_low : r ≤ gamma
  pub near : s ≤ r
  -- the depths at or below it are those up to s, the ones at or above it those from r on
  pub at_or_below : (k : ℕ) → le (whole k) w ≡ leb k s
  pub at_or_above : (k : ℕ) → le w (whole k) ≡ leb r k

not_ltb : (x y : ℕ) → not (ltb x y) ≡ leb y x
not_ltb x y = go (ltb x y) refl
  where
    go : (b : Bool) → ltb x y ≡ b → not b ≡ leb y x
    go true h = sym (lt-leb y x (ltb-true x y h))
    go false h = sym (le-leb y x (ltb-false x y h))

module _ (s : Bool) (m : ℕ) (e : ℤ) (z : Unsigned s (m * up e)) (gamma : ℕ) (small : gamma ≤ 64) (inside : m * up e ≤ gamma * down e) where
  abbrev w : Float
  w = fin s m e

  abbrev a : ℕ
  a = m * up e

  abbrev c : ℕ
  c = down e

  abbrev foot : ℕ
  foot = m * up e / down e

  foot_few : foot ≤ gamma
  foot_few =
      let next : (gamma + 1) * c ≡ gamma * c + c = add-mul gamma 1 c ∙ ap (λ (x : ℕ). gamma * c + x) (one-mul c) in
      let l : foot < gamma + 1 = (div-lt_iff_lt-mul (down_pos e)).1 (omega (arith, next, down_pos e, inside)) in
      omega arith

  number : is_nan w ≡ false
  unfolding is_nan
  number = refl

  below_small : (k : ℕ) → k ≤ 65 → lt w (whole k) ≡ ltb foot k
  below_small k h = below_held s m e (whole k) k z (whole_value k (omega arith)) ∙ past_foot a c (down_pos e) k

  lt_below : (k : ℕ) → lt w (whole k) ≡ ltb foot k
  lt_below k = pick (dec_lt k 65)
    where
      pick : Dec (k < 65) → lt w (whole k) ≡ ltb foot k
      pick (yes h) = below_small k (omega arith)
      pick (no h) = go (lt w (whole k)) refl ∙ sym (lt-ltb foot k (omega (arith, foot_few)))
        where
          go : (b : Bool) → lt w (whole k) ≡ b → b ≡ true
          go true q = refl
          go false q =
              sym (nlt_trans w (whole k) (whole 65) (whole_number k) q (large k (omega arith))) ∙ below_small 65 (omega arith) ∙ lt-ltb foot 65 (omega (arith, foot_few))

  module _ (r : ℕ) (top : r ≤ gamma) (near : foot ≤ r) (tops : (k : ℕ) → ltb (k * c) a ≡ ltb k r) where
    above_small : (k : ℕ) → k ≤ 65 → lt (whole k) w ≡ ltb k r
    above_small k h = above_held s m e (whole k) k z (whole_value k (omega arith)) ∙ tops k

    lt_above : (k : ℕ) → lt (whole k) w ≡ ltb k r
    lt_above k = pick (dec_lt k 65)
      where
        pick : Dec (k < 65) → lt (whole k) w ≡ ltb k r
        pick (yes h) = above_small k (omega arith)
        pick (no h) =
            nlt_trans (whole k) (whole 65) w (whole_number 65) (large k (omega arith)) (above_small 65 (omega arith) ∙ le-ltb 65 r (omega arith))
            ∙ sym (le-ltb k r (omega arith))

    around_by : Around gamma w foot r
    around_by = record {
      foot_low = foot_few;
      top_low = top;
      near = near;
      at_or_below = λ k. le_is (whole k) w (whole_number k) number ∙ ap not (lt_below k) ∙ not_ltb foot k;
      at_or_above = λ k. le_is w (whole k) number (whole_number k) ∙ ap not (lt_above k) ∙ not_ltb k r;
    }

  cut_is : to_unsigned 64 w ≡ foot
  unfolding to_unsigned
  cut_is = go s z
    where
      go : (t : Bool) → Unsigned t (m * up e) → cond t 0 (min (m * up e / down e) (2 ^ 64 - 1)) ≡ m * up e / down e
      go false q = let l = foot_few in omega arith
      go true q = sym (ap (λ (x : ℕ). x / down e) q ∙ zero-div (down e))

  foot_is : foot_of gamma w ≡ foot
  foot_is = ap (λ (x : ℕ). min x gamma) cut_is ∙ (let l = foot_few in let q : min foot gamma ≡ foot = omega arith in q)

  module _ (held : T (fits binary64 (fin s m e))) where
    around_foot : Around gamma w foot (ceiling_of gamma w foot)
    around_foot = pick (dec_lt (foot * c) a) s z held refl
      where
        pick : Dec (foot * c < a) → (t : Bool) → Unsigned t (m * up e) → T (fits binary64 (fin t m e)) → s ≡ t → Around gamma w foot (ceiling_of gamma w foot)
        pick (yes l) true q h i = absurd (let n : ⊥ = omega (arith, q, l) in n)
        pick (yes l) false q h i =
            let way : lt f0 (less w (whole foot)) ≡ true =
            ap (λ (t : Bool). lt f0 (less (fin t m e) (whole foot))) i ∙ some_way m e (whole foot) foot h (whole_value foot (omega (arith, foot_few))) l in
            let deeper : foot < gamma = lt_of_mul-lt-mul_right c (lt_of_lt_of_le l inside) in
            let is : foot + 1 ≡ ceiling_of gamma w foot = (let q : foot + 1 ≡ min (foot + 1) gamma = omega arith in q) ∙ sym (ap (λ (b : Bool). cond b (min (foot + 1) gamma) foot) way) in
            subst (Around gamma w foot) is (around_by (foot + 1) (omega arith) (omega arith) (past_top a c (down_pos e) l))
        pick (no l) t q h i =
            let same : foot * c ≡ a = omega (arith, foot_under a c (down_pos e), l) in
            let way : lt f0 (less w (whole foot)) ≡ false = no_way s m e (whole foot) foot z (whole_value foot (omega (arith, foot_few))) same in
            let is : foot ≡ ceiling_of gamma w foot = sym (ap (λ (b : Bool). cond b (min (foot + 1) gamma) foot) way) in
            subst (Around gamma w foot) is (around_by foot foot_few (omega arith) (past_whole a c (down_pos e) same))

    around_fin : Around gamma w (foot_of gamma w) (ceiling_of gamma w (foot_of gamma w))
    around_fin = subst (λ (x : ℕ). Around gamma w x (ceiling_of gamma w x)) (sym foot_is) around_foot

-- ---- every width
held_below_top : (y : Float) (k : ℕ) → HasValue y false k 1 → lt y (inf false) ≡ true
unfolding lt
held_below_top nan k v = absurd v
held_below_top (inf t) k v = absurd v
held_below_top (fin t n d) k v = refl

minus_none : (m : ℕ) (e : ℤ) → lt (fin true m e) f0 ≡ false → m * up e ≡ 0
unfolding lt of_bits
minus_none m e h = let l = ltb-false 0 (m * up e * 1 + 0 * down e) h in omega arith

bottom : lt (inf true) f0 ≡ true
unfolding lt of_bits
bottom = refl

pub around : (gamma : ℕ) (w : Float) → gamma ≤ 64 → T (fits binary64 w) → is_nan w ≡ false → lt w f0 ≡ false → lt (whole gamma) w ≡ false
    → Around gamma w (foot_of gamma w) (ceiling_of gamma w (foot_of gamma w))
unfolding is_nan
around gamma nan g f n l h = clash (sym n)
around gamma (inf true) g f n l h = clash (sym l ∙ bottom)
around gamma (inf false) g f n l h = clash (sym h ∙ held_below_top (whole gamma) gamma (whole_value gamma (omega arith)))
around gamma (fin false m e) g f n l h =
    around_fin false m e tt gamma g (ltb-false (gamma * down e) (m * up e) (sym (above_held false m e (whole gamma) gamma tt (whole_value gamma (omega arith))) ∙ h)) f
around gamma (fin true m e) g f n l h =
    let z = minus_none m e l in
    around_fin true m e z gamma g (ltb-false (gamma * down e) (m * up e) (sym (above_held true m e (whole gamma) gamma z (whole_value gamma (omega arith))) ∙ h)) f
