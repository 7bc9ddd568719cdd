-- Values and their sign bits: what one comparison and the sign bit say of a value, and none is out of range where the top bit of all of them together is clear. Assumes nothing.
use mathlib.Core.Path.{◌≡◌, refl, sym, ap, ◌∙◌}
use mathlib.Core.Bool.{Bool, true, false, not, ◌&&◌, ◌||◌}
use mathlib.Core.List.{List}
use Prim.Native.Nat.{ℕ, ◌+◌, ◌*◌, ◌≤◌, ◌<◌, ◌^◌}
use native.Mathlib.Nat.{mul-pos}
use native.Mathlib.Omega.{arith}
use borrow.Author.Tests.{lt-ltb, le-ltb, ltb-true, ltb-false}
use lib.Bits.{bit_or, or_lt, or_add_and, and_le_l, and_le_r}
use lib.Dec.{T, ltb}
use lib.ListN.{length, get_or, drop}
use lib.Ieee.{Float, nan, inf, fin, binary64, fits, up, down, lt, le, eq, is_nan, of_bits, to_bits}
use lib.Ieee.Fits.{down_pos}
use Rattle.laws.proofs.Both.{and_false, and_true, grouped}
use Rattle.float.specs.Floats.{f0, is_clear, infinity}
use Rattle.float.specs.Range.{in_range, in_range_or_infinite}
use Rattle.float.proofs.Classes.{clash}
use Rattle.float.proofs.Patterns.{pattern_clear}
use Rattle.chains.specs.Tests.{all_of}
use Rattle.chains.proofs.Tested.{all_next, all_end}
use Rattle.chain_tests.proofs.Faults.{at_most}

-- ---- at most y, where y is above zero: no NaN, and y is not below it
positive : (a c : ℕ) → ltb (0 * c) (a * 1) ≡ true → 0 < a
positive a c h = let w : 0 * c < a * 1 = ltb-true _ _ h in omega arith

up_to : (x y : Float) → lt f0 y ≡ true → le x y ≡ (not (is_nan x) && not (lt y x))
unfolding le lt eq is_nan of_bits
up_to x nan h = clash h
up_to x (inf true) h = clash h
up_to x (fin true n d) h = clash h
up_to nan (inf false) h = refl
up_to (inf true) (inf false) h = refl
up_to (inf false) (inf false) h = refl
up_to (fin s m e) (inf false) h = refl
up_to nan (fin false n d) h = refl
up_to (inf true) (fin false n d) h = refl
up_to (inf false) (fin false n d) h = refl
up_to (fin false m e) (fin false n d) h = at_most (m * up e * down d) (n * up d * down e)
up_to (fin true m e) (fin false n d) h =
    let b : 0 < n * up d * down e = mul-pos (positive (n * up d) (down d) h) (down_pos e) in
    let k : 0 < m * up e * down d + n * up d * down e = omega arith in
    rw (lt-ltb 0 (m * up e * down d + n * up d * down e) k)

-- what is clear is not below zero, so that one comparison is left
range_is : (x high : Float) → lt f0 high ≡ true → in_range f0 high x ≡ (is_clear x && le x high)
unfolding in_range is_clear lt of_bits is_nan
range_is nan high h = refl
range_is (inf true) high h = refl
range_is (fin true m e) high h = refl
range_is (inf false) high h = sym (up_to (inf false) high h)
range_is (fin false m e) high h =
    rw (le-ltb (m * up e * 1) (0 * 1 * down e) (omega arith)) (sym (up_to (fin false m e) high h))

-- ---- what the sign bit says of it
no_nan : (x high : Float) → lt f0 high ≡ true → le x high ≡ true → is_nan x ≡ false
no_nan x high h k = go (is_nan x) refl
  where
    go : (z : Bool) → is_nan x ≡ z → z ≡ false
    go true e = clash (ap (λ (b : Bool). not b && not (lt high x)) (sym e) ∙ sym (up_to x high h) ∙ k)
    go false e = refl

pub has_bits : (x high : Float) → lt f0 high ≡ true → le x high ≡ true → T (not (is_nan x))
has_bits x high h k = rw (no_nan x high h k) tt

pub bits_say : (x high : Float) → fits binary64 x ≡ true → lt f0 high ≡ true → le x high ≡ true → ltb (to_bits binary64 x) (2 ^ 63) ≡ in_range f0 high x
bits_say x high f h k =
    pattern_clear x f (no_nan x high h k) ∙ sym (and_true (is_clear x)) ∙ ap (λ (b : Bool). is_clear x && b) (sym k) ∙ sym (range_is x high h)

pub above : (x high : Float) → lt f0 high ≡ true → le x high ≡ false → false ≡ in_range f0 high x
above x high h k = sym (range_is x high h ∙ ap (λ (b : Bool). is_clear x && b) k ∙ and_false (is_clear x))

-- ---- or +infinity
pub is_infinite : (low high x : Float) → eq x infinity ≡ true → true ≡ in_range_or_infinite low high x
unfolding in_range_or_infinite
is_infinite low high x h = sym (ap (λ (b : Bool). in_range low high x || b) h ∙ go (in_range low high x))
  where
    go : (b : Bool) → (b || true) ≡ true
    go true = refl
    go false = refl

pub not_infinite : (low high x : Float) (r : Bool) → eq x infinity ≡ false → r ≡ in_range low high x → r ≡ in_range_or_infinite low high x
unfolding in_range_or_infinite
not_infinite low high x r h p = p ∙ sym (ap (λ (b : Bool). in_range low high x || b) h ∙ go (in_range low high x))
  where
    go : (b : Bool) → (b || false) ≡ b
    go true = refl
    go false = refl

-- ---- one more value, and none left
-- the top bit of two is clear where it is clear in both
top_clear : (a b : ℕ) → ltb (bit_or a b) (2 ^ 63) ≡ (ltb a (2 ^ 63) && ltb b (2 ^ 63))
top_clear a b = go (ltb a (2 ^ 63)) (ltb b (2 ^ 63)) refl refl
  where
    go : (p q : Bool) → ltb a (2 ^ 63) ≡ p → ltb b (2 ^ 63) ≡ q → ltb (bit_or a b) (2 ^ 63) ≡ (p && q)
    go true true p q = lt-ltb (bit_or a b) (2 ^ 63) (or_lt 63 a b (ltb-true _ _ p) (ltb-true _ _ q))
    go true false p q = le-ltb (bit_or a b) (2 ^ 63) (let k : 2 ^ 63 ≤ b = ltb-false _ _ q in omega (arith, or_add_and a b, and_le_l a b))
    go false q' p q = le-ltb (bit_or a b) (2 ^ 63) (let k : 2 ^ 63 ≤ a = ltb-false _ _ p in omega (arith, or_add_and a b, and_le_r a b))

module _ (test : Float → Bool) (values : List Float) (d faults : ℕ) (inv : all_of test values ≡ (ltb faults (2 ^ 63) && all_of test (drop d values))) where
  pub clear_next : (a : ℕ) → d < length values → ltb a (2 ^ 63) ≡ test (get_or values d nan)
      → all_of test values ≡ (ltb (bit_or faults a) (2 ^ 63) && all_of test (drop (d + 1) values))
  clear_next a h u =
      let R = all_of test (drop (d + 1) values) in
      inv ∙ ap (λ (z : Bool). ltb faults (2 ^ 63) && z) (all_next test nan (ltb a (2 ^ 63)) values d h (sym u))
      ∙ grouped (ltb faults (2 ^ 63)) (ltb a (2 ^ 63)) R ∙ ap (λ (z : Bool). z && R) (sym (top_clear faults a))

  pub clear_end : length values ≤ d → ltb faults (2 ^ 63) ≡ all_of test values
  clear_end h = sym (and_true (ltb faults (2 ^ 63))) ∙ ap (λ (z : Bool). ltb faults (2 ^ 63) && z) (sym (all_end test nan values d h)) ∙ sym inv
