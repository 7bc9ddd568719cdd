-- Laws of counting bytes: over a part and the rest, and what a count of none says. Assumes nothing.
use mathlib.Core.Path.{◌≡◌, refl, sym, ap, ◌∙◌}
use mathlib.Core.Bool.{Bool, true, false, ◌&&◌, cond}
use mathlib.Core.List.{List, [], ◌∷◌}
use Prim.Native.Nat.{ℕ, zero, suc, ◌+◌, ◌-◌, ◌≤◌, ◌<◌}
use native.Mathlib.Nat.{not-suc-le-zero, le_of_suc-le-suc}
use native.Mathlib.Omega.{arith}
use borrow.Author.Tests.{lt-leb, le-leb, ltb-true, ltb-false, eq-eqb, ne_eqb}
use lib.Dec.{eqb, ltb, leb, eqb-suc-zero}
use lib.ListN.{length, get_or, take, drop, drop_of_length-le}
use Rattle.laws.proofs.Lists.{next, part}
use Rattle.laws.proofs.Both.{grouped}
use Rattle.blocks.specs.Blocks.{find, tally, is_byte, is_high, all_ascii}
use lib.Seq.{length-take-le}
use Rattle.blocks.proofs.Finding.{part_length}

module _ (p : ℕ → Bool) where
  pub tally_next : (t : List ℕ) (i : ℕ) (z : Bool) → i < length t → p (get_or t i 0) ≡ z → tally p (drop i t) ≡ cond z (suc (tally p (drop (i + 1) t))) (tally p (drop (i + 1) t))
  tally_next t i z h e = ap (tally p) (next t i 0 h) ∙ ap (λ (x : Bool). cond x (suc (tally p (drop (i + 1) t))) (tally p (drop (i + 1) t))) e

  pub tally_end : (t : List ℕ) (i : ℕ) → length t ≤ i → tally p (drop i t) ≡ 0
  tally_end t i h = ap (tally p) (drop_of_length-le t h)

  pub tally_le : (s : List ℕ) → tally p s ≤ length s
  tally_le [] = omega arith
  tally_le (b ∷ s) = go (p b) (tally_le s)
    where
      go : (z : Bool) → tally p s ≤ length s → cond z (suc (tally p s)) (tally p s) ≤ suc (length s)
      go true h = omega arith
      go false h = omega arith

  -- a part and the rest
  pub tally_split : (k : ℕ) (s : List ℕ) → tally p s ≡ tally p (take k s) + tally p (drop k s)
  tally_split zero s = none (tally p s)
    where
      none : (n : ℕ) → n ≡ 0 + n
      none n = omega arith
  tally_split (suc k) [] = refl
  tally_split (suc k) (b ∷ s) = go (p b) (tally_split k s)
    where
      go : (z : Bool) → tally p s ≡ tally p (take k s) + tally p (drop k s)
          → cond z (suc (tally p s)) (tally p s) ≡ cond z (suc (tally p (take k s))) (tally p (take k s)) + tally p (drop k s)
      go true e = omega arith
      go false e = e

-- ---- where the byte stands in no place of a part, it is found behind it
pub find_past : (x k : ℕ) (s : List ℕ) → k ≤ length s → tally (is_byte x) (take k s) ≡ 0 → find x s ≡ k + find x (drop k s)
find_past x zero s h e = omega arith
find_past x (suc k) [] h e = absurd (not-suc-le-zero h)
find_past x (suc k) (b ∷ s) h e = go (eqb b x) e (find_past x k s (le_of_suc-le-suc h))
  where
    go : (z : Bool) → cond z (suc (tally (is_byte x) (take k s))) (tally (is_byte x) (take k s)) ≡ 0 → (tally (is_byte x) (take k s) ≡ 0 → find x s ≡ k + find x (drop k s))
        → cond z 0 (suc (find x s)) ≡ suc k + find x (drop k s)
    go true c ih = absurd (omega arith)
    go false c ih = let f = ih c in omega arith

-- ---- no byte above 127
high_not : (b : ℕ) (z : Bool) → ltb 127 b ≡ z → leb b 127 ≡ cond z false true
high_not b true e = lt-leb b 127 (ltb-true 127 b e)
high_not b false e = le-leb b 127 (ltb-false 127 b e)

pub ascii_counted : (s : List ℕ) → all_ascii s ≡ eqb (tally is_high s) 0
ascii_counted [] = refl
ascii_counted (b ∷ s) = go (ltb 127 b) (leb b 127) (high_not b (ltb 127 b) refl) (ascii_counted s)
  where
    go : (z y : Bool) → y ≡ cond z false true → all_ascii s ≡ eqb (tally is_high s) 0 → (y && all_ascii s) ≡ eqb (cond z (suc (tally is_high s)) (tally is_high s)) 0
    go true y h e = rw h (sym (eqb-suc-zero (tally is_high s)))
    go false y h e = rw h e

pub ascii_split : (k : ℕ) (s : List ℕ) → all_ascii s ≡ (all_ascii (take k s) && all_ascii (drop k s))
ascii_split zero s = refl
ascii_split (suc k) [] = refl
ascii_split (suc k) (b ∷ s) = ap (λ (x : Bool). leb b 127 && x) (ascii_split k s) ∙ grouped (leb b 127) (all_ascii (take k s)) (all_ascii (drop k s))

-- ---- one block further: r is the rest, of which the block was looked at

block_length : (r : List ℕ) → 64 ≤ length r → length (take 64 r) ≡ 64
block_length r h = length-take-le 64 r h

module _ (s r : List ℕ) (long : 64 ≤ length r) where
  rest : List ℕ
  rest = take (length r - 64) (drop 64 r)

  same_rest : rest ≡ drop 64 r
  unfolding rest
  same_rest = part 64 r

  rest_length : length rest ≡ length r - 64
  unfolding rest
  rest_length = part_length 64 r

  pub count_further : (p : ℕ → Bool) (sum m : ℕ) → sum + length r ≤ length s → tally p s ≡ sum + tally p r → m ≡ tally p (take 64 r)
      → (sum + m + length (take (length r - 64) (drop 64 r)) ≤ length s) × (tally p s ≡ sum + m + tally p (take (length r - 64) (drop 64 r)))
  unfolding rest
  count_further p sum m h e k =
      let few : tally p (take 64 r) ≤ 64 = omega (arith, tally_le p (take 64 r), block_length r long) in
      let l = rest_length in
      let t : tally p rest ≡ tally p (drop 64 r) = ap (tally p) same_rest in
      (omega arith, omega (arith, tally_split p 64 r))

  pub find_further : (x passed m : ℕ) → find x s ≡ passed + find x r → m ≡ tally (is_byte x) (take 64 r) → m ≡ 0 → find x s ≡ passed + 64 + find x (take (length r - 64) (drop 64 r))
  unfolding rest
  find_further x passed m e k z =
      let f : find x r ≡ 64 + find x (drop 64 r) = find_past x 64 r long (sym k ∙ z) in
      let t : find x rest ≡ find x (drop 64 r) = ap (find x) same_rest in
      omega arith

  ascii_block : (m : ℕ) (z : Bool) → m ≡ tally is_high (take 64 r) → eqb m 0 ≡ z → all_ascii r ≡ (z && all_ascii (drop 64 r))
  ascii_block m z k e = ascii_split 64 r ∙ ap (λ (b : Bool). b && all_ascii (drop 64 r)) (ascii_counted (take 64 r) ∙ ap (λ (n : ℕ). eqb n 0) (sym k) ∙ e)

  pub ascii_further : (m : ℕ) → all_ascii s ≡ all_ascii r → m ≡ tally is_high (take 64 r) → m ≡ 0 → all_ascii s ≡ all_ascii (take (length r - 64) (drop 64 r))
  unfolding rest
  ascii_further m e k z = e ∙ ascii_block m true k (eq-eqb m 0 z) ∙ ap all_ascii (sym same_rest)

  pub ascii_stops : (m : ℕ) → all_ascii s ≡ all_ascii r → m ≡ tally is_high (take 64 r) → (m ≡ 0 → ⊥) → false ≡ all_ascii s
  ascii_stops m e k z = sym (e ∙ ascii_block m false k (ne_eqb m 0 z))

pub ascii_ends : (s r : List ℕ) (m : ℕ) → all_ascii s ≡ all_ascii r → m ≡ tally is_high r → eqb m 0 ≡ all_ascii s
ascii_ends s r m e k = sym (e ∙ ascii_counted r ∙ ap (λ (n : ℕ). eqb n 0) (sym k))
