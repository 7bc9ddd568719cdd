-- Laws of digits and the number that they spell. Assumes nothing.
use mathlib.Core.Path.{◌≡◌, refl, sym, ap, ◌∙◌, subst}
use mathlib.Core.Bool.{Bool, true, false, ◌&&◌, cond}
use mathlib.Core.List.{List, [], ◌∷◌, ◌++◌}
use Prim.Native.Nat.{ℕ, zero, suc, ◌+◌, ◌-◌, ◌*◌, ◌^◌, ◌≤◌, ◌<◌, min}
use native.Mathlib.Nat.{not-suc-le-zero, le_of_suc-le-suc, le_refl, le_trans, le_of_eq, le_of_lt, lt_of_lt_of_le, mul-le-mul_right, mul_assoc, pow-succ', pow-le-pow_right, min-eq_left, min-eq_right}
use native.Mathlib.Omega.{arith}
use borrow.Author.Tests.{lt-leb, le-leb, leb-true, leb-false, eqb-true}
use lib.Dec.{T, leb, leb→le, leb-suc-suc, leb-suc-zero, eqb, lit<}
use lib.ListN.{length, get_or, take, drop, drop_of_length-le}
use lib.Seq.{take_all}
use lib.Ieee.Fits.{and_l, and_r}
use Rattle.laws.proofs.Lists.{next}
use Rattle.laws.proofs.Both.{and_false}
use Rattle.digits.specs.declared.Digits.{Digits}
use Rattle.digits.specs.Digits.{is_digit, all_digits, number, count_while, leading_digits, leading_zeros, significant}

-- ---- whether all are digits

digit_high : (b : ℕ) → T (is_digit b) → b ≤ 57
digit_high b d = leb→le b 57 (and_r (leb 48 b) (leb b 57) d)

pub all_append : (a b : List ℕ) → all_digits (a ++ b) ≡ (all_digits a && all_digits b)
all_append [] b = refl
all_append (x ∷ a) b = go (is_digit x) (all_append a b)
  where
    go : (d : Bool) → all_digits (a ++ b) ≡ (all_digits a && all_digits b) → (d && all_digits (a ++ b)) ≡ (d && all_digits a && all_digits b)
    go true e = e
    go false e = refl

-- ---- the number

grows : (n d : ℕ) → n ≤ n * 10 + d
grows n d = omega arith

le_number : (n : ℕ) (s : List ℕ) → n ≤ number n s
le_number n [] = le_refl n
le_number n (b ∷ s) = le_trans (grows n (b - 48)) (le_number (n * 10 + (b - 48)) s)

pub number_append : (n : ℕ) (a b : List ℕ) → number n (a ++ b) ≡ number (number n a) b
number_append n [] b = refl
number_append n (x ∷ a) b = number_append (n * 10 + (x - 48)) a b

one_more : (n b : ℕ) → b ≤ 57 → suc (n * 10 + (b - 48)) ≤ suc n * 10
one_more n b h = omega arith

base : (n : ℕ) → n < suc n * 1
base n = omega arith

number_below : (n : ℕ) (s : List ℕ) → T (all_digits s) → number n s < suc n * 10 ^ length s
number_below n [] d = base n
number_below n (b ∷ s) d =
    let m = n * 10 + (b - 48) in
    lt_of_lt_of_le (number_below m s (and_r (is_digit b) (all_digits s) d))
    (le_trans (mul-le-mul_right (10 ^ length s) (one_more n b (digit_high b (and_l (is_digit b) (all_digits s) d))))
    (le_of_eq (mul_assoc (suc n) 10 (10 ^ length s) ∙ ap (λ (x : ℕ). suc n * x) (sym (pow-succ' 10 (length s))))))

-- ---- the digits' number has no more digits than the significant ones

drop_one : (l z : ℕ) → l - z ≤ suc l - suc z
drop_one l z = omega arith

no_less : (l : ℕ) → l ≤ l - 0
no_less l = omega arith

one_times : (x : ℕ) → suc 0 * x ≤ x
one_times x = omega arith

ten : 0 < 10
ten = lit< tt

significant_below : (s : List ℕ) → T (all_digits s) → number 0 s < 10 ^ significant s
significant_below [] d = lit< tt
significant_below (b ∷ s) d = go (eqb b 48) (eqb-true b 48) (significant_below s (and_r (is_digit b) (all_digits s) d))
  where
    go : (z : Bool) → (z ≡ true → b ≡ 48) → number 0 s < 10 ^ significant s → number (0 * 10 + (b - 48)) s < 10 ^ (suc (length s) - cond z (suc (leading_zeros s)) 0)
    go true e ih =
        lt_of_lt_of_le
        (subst (λ (x : ℕ). number (0 * 10 + (x - 48)) s < 10 ^ significant s) (sym (e refl)) ih)
        (pow-le-pow_right ten (drop_one (length s) (leading_zeros s)))
    go false e ih = lt_of_lt_of_le (number_below 0 (b ∷ s) d) (le_trans (one_times (10 ^ suc (length s))) (pow-le-pow_right ten (no_less (suc (length s)))))

pub few_below : (s : List ℕ) → T (all_digits s) → significant s ≤ 15 → number 0 s < 10 ^ 15
few_below s d h = lt_of_lt_of_le (significant_below s d) (pow-le-pow_right ten h)

-- ---- the digits that bytes start with

-- all are digits where their count is the length
pub all_counted : (s : List ℕ) → all_digits s ≡ leb (length s) (count_while is_digit s)
all_counted [] = refl
all_counted (b ∷ s) = go (is_digit b) (all_counted s)
  where
    go : (z : Bool) → all_digits s ≡ leb (length s) (count_while is_digit s) → (z && all_digits s) ≡ leb (suc (length s)) (cond z (suc (count_while is_digit s)) 0)
    go true e = e ∙ sym (leb-suc-suc (length s) (count_while is_digit s))
    go false e = sym (leb-suc-zero (length s))

pub all_by_count : (s : List ℕ) → length s ≤ count_while is_digit s → all_digits s ≡ true
all_by_count s h = all_counted s ∙ le-leb (length s) (count_while is_digit s) h

pub other_by_count : (s : List ℕ) → count_while is_digit s < length s → all_digits s ≡ false
other_by_count s h = all_counted s ∙ lt-leb (length s) (count_while is_digit s) h

pub all_leading : (s : List ℕ) → all_digits (take (count_while is_digit s) s) ≡ true
all_leading [] = refl
all_leading (b ∷ s) = go (is_digit b) refl (all_leading s)
  where
    go : (z : Bool) → is_digit b ≡ z → all_digits (take (count_while is_digit s) s) ≡ true → all_digits (take (cond z (suc (count_while is_digit s)) 0) (b ∷ s)) ≡ true
    go true e ih = rw (e, ih)
    go false e ih = refl

-- a byte that is no digit, among the first m
pub other_among : (m k : ℕ) (s : List ℕ) → k < m → k < length s → is_digit (get_or s k 0) ≡ false → all_digits (take m s) ≡ false
other_among m k [] h i e = absurd (not-suc-le-zero i)
other_among zero k (b ∷ s) h i e = absurd (not-suc-le-zero h)
other_among (suc m) zero (b ∷ s) h i e = rw e
other_among (suc m) (suc k) (b ∷ s) h i e = rw (other_among m k s (le_of_suc-le-suc h) (le_of_suc-le-suc i) e) (and_false (is_digit b))

-- ---- the leading digits, from a place on

capped : (n l : ℕ) (s : List ℕ) → l ≤ n → min (number n s) l ≡ l
capped n l s h = min-eq_right (le_trans h (le_number n s))

-- a number that was brought down to the limit before the digits
pub capped_before : (n l : ℕ) (s : List ℕ) → min (number (min n l) s) l ≡ min (number n s) l
capped_before n l s = go (leb n l) refl
  where
    go : (z : Bool) → leb n l ≡ z → min (number (min n l) s) l ≡ min (number n s) l
    go true e = rw (min-eq_left (leb-true n l e))
    go false e =
        let h : l ≤ n = le_of_lt (leb-false n l e) in
        ap (λ (x : ℕ). min (number x s) l) (min-eq_right h) ∙ capped l l s (le_refl l) ∙ sym (capped n l s h)

-- the digits read so far, and those from there on
abbrev pub after : ℕ → Digits → Digits
after i d = record { count = i + d.count; number = d.number }

same : (a b c d : ℕ) → a ≡ c → b ≡ d → ◌≡◌ {A = Digits} (record { count = a; number = b }) (record { count = c; number = d })
same a b c d e f = rw (e, f)

none_yet : (k : ℕ) → k ≡ 0 + k
none_yet k = omega arith

pub leading_start : (n l : ℕ) (t : List ℕ) → leading_digits n l t ≡ after 0 (leading_digits n l t)
unfolding leading_digits
leading_start n l t = let k = count_while is_digit t in let m = min (number n (take k t)) l in same k m (0 + k) m (none_yet k) refl

one_more_digit : (i k : ℕ) → i + suc k ≡ i + 1 + k
one_more_digit i k = omega arith

no_further : (i : ℕ) → i + 0 ≡ i
no_further i = omega arith

module _ (l : ℕ) (t : List ℕ) (i n : ℕ) where
  pub leading_next : i < length t → is_digit (get_or t i 0) ≡ true
      → after i (leading_digits n l (drop i t)) ≡ after (i + 1) (leading_digits (n * 10 + (get_or t i 0 - 48)) l (drop (i + 1) t))
  unfolding leading_digits
  leading_next h e =
      let r = drop (i + 1) t in
      let k = count_while is_digit r in
      let m = min (number (n * 10 + (get_or t i 0 - 48)) (take k r)) l in
      rw (next t i 0 h, e) (same (i + suc k) m (i + 1 + k) m (one_more_digit i k) refl)

  pub leading_stops : n ≤ l → i < length t → is_digit (get_or t i 0) ≡ false → after i (leading_digits n l (drop i t)) ≡ record { count = i; number = n }
  unfolding leading_digits
  leading_stops h k e = rw (next t i 0 k, e) (same (i + 0) (min n l) i n (no_further i) (min-eq_left h))

  pub leading_ends : n ≤ l → length t ≤ i → after i (leading_digits n l (drop i t)) ≡ record { count = i; number = n }
  unfolding leading_digits
  leading_ends h k = rw (drop_of_length-le t k) (same (i + 0) (min n l) i n (no_further i) (min-eq_left h))

-- past the limit the number stays there
leading_limit : (n l : ℕ) (s : List ℕ) → leading_digits n l s ≡ leading_digits (min n l) l s
unfolding leading_digits
leading_limit n l s =
    let k = count_while is_digit s in
    same k (min (number n (take k s)) l) k (min (number (min n l) (take k s)) l) refl (sym (capped_before n l (take k s)))

-- the answer of the whole, where i digits were read and n is their number: at a digit, at another byte, and at the end
module _ (whole : Digits) (l : ℕ) (t : List ℕ) (i n : ℕ) (so_far : whole ≡ after i (leading_digits n l (drop i t))) where
  pub read_digit : i < length t → is_digit (get_or t i 0) ≡ true → whole ≡ after (i + 1) (leading_digits (min (n * 10 + (get_or t i 0 - 48)) l) l (drop (i + 1) t))
  read_digit h e =
      so_far
      ∙ leading_next l t i n h e
      ∙ ap (after (i + 1)) (leading_limit (n * 10 + (get_or t i 0 - 48)) l (drop (i + 1) t))

  pub read_other : n ≤ l → i < length t → is_digit (get_or t i 0) ≡ false → record { count = i; number = n } ≡ whole
  read_other h k e = sym (so_far ∙ leading_stops l t i n h k e)

  pub read_all : n ≤ l → length t ≤ i → record { count = i; number = n } ≡ whole
  read_all h k = sym (so_far ∙ leading_ends l t i n h k)

-- what the record says, field by field
pub count_is : (n l : ℕ) (s : List ℕ) (d : Digits) → d ≡ leading_digits n l s → d.count ≡ count_while is_digit s
unfolding leading_digits
count_is n l s d e = ap (λ (x : Digits). x.count) e

pub number_is : (n l : ℕ) (s : List ℕ) (d : Digits) → d ≡ leading_digits n l s → d.number ≡ min (number n (take (count_while is_digit s) s)) l
unfolding leading_digits
number_is n l s d e = ap (λ (x : Digits). x.number) e

at_most : (n l v : ℕ) → v ≡ min n l → v ≤ l
at_most n l v e = omega arith

pub number_le : (n l : ℕ) (s : List ℕ) (d : Digits) → d ≡ leading_digits n l s → d.number ≤ l
number_le n l s d e = at_most (number n (take (count_while is_digit s) s)) l d.number (number_is n l s d e)

-- where the count is the length, the number is that of all bytes
pub number_of_all : (n l : ℕ) (s : List ℕ) (d : Digits) → d ≡ leading_digits n l s → length s ≤ d.count → d.number ≡ min (number n s) l
number_of_all n l s d e h =
    number_is n l s d e
    ∙ ap (λ (t : List ℕ). min (number n t) l) (take_all (count_while is_digit s) s (subst (λ (k : ℕ). length s ≤ k) (count_is n l s d e) h))
