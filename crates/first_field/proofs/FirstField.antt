-- Laws of the decimal in the first field of a line: where its digits end, and what the field up to the comma says. Assumes nothing.
use mathlib.Core.Path.{◌≡◌, refl, sym, ap, ◌∙◌, subst}
use mathlib.Core.Bool.{Bool, true, false, not, cond}
use mathlib.Core.List.{List, [], ◌∷◌}
use Prim.Native.Nat.{ℕ, zero, suc, ◌+◌, ◌-◌, ◌^◌, ◌≤◌, ◌<◌, min}
use native.Mathlib.Nat.{zero-add, suc-add, le_refl, le-suc, le_of_suc-le-suc}
use native.Mathlib.Numerals.{add-one}
use native.Mathlib.Omega.{arith}
use borrow.Author.Tests.{eqb-true, ne_eqb}
use lib.Dec.{T, eqb}
use lib.ListN.{length, get_or, take, drop, drop_of_length-le}
use lib.Seq.{take-take, take-nil, drop-nil}
use Rattle.laws.proofs.Both.{or_right}
use Rattle.laws.proofs.Lists.{next}
use Rattle.digits.specs.declared.Digits.{Digits}
use Rattle.digits.specs.Digits.{is_digit, number, count_while, leading_digits, point, is_no_point}
use Rattle.first_field.specs.Front.{is_no_comma, field_length}
use Rattle.decimals.specs.Decimals.{Spelled, of_parts, unsigned_of, decimal_of}
use Rattle.digits.specs.Signs.{after_sign, is_negative, is_sign, is_minus}
use Rattle.digits.proofs.Bytes.{count_past, count_goes_on}
use Rattle.digits.proofs.Leading.{number_append, capped_before, count_is, number_is}
use Rattle.decimals.proofs.Outcomes.{at_point, digits_before}

-- ---- signs, digits and the point are no commas

no_comma : (test : ℕ → Bool) → test 44 ≡ false → (b : ℕ) → test b ≡ true → is_no_comma b ≡ true
no_comma test never b e = ap not (ne_eqb b 44 (λ z. let f : true ≡ false = sym e ∙ ap test z ∙ never in absurd (subst T f tt)))

-- ---- the front of a front

-- bytes that are left out behind the count do not change it
count_take : (p : ℕ → Bool) (m : ℕ) (s : List ℕ) → count_while p s ≤ m → count_while p (take m s) ≡ count_while p s
count_take p zero s h = omega arith
count_take p (suc m) [] h = refl
count_take p (suc m) (b ∷ s) h = go (p b) h (count_take p m s)
  where
    go : (z : Bool) → cond z (suc (count_while p s)) 0 ≤ suc m → (count_while p s ≤ m → count_while p (take m s) ≡ count_while p s)
        → cond z (suc (count_while p (take m s))) 0 ≡ cond z (suc (count_while p s)) 0
    go true k ih = ap suc (ih (le_of_suc-le-suc k))
    go false k ih = refl

drop_take : (a b : ℕ) (l : List ℕ) → drop a (take (a + b) l) ≡ take b (drop a l)
drop_take zero b l = ap (λ (n : ℕ). take n l) (zero-add b)
drop_take (suc a) b [] = ap (drop (suc a)) (take-nil (suc a + b)) ∙ drop-nil (suc a) ∙ sym (ap (take b) (drop-nil (suc a)) ∙ take-nil b)
drop_take (suc a) b (x ∷ l) = ap (λ (n : ℕ). drop (suc a) (take n (x ∷ l))) (suc-add a b) ∙ drop_take a b l

-- ---- whether the field ends at a place

pub end_here : (s : List ℕ) (i : ℕ) → i < length s → eqb (get_or s i 0) 44 ≡ eqb (field_length (drop i s)) 0
end_here s i h = go (eqb (get_or s i 0) 44) ∙ ap (λ (l : List ℕ). eqb (field_length l) 0) (sym (next s i 0 h))
  where
    go : (z : Bool) → z ≡ eqb (cond (not z) (suc (field_length (drop (i + 1) s))) 0) 0
    go true = refl
    go false = sym (ne_eqb (suc (field_length (drop (i + 1) s))) 0 (λ e. omega arith))

pub end_past : (s : List ℕ) (i : ℕ) → length s ≤ i → true ≡ eqb (field_length (drop i s)) 0
end_past s i h = ap (λ (l : List ℕ). eqb (field_length l) 0) (sym (drop_of_length-le s h))

-- ---- k digits, a point and then f, whose j digits end the field

module _ (t : List ℕ) (k : ℕ) (count : k ≡ count_while is_digit t) (here : k < length t) (dot : get_or t k 0 ≡ 46) (f : List ℕ) (rest : f ≡ drop (k + 1) t) (j : ℕ) (more : j ≡ count_while is_digit f)
    (ends : eqb (field_length (drop j f)) 0 ≡ true) where
  past : (s : List ℕ) (i : ℕ) → i ≡ count_while is_digit s → field_length s ≡ i + field_length (drop i s)
  past s i e = subst (λ (n : ℕ). field_length s ≡ n + field_length (drop n s)) (sym e) (count_past is_no_comma is_digit (no_comma is_digit refl) s)

  pub point_length : k + 1 + j ≡ field_length t
  point_length =
      let a : field_length t ≡ k + field_length (drop k t) = past t k count in
      let b : field_length (drop k t) ≡ suc (field_length (drop (k + 1) t)) = count_goes_on is_no_comma t k here (ap is_no_comma dot) in
      let c : field_length (drop (k + 1) t) ≡ j + field_length (drop j f) = ap field_length (sym rest) ∙ past f j more in
      let d : field_length (drop j f) ≡ 0 = eqb-true (field_length (drop j f)) 0 ends in
      omega arith

  pub point_parts : (negative : Bool) → of_parts negative (take k t) (take j f) ≡ unsigned_of negative (take (field_length t) t)
  unfolding unsigned_of
  point_parts negative =
      let n = suc k + j in
      let length_is : n ≡ field_length t = omega (arith, point_length) in
      let low : k ≤ n = omega arith in
      let whole : point t ≡ k = at_point negative t k count f here dot rest in
      let low' : point t ≤ n = omega arith in
      let front : point (take n t) ≡ k = count_take is_no_point n t low' ∙ whole in
      let behind : take j f ≡ drop (suc k) (take n t) = ap (take j) (rest ∙ ap (λ (i : ℕ). drop i t) (add-one k)) ∙ sym (drop_take (suc k) j t) in
      ap (λ (w : List ℕ). of_parts negative w (take j f)) (sym (take-take k n t low))
      ∙ ap (λ (r : List ℕ). of_parts negative (take k (take n t)) r) behind
      ∙ ap (λ (i : ℕ). of_parts negative (take i (take n t)) (drop (suc i) (take n t))) (sym front)
      ∙ ap (λ (m : ℕ). unsigned_of negative (take m t)) length_is

-- the number of both parts: a are the digits before the point, b goes on with those after it
pub point_spelled : (t : List ℕ) (a : Digits) → a ≡ leading_digits 0 (10 ^ 15) t → (f : List ℕ) (b : Digits) → b ≡ leading_digits a.number (10 ^ 15) f
    → Spelled (take a.count t) (take b.count f) b.number
point_spelled t a read f b more =
    let k : a.count ≡ count_while is_digit t = count_is 0 (10 ^ 15) t a read in
    let j : b.count ≡ count_while is_digit f = count_is a.number (10 ^ 15) f b more in
    let w = take a.count t in
    let g = take b.count f in
    record {
      before = digits_before t a.count k;
      behind = digits_before f b.count j;
      digits =
          number_is a.number (10 ^ 15) f b more
          ∙ ap (λ (i : ℕ). min (number a.number (take i f)) (10 ^ 15)) (sym j)
          ∙ ap (λ (n : ℕ). min (number n g) (10 ^ 15)) (number_is 0 (10 ^ 15) t a read ∙ ap (λ (i : ℕ). min (number 0 (take i t)) (10 ^ 15)) (sym k))
          ∙ capped_before (number 0 w) (10 ^ 15) g
          ∙ ap (λ (n : ℕ). min n (10 ^ 15)) (sym (number_append 0 w g));
    }

-- ---- in front of it the sign

pub sign_le : (l : List ℕ) → length (after_sign l) ≤ length l
sign_le [] = le_refl 0
sign_le (b ∷ s) = go (is_sign b)
  where
    go : (z : Bool) → length (cond z s (b ∷ s)) ≤ suc (length s)
    go true = le-suc (length s)
    go false = le_refl (suc (length s))

pub sign_length : (l : List ℕ) → length l - length (after_sign l) + field_length (after_sign l) ≡ field_length l
sign_length [] = refl
sign_length (b ∷ s) = go (is_sign b) (no_comma is_sign refl b)
  where
    go : (z : Bool) → (z ≡ true → is_no_comma b ≡ true) → suc (length s) - length (cond z s (b ∷ s)) + field_length (cond z s (b ∷ s)) ≡ field_length (b ∷ s)
    go true h = rw (h refl) (omega arith)
    go false h = omega arith

pub sign_decimal : (l : List ℕ) → unsigned_of (is_negative l) (take (field_length (after_sign l)) (after_sign l)) ≡ decimal_of (take (field_length l) l)
unfolding decimal_of
sign_decimal [] = refl
sign_decimal (b ∷ s) = go (is_sign b) (is_no_comma b) refl refl
  where
    go : (z c : Bool) → is_sign b ≡ z → is_no_comma b ≡ c
        → unsigned_of (is_minus b) (take (field_length (cond z s (b ∷ s))) (cond z s (b ∷ s))) ≡ decimal_of (take (cond c (suc (field_length s)) 0) (b ∷ s))
    go true true e f = rw e
    go true false e f = let k : true ≡ false = sym (no_comma is_sign refl b e) ∙ f in absurd (subst T k tt)
    go false true e f = rw (e, f)
    go false false e f = rw f (ap (λ (z : Bool). unsigned_of z []) (or_right (eqb b 43) (eqb b 45) e))
