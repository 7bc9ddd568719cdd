-- What the text of a decimal says, by the tests that the code makes: each law is one way out. Assumes nothing.
use mathlib.Core.Path.{◌≡◌, refl, sym, ap, ◌∙◌, subst}
use mathlib.Core.Bool.{Bool, true, false, not, ◌&&◌, ◌||◌, cond}
use mathlib.Core.List.{List, [], ◌++◌, append-nil}
use Rattle.std.proofs.Common.{Ok, Err}
use Prim.Native.Nat.{ℕ, suc, ◌+◌, ◌-◌, ◌^◌, ◌≤◌, ◌<◌, min}
use native.Mathlib.Nat.{le_of_lt, min-eq_left}
use native.Mathlib.Numerals.{add-one}
use native.Mathlib.Omega.{arith}
use borrow.Author.Tests.{lt-ltb, le-ltb, ltb-false, eq-eqb, ne_eqb}
use lib.Dec.{T, ltb}
use lib.ListN.{length, get_or, take, drop, length-append, drop_of_length-le}
use lib.Seq.{take_all}
use lib.Ieee.{Float, binary64, round}
use Rattle.laws.proofs.Both.{and_false, or_right}
use Rattle.refusals.specs.declared.Refusal.{Refusal}
use Rattle.refusals.specs.declared.Refusal.TheVariants.{MalformedDecimal, LongDecimal}
use Rattle.refusals.specs.Refusals.{Judgement, number_in}
use Rattle.digits.specs.declared.Digits.{Digits}
use Rattle.digits.specs.Digits.{is_digit, all_digits, number, count_while, leading_digits, leading_zeros, significant, point, is_zero, is_no_point}
use Rattle.decimals.specs.Decimals.{Decimal, without_value, Spelled, of_parts, unsigned_of, is_too_long}
use Rattle.digits.proofs.Bytes.{count_before, count_through, count_past, count_ends, count_goes_on, count_stops}
use Rattle.digits.proofs.Leading.{all_append, number_append, few_below, all_leading, all_by_count, other_by_count, other_among, capped_before, count_is, number_is as number_from, number_of_all}

pub above_zero : (n : ℕ) → (n ≡ 0 → ⊥) → 0 < n
above_zero n h = omega arith

pub no_more : (n : ℕ) → n ≡ 0 → n ≤ 0
no_more n e = omega arith

-- ---- how many digits

or_true : (a : Bool) → (a || true) ≡ true
or_true true = refl
or_true false = refl

or_false : (a : Bool) → a ≡ (a || false)
or_false true = refl
or_false false = refl

module _ (w f : List ℕ) where
  pub many_decimals : 22 < length f → true ≡ is_too_long w f
  unfolding is_too_long
  many_decimals h = rw (lt-ltb 22 (length f) h, or_true (ltb 15 (significant (w ++ f))))

  -- the answer is by the count of the significant digits, where the decimals are not too many
  by_count : (n : ℕ) → n ≡ significant (w ++ f) → length f ≤ 22 → ltb 15 n ≡ is_too_long w f
  unfolding is_too_long
  by_count n e h = rw (le-ltb 22 (length f) h, sym e) (or_false (ltb 15 n))

  or_left : (a b : Bool) → (a || b) ≡ false → a ≡ false
  or_left true b k = k
  or_left false b k = refl

  pub few_significant : is_too_long w f ≡ false → significant (w ++ f) ≤ 15
  unfolding is_too_long
  few_significant e = ltb-false 15 (significant (w ++ f)) (or_left (ltb 15 (significant (w ++ f))) (ltb 22 (length f)) e)

  pub few_decimals : is_too_long w f ≡ false → length f ≤ 22
  unfolding is_too_long
  few_decimals e = ltb-false 22 (length f) (or_right (ltb 15 (significant (w ++ f))) (ltb 22 (length f)) e)

  no_more_than_all : (n a b z : ℕ) → n ≡ a + b → a + b ≤ 15 → n - z ≤ 15
  no_more_than_all n a b z e h = omega arith

  few : (a b : ℕ) → a + b ≤ 15 → b ≤ 22
  few a b h = omega arith

  pub few_digits : length w + length f ≤ 15 → false ≡ is_too_long w f
  few_digits h =
      let s = significant (w ++ f) in
      sym (le-ltb 15 s (no_more_than_all (length (w ++ f)) (length w) (length f) (leading_zeros (w ++ f)) (length-append w f) h))
      ∙ by_count s refl (few (length w) (length f) h)

  from_whole : (l a b z z' k : ℕ) → l ≡ a + b → k ≡ z → z' ≡ z → z < a → a - k + b ≡ l - z'
  from_whole l a b z z' k e i j h = omega arith

  -- a digit before the point that is not zero: all from there on are significant
  pub count_from_whole : (k : ℕ) → k ≡ leading_zeros w → k < length w → length f ≤ 22 → ltb 15 (length w - k + length f) ≡ is_too_long w f
  count_from_whole k e h d =
      let h' : leading_zeros w < length w = omega arith in
      by_count (length w - k + length f)
      (from_whole (length (w ++ f)) (length w) (length f) (leading_zeros w) (leading_zeros (w ++ f)) k (length-append w f) e (count_before is_zero w f h') h') d

  from_fraction : (l a b z z' k : ℕ) → l ≡ a + b → k ≡ z → z' ≡ a + z → b - k ≡ l - z'
  from_fraction l a b z z' k e i j = omega arith

  -- only zeros before the point: those of the decimals go on
  pub count_from_fraction : (k j : ℕ) → k ≡ leading_zeros w → length w ≤ k → j ≡ leading_zeros f → length f ≤ 22 → ltb 15 (length f - j) ≡ is_too_long w f
  count_from_fraction k j e h i d =
      let h' : length w ≤ leading_zeros w = omega arith in
      by_count (length f - j)
      (from_fraction (length (w ++ f)) (length w) (length f) (leading_zeros f) (leading_zeros (w ++ f)) j (length-append w f) i (count_through is_zero w f h')) d

-- ---- a decimal: the digits w before the point and f after it

module _ (negative : Bool) (w f : List ℕ) where
  pub no_digit : length w + length f ≡ 0 → Err MalformedDecimal ≡ of_parts negative w f
  unfolding of_parts
  no_digit e = rw (length-append w f, le-ltb 0 (length w + length f) (no_more (length w + length f) e))

  other : (all_digits w && all_digits f) ≡ false → Err MalformedDecimal ≡ of_parts negative w f
  unfolding of_parts
  other e = rw (all_append w f, e, and_false (ltb 0 (length (w ++ f))))

  pub other_before : all_digits w ≡ false → Err MalformedDecimal ≡ of_parts negative w f
  other_before e = other (rw e)

  pub other_after : all_digits f ≡ false → Err MalformedDecimal ≡ of_parts negative w f
  other_after e = other (rw e (and_false (all_digits w)))

  -- from here on the text is well formed
  module _ (some : length w + length f ≡ 0 → ⊥) (all : all_digits (w ++ f) ≡ true) where
    well_formed : (ltb 0 (length (w ++ f)) && all_digits (w ++ f)) ≡ true
    well_formed = rw (all, length-append w f, lt-ltb 0 (length w + length f) (above_zero (length w + length f) some))

    pub too_long_is : is_too_long w f ≡ true → Err LongDecimal ≡ of_parts negative w f
    unfolding of_parts
    too_long_is h = rw (well_formed, h)

    pub nothing_wrong : is_too_long w f ≡ false → Ok tt ≡ without_value (of_parts negative w f)
    unfolding of_parts
    nothing_wrong h = rw (well_formed, h)

pub all_of_both : (w f : List ℕ) → all_digits w ≡ true → all_digits f ≡ true → all_digits (w ++ f) ≡ true
all_of_both w f p q = all_append w f ∙ rw (p, q)

-- what is wrong with a decimal is so whatever its sign
parts_signless : (a b : Bool) (w f : List ℕ) → without_value (of_parts a w f) ≡ without_value (of_parts b w f)
unfolding of_parts
parts_signless a b w f = go (ltb 0 (length (w ++ f)) && all_digits (w ++ f)) (is_too_long w f)
  where
    go : (x y : Bool) → without_value (cond x (cond y (Err LongDecimal) (Ok (round binary64 a (number 0 (w ++ f)) (10 ^ length f)))) (Err MalformedDecimal)) ≡ without_value (cond x (cond y (Err LongDecimal) (Ok (round binary64 b (number 0 (w ++ f)) (10 ^ length f)))) (Err MalformedDecimal))
    go true true = refl
    go true false = refl
    go false y = refl

pub signless : (a b : Bool) (t : List ℕ) → without_value (unsigned_of a t) ≡ without_value (unsigned_of b t)
unfolding unsigned_of
signless a b t = parts_signless a b (take (point t) t) (drop (suc (point t)) t)

module _ (negative : Bool) (w f : List ℕ) where
  -- the judge's refusal is the reader's
  pub refused : (refusal : Refusal) → Err refusal ≡ without_value (of_parts false w f) → Err refusal ≡ of_parts negative w f
  unfolding of_parts
  refused refusal e = go (ltb 0 (length (w ++ f)) && all_digits (w ++ f)) (is_too_long w f) (round binary64 false (number 0 (w ++ f)) (10 ^ length f)) (round binary64 negative (number 0 (w ++ f)) (10 ^ length f)) e
    where
      go : (x y : Bool) (v u : Float) → ◌≡◌ {A = Judgement} (Err refusal) (without_value {A = Float} (cond x (cond y (Err LongDecimal) (Ok v)) (Err MalformedDecimal))) → ◌≡◌ {A = Decimal} (Err refusal) (cond x (cond y (Err LongDecimal) (Ok u)) (Err MalformedDecimal))
      go true true v u p = cc
      go true false v u p = cc
      go false y v u p = cc

  -- what the judge passes is well formed and not too long
  pub passed : Ok tt ≡ without_value (of_parts false w f) → ((ltb 0 (length (w ++ f)) && all_digits (w ++ f)) ≡ true) × (is_too_long w f ≡ false)
  unfolding of_parts
  passed e = go (ltb 0 (length (w ++ f)) && all_digits (w ++ f)) (is_too_long w f) (round binary64 false (number 0 (w ++ f)) (10 ^ length f)) e
    where
      go : (x y : Bool) (v : Float) → ◌≡◌ {A = Judgement} (Ok tt) (without_value {A = Float} (cond x (cond y (Err LongDecimal) (Ok v)) (Err MalformedDecimal))) → (x ≡ true) × (y ≡ false)
      go true true v p = cc
      go true false v p = (refl, refl)
      go false y v p = cc

  module _ (ok : Ok tt ≡ without_value (of_parts false w f)) where
    pub judged_few : length f ≤ 22
    judged_few = few_decimals w f (passed ok).1

    -- d is the number of the digits, brought down to the limit
    number_is : (d : ℕ) → Spelled w f d → d ≡ number 0 (w ++ f)
    number_is d s = s.digits ∙ min-eq_left (le_of_lt (few_below (w ++ f) (subst T (sym (all_of_both w f s.before s.behind)) tt) (few_significant w f (passed ok).1)))

    pub judged_value : (d : ℕ) → Spelled w f d → Ok (round binary64 negative d (10 ^ length f)) ≡ of_parts negative w f
    unfolding of_parts
    judged_value d s = rw ((passed ok).0, (passed ok).1, number_is d s)

-- the number of its refusal is that of what was read
pub number_without : (read : Decimal) → number_in (without_value read) ≡ number_in read
number_without (Ok x) = refl
number_without (Err refusal) = refl

-- ---- where the point is: k digits stand before it

digit_no_point : (b : ℕ) → is_digit b ≡ true → is_no_point b ≡ true
digit_no_point b e = ap not (ne_eqb b 46 (λ z. let f : true ≡ false = sym e ∙ ap is_digit z in absurd (subst T f tt)))

module _ (negative : Bool) (t : List ℕ) (k : ℕ) (count : k ≡ count_while is_digit t) where
  past : point t ≡ k + point (drop k t)
  past = subst (λ (i : ℕ). point t ≡ i + point (drop i t)) (sym count) (count_past is_no_point is_digit digit_no_point t)

  -- only digits: there is none
  pub no_point : (f : List ℕ) → length t ≤ k → f ≡ drop k t → of_parts negative t f ≡ unsigned_of negative t
  unfolding unsigned_of
  no_point f h e =
      let far : length t ≤ point t = omega (arith, past) in
      let further : length t ≤ suc (point t) = omega arith in
      ap (λ (l : List ℕ). of_parts negative t l) (e ∙ drop_of_length-le t h ∙ sym (drop_of_length-le t further))
      ∙ ap (λ (l : List ℕ). of_parts negative l (drop (suc (point t)) t)) (sym (take_all (point t) t far))

  -- another byte than the point ends the digits
  pub other_than_point : k < length t → (get_or t k 0 ≡ 46 → ⊥) → Err MalformedDecimal ≡ unsigned_of negative t
  unfolding unsigned_of
  other_than_point h n =
      let later : point (drop k t) ≡ suc (point (drop (k + 1) t)) = count_goes_on is_no_point t k h (ap not (ne_eqb (get_or t k 0) 46 n)) in
      let further : k < point t = omega (arith, past) in
      let stops : is_digit (get_or t k 0) ≡ false = subst (λ (i : ℕ). is_digit (get_or t i 0) ≡ false) (sym count) (count_stops is_digit t (subst (λ (i : ℕ). i < length t) count h)) in
      other_before negative (take (point t) t) (drop (suc (point t)) t) (other_among (point t) k t further h stops)

  -- the point ends them: f follows it, with j digits at its front
  module _ (f : List ℕ) (here : k < length t) (dot : get_or t k 0 ≡ 46) (rest : f ≡ drop (k + 1) t) where
    pub at_point : point t ≡ k
    at_point = let z : point (drop k t) ≡ 0 = count_ends is_no_point t k here (ap not (eq-eqb (get_or t k 0) 46 dot)) in omega (arith, past)

    pub parted : of_parts negative (take k t) f ≡ unsigned_of negative t
    unfolding unsigned_of
    parted =
        ap (λ (l : List ℕ). of_parts negative (take k t) l) (rest ∙ ap (λ (i : ℕ). drop i t) (add-one k))
        ∙ ap (λ (i : ℕ). of_parts negative (take i t) (drop (suc i) t)) (sym at_point)

    pub other_behind : (j : ℕ) → j ≡ count_while is_digit f → j < length f → Err MalformedDecimal ≡ unsigned_of negative t
    other_behind j e h = other_after negative (take k t) f (other_by_count f (subst (λ (i : ℕ). i < length f) e h)) ∙ parted

-- ---- digits before and after the point, by their counts

pub digits_before : (t : List ℕ) (k : ℕ) → k ≡ count_while is_digit t → all_digits (take k t) ≡ true
digits_before t k e = rw e (all_leading t)

pub digits_all : (t : List ℕ) (k : ℕ) → k ≡ count_while is_digit t → length t ≤ k → all_digits t ≡ true
digits_all t k e h = all_by_count t (subst (λ (i : ℕ). length t ≤ i) e h)

pub none_left : (t f : List ℕ) (k : ℕ) → length t ≤ k → f ≡ drop k t → f ≡ []
none_left t f k h e = e ∙ drop_of_length-le t h

pub digits_none : (t f : List ℕ) (k : ℕ) → length t ≤ k → f ≡ drop k t → all_digits f ≡ true
digits_none t f k h e = rw (none_left t f k h e)

-- ---- and their number: a are the digits before the point

module _ (t : List ℕ) (a : Digits) (read : a ≡ leading_digits 0 (10 ^ 15) t) (f : List ℕ) where
  count : a.count ≡ count_while is_digit t
  count = count_is 0 (10 ^ 15) t a read

  pub alone : length t ≤ a.count → f ≡ drop a.count t → Spelled t f a.number
  alone h e =
      rw (none_left t f a.count h e)
      (record { before = digits_all t a.count count h; behind = refl; digits = rw append-nil (number_of_all 0 (10 ^ 15) t a read h) })

  pub both_parts : (b : Digits) → b ≡ leading_digits a.number (10 ^ 15) f → length f ≤ b.count → Spelled (take a.count t) f b.number
  both_parts b more h =
      record {
        before = digits_before t a.count count;
        behind = digits_all f b.count (count_is a.number (10 ^ 15) f b more) h;
        digits =
            number_of_all a.number (10 ^ 15) f b more h
            ∙ ap (λ (n : ℕ). min (number n f) (10 ^ 15)) (number_from 0 (10 ^ 15) t a read ∙ ap (λ (k : ℕ). min (number 0 (take k t)) (10 ^ 15)) (sym count))
            ∙ capped_before (number 0 (take a.count t)) (10 ^ 15) f
            ∙ ap (λ (n : ℕ). min n (10 ^ 15)) (sym (number_append 0 (take a.count t) f));
      }
