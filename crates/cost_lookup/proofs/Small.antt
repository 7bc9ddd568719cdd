-- Seconds whose bit patterns are small are in range, and a table whose seconds are all so. Assumes nothing.
use Rattle.std.proofs.Common.{◌≡◌, ℕ, zero, suc, ◌+◌, ◌-◌, ◌*◌, ◌/◌, ◌^◌, ◌<◌, ◌≤◌, Bool, true, false, not, T, eqb, ltb, List, [], ◌∷◌, length, get_or, ℤ, sym, refl, ap, ◌∙◌, ⊎_elim, lt_of_lt_of_le, le_of_suc-le-suc, not-suc-le-zero, div-lt_iff_lt-mul, lt_of_mul-lt-mul_right, eq-or-lt_of_le, mul_right_comm, arith, ltb-false, ltb-true, lt-ltb, eqb-true}
use native.Mathlib.Nat.{pow-le-pow_right}
use borrow.Author.Tests.{eqb-false}
use lib.Bits.{bit_or, or_add_and, and_le_l, and_le_r}
use lib.Ieee.{Float, nan, inf, fin, binary64, size, up, down, lt, le, eq, is_nan, of_bits, to_bits}
use lib.Ieee.Digits.{size-lt}
use lib.Ieee.Fits.{down_pos}
use Rattle.float.specs.Floats.{f0}
use Rattle.float.proofs.Classes.{clash}
use Rattle.cost_rows.specs.Table.{zip}
use Rattle.cost_rows.specs.Lawful.{largest, in_range, all_in_range}

few : (n : ℕ) → 0 + (size n - 53) * 4503599627370496 + n / 2 ^ (size n - 53) < 4611686018427387904 → n < 2 ^ 1077
few n h =
    let two : 0 < 2 = omega arith in
    let most : size n ≤ 1077 = omega arith in
    lt_of_lt_of_le (size-lt n) (pow-le-pow_right two most)

cancel : (a d p : ℕ) → a * p < 8 * p * d → a < 8 * d
cancel a d p h = lt_of_mul-lt-mul_right p (rw (mul_right_comm 8 p d) at h)

below_eight : (m : ℕ) (e : ℤ) → m * up e * 2 ^ 1074 / down e < 2 ^ 1077 → m * up e * 1 < 100000000000000000 * down e
below_eight m e h =
    let w : m * up e < 8 * down e = cancel (m * up e) (down e) (2 ^ 1074) ((div-lt_iff_lt-mul (down_pos e)).0 h) in
    omega (arith, down_pos e)

below_largest : (x : Float) → lt f0 x ≡ true → to_bits binary64 x < 4611686018427387904 → le x largest ≡ true
unfolding lt le eq to_bits of_bits
below_largest nan h k = clash h
below_largest (inf true) h k = clash h
below_largest (inf false) h k = absurd (omega arith)
below_largest (fin true m e) h k = clash h
below_largest (fin false m e) h k = rw (lt-ltb (m * up e * 1) (100000000000000000 * down e) (below_eight m e (few _ k)))

pub has_bits : (x : Float) → lt f0 x ≡ true → T (not (is_nan x))
unfolding lt is_nan of_bits
has_bits nan h = clash h
has_bits (inf s) h = tt
has_bits (fin s m e) h = tt

pub small_in_range : (x : Float) → lt f0 x ≡ true → to_bits binary64 x < 4611686018427387904 → in_range x ≡ true
unfolding in_range
small_in_range x h k = rw (h, below_largest x h k)

-- ---- one pair more, and all
pub small_left : (a b : ℕ) → bit_or a b < 4611686018427387904 → a < 4611686018427387904
small_left a b h = omega (arith, or_add_and a b, and_le_r a b)

pub small_right : (a b : ℕ) → bit_or a b < 4611686018427387904 → b < 4611686018427387904
small_right a b h = omega (arith, or_add_and a b, and_le_l a b)

-- what is below i passes both tests, where the patterns so far are small
abbrev pub Passed : (ℕ → Bool) → (ℕ → Bool) → ℕ → ℕ → Type 0
Passed p q w i = w < 4611686018427387904 → (k : ℕ) → k < i → (p k ≡ true) × (q k ≡ true)

pub passed_next : (p q : ℕ → Bool) (w r i : ℕ) → Passed p q w i → (r < 4611686018427387904 → (p i ≡ true) × (q i ≡ true)) → Passed p q (bit_or w r) (i + 1)
passed_next p q w r i f g h k l =
    ⊎_elim (λ (e : k ≡ i). (ap p e ∙ (g (small_right w r h)).0, ap q e ∙ (g (small_right w r h)).1)) (λ (m : k < i). f (small_left w r h) k m) (eq-or-lt_of_le (omega arith))

abbrev pub At : List Float → ℕ → Bool
At s k = in_range (get_or s k nan)

third : (k n : ℕ) → 3 < n → k < n → n ≤ k + 3 → (k ≡ n - 1 → ⊥) → (k ≡ n - 2 → ⊥) → k ≡ n - 3
third k n m l o x y = omega arith

-- the last three of n, where the pattern is small
abbrev pub Last : List Float → ℕ → ℕ → Type 0
Last s n w = w < 4611686018427387904 → (k : ℕ) → k < n → n ≤ k + 3 → At s k ≡ true

pub three_last : (s : List Float) (n a b c : ℕ) → 3 < n → (a < 4611686018427387904 → At s (n - 1) ≡ true) → (b < 4611686018427387904 → At s (n - 2) ≡ true) → (c < 4611686018427387904 → At s (n - 3) ≡ true) → Last s n (bit_or (bit_or a b) c)
three_last s n a b c m f g h w k l o = go (eqb k (n - 1)) refl (eqb k (n - 2)) refl
  where
    go : (u : Bool) → eqb k (n - 1) ≡ u → (v : Bool) → eqb k (n - 2) ≡ v → At s k ≡ true
    go true e v z = ap (At s) (eqb-true k (n - 1) e) ∙ f (small_left a b (small_left (bit_or a b) c w))
    go false e true z = ap (At s) (eqb-true k (n - 2) z) ∙ g (small_right a b (small_left (bit_or a b) c w))
    go false e false z =
        let x = eqb-false k (n - 1) e in
        let y = eqb-false k (n - 2) z in
        ap (At s) (third k n m l o x y) ∙ h (small_right (bit_or a b) c w)

abbrev pub Front : List Float → ℕ → ℕ → ℕ → Type 0
Front s q w i = Passed (λ k. At s k) (λ k. At s (q + k)) w i

abbrev pub Back : List Float → ℕ → ℕ → ℕ → Type 0
Back s q w i = Passed (λ k. At s (q + q + k)) (λ k. At s (q + q + q + k)) w i

pub all_quarters : (s : List Float) (n q low high i : ℕ) → n ≤ q + q + q + q + 3 → q ≤ i → Last s n low → Front s q low i → Back s q high i → bit_or low high < 4611686018427387904 → (k : ℕ) → k < n → At s k ≡ true
all_quarters s n q low high i top j last f g h k l = go (ltb k q) refl (ltb k (q + q)) refl (ltb k (q + q + q)) refl (ltb k (q + q + q + q)) refl
  where
    less : low < 4611686018427387904
    less = small_left low high h

    more : high < 4611686018427387904
    more = small_right low high h

    go : (t : Bool) → ltb k q ≡ t → (u : Bool) → ltb k (q + q) ≡ u → (v : Bool) → ltb k (q + q + q) ≡ v → (w : Bool) → ltb k (q + q + q + q) ≡ w → At s k ≡ true
    go true a u b v c w d = let m : k < q = ltb-true k q a in (f less k (omega arith)).0
    go false a true b v c w d =
        let m : q ≤ k = ltb-false k q a in
        let o : k < q + q = ltb-true k (q + q) b in
        let same : q + (k - q) ≡ k = omega arith in
        sym (ap (At s) same) ∙ (f less (k - q) (omega arith)).1
    go false a false b true c w d =
        let m : q + q ≤ k = ltb-false k (q + q) b in
        let o : k < q + q + q = ltb-true k (q + q + q) c in
        let same : q + q + (k - (q + q)) ≡ k = omega arith in
        sym (ap (At s) same) ∙ (g more (k - (q + q)) (omega arith)).0
    go false a false b false c true d =
        let m : q + q + q ≤ k = ltb-false k (q + q + q) c in
        let o : k < q + q + q + q = ltb-true k (q + q + q + q) d in
        let same : q + q + q + (k - (q + q + q)) ≡ k = omega arith in
        sym (ap (At s) same) ∙ (g more (k - (q + q + q)) (omega arith)).1
    go false a false b false c false d =
        let m : q + q + q + q ≤ k = ltb-false k (q + q + q + q) d in
        last less k l (omega arith)

pub all_pass : (n : ℕ) (d b : List ℕ) (s : List Float) → n ≤ length d → n ≤ length b → n ≤ length s → ((k : ℕ) → k < n → At s k ≡ true) → true ≡ all_in_range (zip n d b s)
unfolding all_in_range zip
all_pass zero d b s p q r f = refl
all_pass (suc n) [] b s p q r f = absurd (not-suc-le-zero p)
all_pass (suc n) (x ∷ d) [] s p q r f = absurd (not-suc-le-zero q)
all_pass (suc n) (x ∷ d) (y ∷ b) [] p q r f = absurd (not-suc-le-zero r)
all_pass (suc n) (x ∷ d) (y ∷ b) (z ∷ s) p q r f =
    rw (f 0 (omega arith)) (all_pass n d b s (le_of_suc-le-suc p) (le_of_suc-le-suc q) (le_of_suc-le-suc r) (λ k h. f (suc k) (omega arith)))
