-- Where every chain reaches gamma, what is expected of a batch never falls from a depth to the next: a running sum of survivals does not fall, and rounded addition keeps the order. Assumes nothing.
use mathlib.Core.Path.{◌≡◌, refl, sym, ap, ◌∙◌, subst}
use mathlib.Core.Bool.{true, false, cond, ◌&&◌}
use mathlib.Core.List.{List, [], ◌∷◌}
use Prim.Native.Nat.{ℕ, zero, suc, ◌+◌, ◌-◌, ◌*◌, ◌^◌, ◌≤◌, ◌<◌, min}
use native.Mathlib.Nat.{le_trans, le_of_eq, mul_assoc, mul_comm, mul_left_comm, mul_right_comm, add-mul, mul-le-mul_right, mul-pos, le_of_mul-le-mul_right, zero-mul}
use native.Mathlib.Omega.{arith}
use borrow.Author.Tests.{le-ltb, leb-true}
use lib.Dec.{T, leb, ltb}
use lib.IntN.{ℤ}
use lib.ListN.{length, take, drop, replicate, length-take, length-drop}
use lib.Ieee.{Float, nan, inf, fin, binary64, up, down, round, sum, add, lt, le, eq, is_nan, fits, of_bits}
use lib.Ieee.Fits.{down_pos, add-fits}
use lib.Ieee.Exact.{HasValue}
use lib.Ieee.Order.{round_mono}
use Rattle.depth_laws.proofs.Clear.{left_zero}
use Rattle.bank.proofs.Bounds.{le_either}
use Rattle.laws.proofs.Both.{both}
use Rattle.float.specs.Floats.{plus, f0, f1}
use Rattle.float.proofs.Classes.{clash}
use Rattle.float.proofs.Ranges.{signed_no_nan, signed_low, signed_high}
use Rattle.switching.proofs.Stalls.{UpTo, zero_up_to, sum_up_to}
use Rattle.chains.specs.Tests.{all_of, is_survival}
use Rattle.chains.specs.Expected.{add_running, sums_with, expected_over, are_chains}
use Rattle.goodput_laws.proofs.Survivals.{negative_zero}
use Rattle.goodput_laws.proofs.Falling.{exact}
use Rattle.goodput_laws.proofs.Bounds.{AllUpTo, running_up_to, survival_added, up_to_more, all_zeros}

-- ---- finite floats with a clear sign bit, of which the first is at most the second
abbrev pub AtMost : Float → Float → Type 0
AtMost nan y = ⊥
AtMost (inf s) y = ⊥
AtMost (fin true m e) y = ⊥
AtMost (fin false m e) nan = ⊥
AtMost (fin false m e) (inf s) = ⊥
AtMost (fin false m e) (fin true n d) = ⊥
AtMost (fin false m e) (fin false n d) = m * up e * down d ≤ n * up d * down e

most_of : (x y : Float) (p q : ℕ) → UpTo p x → UpTo q y → T (le x y) → AtMost x y
unfolding le lt eq
most_of nan y p q h k t = absurd h
most_of (inf s) y p q h k t = absurd h
most_of (fin true m e) y p q h k t = absurd h
most_of (fin false m e) nan p q h k t = absurd k
most_of (fin false m e) (inf s) p q h k t = absurd k
most_of (fin false m e) (fin true n d) p q h k t = absurd k
most_of (fin false m e) (fin false n d) p q h k t = le_either (m * up e * down d) (n * up d * down e) t

-- ---- addition keeps the order
crossed : (x y u v E D F G : ℕ) → x * F ≤ u * E → y * G ≤ v * D → (x * D + y * E) * (F * G) ≤ (u * G + v * F) * (E * D)
crossed x y u v E D F G h k =
    let a : x * F * (D * G) ≤ u * E * (D * G) = mul-le-mul_right (D * G) h in
    let b : y * G * (E * F) ≤ v * D * (E * F) = mul-le-mul_right (E * F) k in
    let c : x * D * (F * G) ≡ x * F * (D * G) = simp (mul_assoc, mul_left_comm) in
    let d : y * E * (F * G) ≡ y * G * (E * F) = simp (mul_assoc, mul_left_comm, mul_comm) in
    let e : u * G * (E * D) ≡ u * E * (D * G) = simp (mul_assoc, mul_left_comm, mul_comm) in
    let f : v * F * (E * D) ≡ v * D * (E * F) = simp (mul_assoc, mul_left_comm, mul_comm) in
    let l : (x * D + y * E) * (F * G) ≡ x * D * (F * G) + y * E * (F * G) = add-mul (x * D) (y * E) (F * G) in
    let r : (u * G + v * F) * (E * D) ≡ u * G * (E * D) + v * F * (E * D) = add-mul (u * G) (v * F) (E * D) in
    omega arith

add_order : (a a' b b' : Float) (p q : ℕ) → AtMost a a' → AtMost b b' → UpTo p (plus a b) → UpTo q (plus a' b') → AtMost (plus a b) (plus a' b')
unfolding add sum
add_order nan a' b b' p q h k u v = absurd h
add_order (inf s) a' b b' p q h k u v = absurd h
add_order (fin true m e) a' b b' p q h k u v = absurd h
add_order (fin false m e) nan b b' p q h k u v = absurd h
add_order (fin false m e) (inf s) b b' p q h k u v = absurd h
add_order (fin false m e) (fin true n d) b b' p q h k u v = absurd h
add_order (fin false m e) (fin false n d) nan b' p q h k u v = absurd k
add_order (fin false m e) (fin false n d) (inf s) b' p q h k u v = absurd k
add_order (fin false m e) (fin false n d) (fin true i f) b' p q h k u v = absurd k
add_order (fin false m e) (fin false n d) (fin false i f) nan p q h k u v = absurd k
add_order (fin false m e) (fin false n d) (fin false i f) (inf s) p q h k u v = absurd k
add_order (fin false m e) (fin false n d) (fin false i f) (fin true j g) p q h k u v = absurd k
add_order (fin false m e) (fin false n d) (fin false i f) (fin false j g) p q h k u v =
    most_of _ _ p q u v
    (round_mono binary64 (m * up e * down f + i * up f * down e) (down e * down f) (n * up d * down g + j * up g * down d) (down d * down g)
    (mul-pos (down_pos e) (down_pos f)) (mul-pos (down_pos d) (down_pos g)) (crossed (m * up e) (i * up f) (n * up d) (j * up g) (down e) (down f) (down d) (down g) h k))

-- ---- a running sum does not fall
over_held : (m : ℕ) (e : ℤ) (R r : Float) (q : ℕ) → HasValue R false (m * up e) (down e) → UpTo q r → T (le R r) → AtMost (fin false m e) r
unfolding le lt eq
over_held m e nan r q v u t = absurd v
over_held m e (inf s) r q v u t = absurd v
over_held m e (fin true n g) r q v u t = clash (sym v.0)
over_held m e (fin false n g) nan q v u t = absurd u
over_held m e (fin false n g) (inf s) q v u t = absurd u
over_held m e (fin false n g) (fin true p d) q v u t = absurd u
over_held m e (fin false n g) (fin false p d) q v u t =
    let k : n * up g * down d ≤ p * up d * down g = le_either (n * up g * down d) (p * up d * down g) t in
    let l : m * up e * down d * down g ≤ p * up d * down e * down g =
    le_trans (le_of_eq (mul_right_comm (m * up e) (down d) (down g) ∙ ap (λ (z : ℕ). z * down d) (sym v.1) ∙ mul_right_comm (n * up g) (down e) (down d)))
    (le_trans (mul-le-mul_right (down e) k) (le_of_eq (mul_right_comm (p * up d) (down g) (down e)))) in
    le_of_mul-le-mul_right l (down_pos g)

zero_least : (e : ℤ) (r : Float) (q : ℕ) → UpTo q r → AtMost (fin false 0 e) r
zero_least e nan q u = absurd u
zero_least e (inf s) q u = absurd u
zero_least e (fin true p d) q u = absurd u
zero_least e (fin false p d) q u = le_trans (le_of_eq (left_zero (0 * up e) (down d) (zero-mul (up e)))) (omega arith)

more : (s y E D : ℕ) → s * (E * D) ≤ (s * D + y * E) * E
more s y E D =
    let a : (s * D + y * E) * E ≡ s * D * E + y * E * E = add-mul (s * D) (y * E) E in
    let b : s * (E * D) ≡ s * D * E = simp (mul_assoc, mul_comm) in
    omega arith

same : (s E D : ℕ) → s * (E * D) ≤ (s * D - 0) * E
same s E D =
    let b : s * (E * D) ≡ s * D * E = simp (mul_assoc, mul_comm) in
    let c : s * D - 0 ≡ s * D = omega arith in
    le_of_eq (b ∙ ap (λ (z : ℕ). z * E) (sym c))

taken_none : (m : ℕ) (e : ℤ) (A B C q : ℕ) → T (fits binary64 (fin false (suc m) e)) → 0 < C → B ≡ 0 → suc m * up e * C ≤ (A - 0) * down e → UpTo q (cond (ltb A B) (round binary64 true (B - A) C) (round binary64 false (A - B) C))
    → AtMost (fin false (suc m) e) (cond (ltb A B) (round binary64 true (B - A) C) (round binary64 false (A - B) C))
taken_none m e A B C q f c z h u =
    let k = le-ltb A 0 (omega arith) in
    rw (z, k)
    (over_held (suc m) e (round binary64 false (suc m * up e) (down e)) (round binary64 false (A - 0) C) q (exact binary64 m e f) (rw (z, k) at u)
    (round_mono binary64 (suc m * up e) (down e) (A - 0) C (down_pos e) c h))

minus : (m : ℕ) (e : ℤ) (n : ℕ) (d : ℤ) (q : ℕ) → T (fits binary64 (fin false (suc m) e)) → n * up d ≡ 0 → UpTo q (plus (fin false (suc m) e) (fin true n d)) → AtMost (fin false (suc m) e) (plus (fin false (suc m) e) (fin true n d))
unfolding add sum
minus m e n d q f z w =
    taken_none m e (suc m * up e * down d) (n * up d * down e) (down e * down d) q f (mul-pos (down_pos e) (down_pos d)) (left_zero (n * up d) (down e) z) (same (suc m * up e) (down e) (down d)) w

plain : (m : ℕ) (e : ℤ) (n : ℕ) (d : ℤ) (q : ℕ) → T (fits binary64 (fin false (suc m) e)) → UpTo q (plus (fin false (suc m) e) (fin false n d)) → AtMost (fin false (suc m) e) (plus (fin false (suc m) e) (fin false n d))
unfolding add sum
plain m e n d q f w =
    over_held (suc m) e (round binary64 false (suc m * up e) (down e)) _ q (exact binary64 m e f) w
    (round_mono binary64 (suc m * up e) (down e) (suc m * up e * down d + n * up d * down e) (down e * down d) (down_pos e) (mul-pos (down_pos e) (down_pos d)) (more (suc m * up e) (n * up d) (down e) (down d)))

sum_rises : (acc x : Float) (p q : ℕ) → T (fits binary64 acc) → UpTo p acc → is_nan x ≡ false → lt x f0 ≡ false → lt f1 x ≡ false → UpTo q (plus acc x) → AtMost acc (plus acc x)
unfolding is_nan lt of_bits
sum_rises acc nan p q f h o l u w = clash (sym o)
sum_rises acc (inf true) p q f h o l u w = clash (sym l)
sum_rises acc (inf false) p q f h o l u w = clash (sym u)
sum_rises nan (fin t n d) p q f h o l u w = absurd h
sum_rises (inf s) (fin t n d) p q f h o l u w = absurd h
sum_rises (fin true m e) (fin t n d) p q f h o l u w = absurd h
sum_rises (fin false zero e) (fin t n d) p q f h o l u w = zero_least e (plus (fin false 0 e) (fin t n d)) q w
sum_rises (fin false (suc m) e) (fin true n d) p q f h o l u w = minus m e n d q f (negative_zero n d l) w
sum_rises (fin false (suc m) e) (fin false n d) p q f h o l u w = plain m e n d q f w

-- ---- the first k sums, from the one before them on
abbrev pub Rises : ℕ → Float → List Float → Type 0
Rises zero p xs = Unit
Rises (suc k) p [] = Unit
Rises (suc k) p (x ∷ xs) = AtMost p x × Rises k x xs

running_rises : (k b d : ℕ) (p acc : Float) (chain sums : List Float) → T (fits binary64 acc) → UpTo d acc → UpTo b p → all_of is_survival chain ≡ true → k ≤ length chain → d + length chain ≤ 64 → b + 64 < 2 ^ 53 → AllUpTo b sums
    → Rises k p sums → Rises k (plus p acc) (add_running acc chain sums)
unfolding add_running all_of
running_rises zero b d p acc chain sums f a u c l n s h r = tt
running_rises (suc k) b d p acc [] sums f a u c l n s h r = absurd (let w : ⊥ = omega arith in w)
running_rises (suc k) b d p acc (x ∷ chain) [] f a u c l n s h r = tt
running_rises (suc k) b d p acc (x ∷ chain) (e ∷ sums) f a u c l n s h r =
    let v = both (is_survival x) (all_of is_survival chain) c in
    let o = signed_no_nan f0 f1 x v.0 in
    let low = signed_low f0 f1 x v.0 in
    let high = signed_high f0 f1 x v.0 in
    let next : UpTo (d + 1) (plus acc x) = survival_added d acc x (omega arith) a o low high in
    let older : UpTo (b + 64) (plus p acc) = sum_up_to b 64 p acc s u (up_to_more d 64 acc (omega arith) a) in
    let newer : UpTo (b + 64) (plus e (plus acc x)) = sum_up_to b 64 e (plus acc x) s h.0 (up_to_more (d + 1) 64 (plus acc x) (omega arith) next) in (
      add_order p e acc (plus acc x) (b + 64) (b + 64) r.0 (sum_rises acc x d (d + 1) f a o low high next) older newer,
      running_rises k b (d + 1) e (plus acc x) chain sums (add-fits binary64 acc x) next h.0 v.1 (omega arith) (omega arith) s h.1 r.1,
    )

-- ---- all the chains
nothing_and_nothing : plus f0 f0 ≡ f0
unfolding add sum round of_bits
nothing_and_nothing = refl

zero_fits : T (fits binary64 f0)
unfolding fits of_bits
zero_fits = tt

-- the sums behind that of depth 0, which stays 0.0
rest_of : (gamma : ℕ) (lengths : List ℕ) (slots rest : List Float) (b : ℕ) → are_chains gamma lengths slots ≡ true → all_of (leb gamma) lengths ≡ true → gamma ≤ 64 → length lengths * 64 ≤ length slots
    → b + 64 * length lengths < 2 ^ 53 → AllUpTo b rest → Rises gamma f0 rest → Rises gamma f0 (drop 1 (sums_with gamma lengths slots (f0 ∷ rest)))
unfolding sums_with are_chains all_of
rest_of gamma [] slots rest b c g low long s h r = r
rest_of gamma (l ∷ ls) slots rest b c g low long s h r =
    let u = both (leb l 64 && all_of is_survival (take (min gamma l) slots)) (are_chains gamma ls (drop 64 slots)) c in
    let v = both (leb l 64) (all_of is_survival (take (min gamma l) slots)) u.0 in
    let w = both (leb gamma l) (all_of (leb gamma) ls) g in
    let reach : gamma ≤ l = leb-true gamma l w.0 in
    let chain = take (min gamma l) slots in
    let all : length chain ≡ gamma = length-take (min gamma l) slots ∙ omega arith in
    let step : Rises gamma (plus f0 f0) (add_running f0 chain rest) = running_rises gamma b 0 f0 f0 chain rest zero_fits zero_up_to (up_to_more 0 b f0 (omega arith) zero_up_to) v.1 (omega arith) (omega arith) (omega arith) h r in
    rest_of gamma ls (drop 64 slots) (add_running f0 chain rest) (b + 64) u.1 w.1 low (omega (arith, length-drop 64 slots)) (omega arith)
    (running_up_to b 0 f0 chain rest zero_up_to v.1 (omega arith) (omega arith) h)
    (subst (λ (p : Float). Rises gamma p (add_running f0 chain rest)) nothing_and_nothing step)

zero_zero : AtMost f0 f0
unfolding of_bits
zero_zero = omega arith

zeros_rise : (k n : ℕ) → Rises k f0 (replicate n f0)
zeros_rise zero n = tt
zeros_rise (suc k) zero = tt
zeros_rise (suc k) (suc n) = (zero_zero, zeros_rise k n)

-- the expected values of depths 0 to gamma, of chains that all reach gamma
pub expected_rises : (gamma : ℕ) (lengths : List ℕ) (slots : List Float) → are_chains gamma lengths slots ≡ true → all_of (leb gamma) lengths ≡ true → gamma ≤ 64 → length lengths * 64 ≤ length slots → length lengths ≤ 1024
    → Rises gamma f0 (drop 1 (expected_over gamma lengths slots))
expected_rises gamma lengths slots c g low long few = rest_of gamma lengths slots (replicate 64 f0) 0 c g low long (omega arith) (all_zeros 64) (zeros_rise gamma 64)
