-- What the verify price is, whatever the number of tokens: on a curve without holes it is finite, and with holes the two entries around the mean width say
-- exactly where it is finite, infinite or no number. Assumes nothing.
use mathlib.Core.Path.{◌≡◌, refl, sym, ap, ◌∙◌}
use mathlib.Core.Logic.{◌⊎◌, inl, inr, ⊎_elim}
use mathlib.Core.Bool.{Bool, true, false, not, ◌||◌, cond}
use mathlib.Core.List.{List}
use Prim.Native.Nat.{ℕ, zero, suc, ◌+◌, ◌-◌, ◌*◌, ◌^◌, ◌≤◌, ◌<◌}
use native.Mathlib.Nat.{mul-one, mul-pos, mul_right_comm, le_of_mul-le-mul_right, le_trans, le_of_eq, zero-lt-suc}
use native.Mathlib.Omega.{arith}
use borrow.Author.Tests.{ltb-false, ltb-true, le-ltb, ne_eqb}
use lib.Dec.{ltb}
use lib.ListN.{length, get_or}
use lib.Ieee.{Float, nan, inf, fin, up, down, of_bits, neg, add, sub, mul, lt, eq, is_nan}
use lib.Ieee.Fits.{down_pos}
use lib.Ieee.Exact.{HasValue}
use Rattle.float.specs.Floats.{plus, less, times, over, whole, f0, f1, infinity, max_of, is_finite}
use Rattle.float.specs.Range.{in_range, in_signed_range}
use Rattle.float.proofs.Classes.{clash, is_nan_lem, finite_no_nan}
use Rattle.float.proofs.Order.{nan_not_above}
use Rattle.float.proofs.Ranges.{range_no_nan, range_low, range_high, or_says, signed_no_nan, signed_low, signed_high, in_signed}
use Rattle.float.proofs.Clamped.{clamp_low, clamp_high}
use Rattle.speculative.specs.Drafter.{billion}
use Rattle.chains.specs.Tests.{is_price}
use Rattle.verify_prices.specs.Price.{mean_width, verify_cost}
use Rattle.verify_prices.proofs.Counted.{whole_value}
use Rattle.verdict.specs.Decision.{tiny, rate_of, Sums, passed, next_seconds, slot_at}
use Rattle.gates_laws.specs.Holes.{finite, class_of, is_hole, depth_below, is_behind, entry_below, entry_above, class_at}
use Rattle.gates_laws.specs.Entries.{most_price, is_entry, Curve}
use Rattle.gates_laws.proofs.Sizes.{Sized, sized_finite, sized_more, whole_sized, sized_less}
use Rattle.gates_laws.proofs.Powers.{Within, within_more, within_plus, within_less, within_times, not_above}

-- ---- what lies from 0 to a whole number is no larger
zero_sum : (a b : ℕ) → ltb 0 (a + b) ≡ false → a ≡ 0
zero_sum a b h = let l = ltb-false 0 (a + b) h in omega arith

zero_product : (m u d : ℕ) → 0 < d → m * u * d ≡ 0 → m * u ≡ 0
zero_product m u d h e = go (m * u) e
  where
    go : (x : ℕ) → x * d ≡ 0 → x ≡ 0
    go zero p = refl
    go (suc x) p = absurd (let l : 0 < suc x * d = mul-pos (zero-lt-suc x) h in let w : ⊥ = omega arith in w)

pub between_sized : (x y : Float) (A : ℕ) → HasValue y false A 1 → is_nan x ≡ false → lt x f0 ≡ false → lt y x ≡ false → Sized A x
unfolding lt is_nan of_bits
between_sized nan y A v n l h = clash (sym n)
between_sized (inf true) y A v n l h = clash (sym l)
between_sized (inf false) nan A v n l h = absurd v
between_sized (inf false) (inf s) A v n l h = absurd v
between_sized (inf false) (fin s k d) A v n l h = clash (sym h)
between_sized (fin true m e) y A v n l h =
    let z : m * up e ≡ 0 = zero_product m (up e) 1 (zero-lt-suc 0) (zero_sum (m * up e * 1) (0 * down e) l) in
    omega arith
between_sized (fin false m e) nan A v n l h = absurd v
between_sized (fin false m e) (inf s) A v n l h = absurd v
between_sized (fin false m e) (fin true k d) A v n l h = let w = v.0 in clash (sym w)
between_sized (fin false m e) (fin false k d) A v n l h =
    let p : m * up e * down d ≤ k * up d * down e = ltb-false (k * up d * down e) (m * up e * down d) h in
    let q : k * up d ≡ A * down d = sym (mul-one (k * up d)) ∙ v.1 in
    let r : k * up d * down e ≡ A * down e * down d = ap (λ (z : ℕ). z * down e) q ∙ mul_right_comm A (down d) (down e) in
    le_of_mul-le-mul_right (le_trans p (le_of_eq r)) (down_pos d)

-- ---- the mean width is a NaN, or at most gamma
held_not_below : (x : Float) (n : ℕ) → HasValue x false n 1 → lt x f0 ≡ false
unfolding lt of_bits
held_not_below nan n v = refl
held_not_below (inf s) n v = absurd v
held_not_below (fin true m e) n v = let w = v.0 in clash (sym w)
held_not_below (fin false m e) n v = le-ltb (m * up e * 1) (0 * down e) (omega arith)

pub not_below_zero : (n : ℕ) → n < 2 ^ 53 → lt (whole n) f0 ≡ false
not_below_zero n h = held_not_below (whole n) n (whole_value n h)

pub width_sized : (gamma n : ℕ) (t : Float) → gamma ≤ 64 → is_nan (mean_width gamma n t) ≡ false → Sized gamma (mean_width gamma n t)
width_sized gamma n t h k =
    let x = less (over t (whole n)) f1 in
    between_sized (mean_width gamma n t) (whole gamma) gamma (whole_value gamma (omega arith)) k (clamp_low x f0 (whole gamma) (not_below_zero gamma (omega arith)))
    (clamp_high x f0 (whole gamma))

pub nan_part : (s : ℕ) → lt f0 (less nan (whole s)) ≡ false
unfolding sub add
nan_part s = nan_not_above f0

-- ---- an entry is at most 2^57, or a hole
abbrev pub Entry : Float → Type 0
Entry c = Within 57 c ⊎ (c ≡ inf false)

most_held : HasValue most_price false (2 ^ 57) 1
unfolding of_bits
most_held = (refl, refl)

equal_infinity : (c : Float) → eq c infinity ≡ true → c ≡ inf false
unfolding eq of_bits
equal_infinity nan h = clash h
equal_infinity (inf true) h = clash h
equal_infinity (inf false) h = refl
equal_infinity (fin s m e) h = clash h

pub entry_of : (c : Float) → is_entry c ≡ true → Entry c
unfolding of_bits
entry_of c h = go (in_signed_range f0 most_price c) refl h
  where
    go : (b : Bool) → in_signed_range f0 most_price c ≡ b → (b || eq c infinity) ≡ true → Entry c
    go true r k = inl (between_sized c most_price (2 ^ 57) most_held (signed_no_nan f0 most_price c r) (signed_low f0 most_price c r) (signed_high f0 most_price c r))
    go false r k = inr (equal_infinity c k)

-- ---- what is such an entry
pub infinite_entry : (c : Float) → c ≡ infinity → is_entry c ≡ true
unfolding in_signed_range eq of_bits lt is_nan
infinite_entry c e = ap is_entry e

pub within_entry : (c : Float) → Within 57 c → lt c f0 ≡ false → is_entry c ≡ true
within_entry c h l =
    ap (λ (b : Bool). b || eq c infinity) (in_signed f0 most_price c (finite_no_nan c (sized_finite (2 ^ 57) c h)) l (not_above (2 ^ 57) c most_price most_held h))

-- a judged price of a roofline
billion_held : HasValue billion false 1000000000 1
unfolding of_bits
billion_held = (refl, refl)

pub price_entry : (c : Float) → is_price c ≡ true → is_entry c ≡ true
price_entry c h =
    ⊎_elim
    (λ (r : in_range f0 billion c ≡ true). within_entry c
    (sized_more 1000000000 (2 ^ 57) c (omega arith) (between_sized c billion 1000000000 billion_held (range_no_nan f0 billion c r) (range_low f0 billion c r) (range_high f0 billion c r)))
    (range_low f0 billion c r))
    (λ (e : c ≡ infinity). infinite_entry c e) (or_says f0 billion c h)

sized_class : (A : ℕ) (x : Float) → Sized A x → class_of x ≡ finite
sized_class A nan h = absurd h
sized_class A (inf s) h = absurd h
sized_class A (fin s m e) h = refl

pub no_hole : (c : Float) → Within 57 c → is_hole c ≡ false
no_hole c h = ap not (sized_finite (2 ^ 57) c h)

pub a_hole : (c : Float) → c ≡ inf false → is_hole c ≡ true
unfolding is_finite
a_hole c e = ap is_hole e

-- ---- at a depth
at_depth : (c : Float) (above : Bool) → Entry c → class_of c ≡ class_at false (is_hole c) above
at_depth c above (inl s) = sized_class (2 ^ 57) c s ∙ ap (λ (b : Bool). class_at false b above) (sym (no_hole c s))
at_depth c above (inr e) = ap class_of e ∙ ap (λ (b : Bool). class_at false b above) (sym (a_hole c e))

-- ---- on the way to the next
up_to_hole : (x : Float) → lt f0 x ≡ true → is_finite x ≡ true → times x (inf false) ≡ inf false
unfolding lt is_finite mul of_bits
up_to_hole nan h k = clash h
up_to_hole (inf t) h k = clash k
up_to_hole (fin true m e) h k = clash h
up_to_hole (fin false zero e) h k = let l = ltb-true (0 * down e) (0 * up e * 1) h in absurd (omega arith)
up_to_hole (fin false (suc m) e) h k = let z : suc m ≡ 0 → ⊥ = λ q. omega arith in rw (ne_eqb (suc m) 0 z)

down_from_hole : (x : Float) → lt f0 x ≡ true → is_finite x ≡ true → times x (inf true) ≡ inf true
unfolding lt is_finite mul of_bits
down_from_hole nan h k = clash h
down_from_hole (inf t) h k = clash k
down_from_hole (fin true m e) h k = clash h
down_from_hole (fin false zero e) h k = let l = ltb-true (0 * down e) (0 * up e * 1) h in absurd (omega arith)
down_from_hole (fin false (suc m) e) h k = let z : suc m ≡ 0 → ⊥ = λ q. omega arith in rw (ne_eqb (suc m) 0 z)

rise_to : (c : Float) → is_finite c ≡ true → less (inf false) c ≡ inf false
unfolding is_finite sub add neg
rise_to nan k = clash k
rise_to (inf t) k = clash k
rise_to (fin t m e) k = refl

onto : (c : Float) → is_finite c ≡ true → plus c (inf false) ≡ inf false
unfolding is_finite add
onto nan k = clash k
onto (inf t) k = clash k
onto (fin t m e) k = refl

fall_from : (d : Float) → is_finite d ≡ true → less d (inf false) ≡ inf true
unfolding is_finite sub add neg
fall_from nan k = clash k
fall_from (inf t) k = clash k
fall_from (fin t m e) k = refl

through : (x : Float) → plus (inf false) (times x (less (inf false) (inf false))) ≡ nan
unfolding add sub mul neg
through nan = refl
through (inf t) = refl
through (fin t m e) = refl

back : plus (inf false) (inf true) ≡ nan
unfolding add
back = refl

-- `frac` of the way from c to d
abbrev on_the_way : Float → Float → Float → Float
on_the_way frac c d = plus c (times frac (less d c))

pub way_within : (frac c d : Float) → Within 7 frac → Within 57 c → Within 57 d → Within 66 (on_the_way frac c d)
way_within frac c d s p q =
    let rise = within_less 57 d c (omega arith) q p in
    let way = within_times 7 58 frac (less d c) (omega arith) s rise in
    within_plus 65 c (times frac (less d c)) (omega arith) (within_more 57 65 c (omega arith) p) way

module _ (frac : Float) (h : lt f0 frac ≡ true) (s : Sized 128 frac) where
  part : is_finite frac ≡ true
  part = sized_finite 128 frac s

  pub to_a_hole : (c d : Float) → is_finite c ≡ true → d ≡ inf false → on_the_way frac c d ≡ inf false
  to_a_hole c d k e =
      ap (on_the_way frac c) e ∙ ap (λ (x : Float). plus c (times frac x)) (rise_to c k) ∙ ap (plus c) (up_to_hole frac h part) ∙ onto c k

  pub from_a_hole : (c d : Float) → c ≡ inf false → is_finite d ≡ true → on_the_way frac c d ≡ nan
  from_a_hole c d e k =
      ap (λ (x : Float). on_the_way frac x d) e ∙ ap (λ (x : Float). plus (inf false) (times frac x)) (fall_from d k)
      ∙ ap (plus (inf false)) (down_from_hole frac h part) ∙ back

  pub between_holes : (c d : Float) → c ≡ inf false → d ≡ inf false → on_the_way frac c d ≡ nan
  between_holes c d e g = ap (λ (x : Float). on_the_way frac x d) e ∙ ap (on_the_way frac (inf false)) g ∙ through frac

  behind : (c d : Float) → Entry c → Entry d → class_of (on_the_way frac c d) ≡ class_at true (is_hole c) (is_hole d)
  behind c d (inl p) (inl q) = rw (no_hole c p, no_hole d q) (sized_class (2 ^ 66) (on_the_way frac c d) (way_within frac c d s p q))
  behind c d (inl p) (inr e) = rw (no_hole c p, a_hole d e) (ap class_of (to_a_hole c d (sized_finite (2 ^ 57) c p) e))
  behind c d (inr e) (inl q) = rw (a_hole c e) (ap class_of (from_a_hole c d e (sized_finite (2 ^ 57) d q)))
  behind c d (inr e) (inr g) = rw (a_hole c e) (ap class_of (between_holes c d e g))

-- ---- the price
module _ (curve : List Float) (at : Curve curve) (n : ℕ) (t : Float) where
  -- behind a depth the way is a number, and at most gamma long
  way_sized : is_behind curve n t ≡ true → Sized 128 (less (mean_width (length curve - 1) n t) (whole (depth_below curve n t)))
  way_sized h = go (is_nan (mean_width (length curve - 1) n t)) refl
    where
      go : (b : Bool) → is_nan (mean_width (length curve - 1) n t) ≡ b → Sized 128 (less (mean_width (length curve - 1) n t) (whole (depth_below curve n t)))
      go true e = clash (sym (ap (λ (v : Float). lt f0 (less v (whole (depth_below curve n t)))) (is_nan_lem (mean_width (length curve - 1) n t) e) ∙ nan_part (depth_below curve n t)) ∙ h)
      go false e =
          let l = at.few in
          sized_less 64 64 (mean_width (length curve - 1) n t) (whole (depth_below curve n t)) (omega arith)
          (sized_more (length curve - 1) 64 (mean_width (length curve - 1) n t) (omega arith) (width_sized (length curve - 1) n t (omega arith) e))
          (sized_more (depth_below curve n t) 64 (whole (depth_below curve n t)) (omega arith) (whole_sized (depth_below curve n t) (omega arith)))

  below : Entry (entry_below curve n t)
  below = let l = at.many in entry_of (entry_below curve n t) (at.each (depth_below curve n t) (omega arith))

  above : Entry (entry_above curve n t)
  above = let l = at.many in entry_of (entry_above curve n t) (at.each (depth_below curve n t + 1) (omega arith))

  -- exactly where the price is finite, infinite or no number
  pub price_class : class_of (verify_cost curve n t) ≡ class_at (is_behind curve n t) (is_hole (entry_below curve n t)) (is_hole (entry_above curve n t))
  unfolding verify_cost
  price_class = go (is_behind curve n t) refl
    where
      go : (b : Bool) → is_behind curve n t ≡ b
          → class_of (cond b (on_the_way (less (mean_width (length curve - 1) n t) (whole (depth_below curve n t))) (entry_below curve n t) (entry_above curve n t)) (entry_below curve n t))
          ≡ class_at b (is_hole (entry_below curve n t)) (is_hole (entry_above curve n t))
      go true e = behind (less (mean_width (length curve - 1) n t) (whole (depth_below curve n t))) e (way_sized e) (entry_below curve n t) (entry_above curve n t) below above
      go false e = at_depth (entry_below curve n t) (is_hole (entry_above curve n t)) below

-- ---- no holes
class_finite : (x : Float) → class_of x ≡ finite → is_finite x ≡ true
unfolding is_finite
class_finite nan h = cc
class_finite (inf s) h = cc
class_finite (fin s m e) h = refl

all_finite : (b : Bool) → class_at b false false ≡ finite
all_finite true = refl
all_finite false = refl

pub price_finite :
    (curve : List Float) → Curve curve → ((g : ℕ) → g < length curve → is_finite (get_or curve g nan) ≡ true) → (n : ℕ) (t : Float) → is_finite (verify_cost curve n t) ≡ true
price_finite curve at measured n t =
    let many = at.many in
    let none : (g : ℕ) → g < length curve → is_hole (get_or curve g nan) ≡ false = λ g l. ap not (measured g l) in
    let b : is_hole (entry_below curve n t) ≡ false = none (depth_below curve n t) (omega arith) in
    let a : is_hole (entry_above curve n t) ≡ false = none (depth_below curve n t + 1) (omega arith) in
    class_finite (verify_cost curve n t)
    (price_class curve at n t ∙ ap (λ (x : Bool). class_at (is_behind curve n t) x (is_hole (entry_above curve n t))) b ∙ ap (λ (x : Bool). class_at (is_behind curve n t) false x) a ∙ all_finite (is_behind curve n t))

-- ---- what a gate makes of such a price

-- one that is no number is taken for 1e-12 seconds, whatever the drafter's
pub taken_for_tiny : (expected drafter : Float) → rate_of expected (plus nan drafter) ≡ over expected tiny
unfolding add max_of lt is_nan
taken_for_tiny expected drafter = refl

pub removed_for_tiny : (expected drafter margin : Float) → rate_of expected (less (plus nan drafter) margin) ≡ over expected tiny
unfolding sub add max_of lt is_nan
removed_for_tiny expected drafter margin = refl

-- the block gate passes over a slot whose next price is no number or infinite
pub hole_passed : (price : Float → Float) (a : Sums) (s : Float) → is_finite (next_seconds price a) ≡ false → slot_at price a s ≡ passed
hole_passed price a s h = rw h
