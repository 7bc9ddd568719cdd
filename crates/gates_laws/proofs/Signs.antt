-- Where it shows whether a sum starts from zero or from minus zero: only while every term is minus zero. Assumes nothing.
use mathlib.Core.Path.{◌≡◌, refl, sym, ap, ◌∙◌}
use mathlib.Core.Logic.{◌⊎◌, inl, inr}
use mathlib.Core.Bool.{Bool, true, false, ◌&&◌, cond}
use mathlib.Core.List.{List, [], ◌∷◌}
use Prim.Native.Nat.{ℕ, ◌+◌, ◌-◌, ◌*◌, ◌≤◌, ◌<◌}
use native.Mathlib.Nat.{zero-mul, zero-lt-suc}
use native.Mathlib.Omega.{arith}
use borrow.Author.Tests.{ltb-false, le-ltb}
use lib.Dec.{ltb}
use lib.Ieee.{Float, nan, inf, fin, Format, binary64, up, down, round, sum, add, lt, is_nan, of_bits}
use lib.Ieee.Fits.{down_pos}
use lib.Ieee.Scale.{round_same}
use Rattle.laws.proofs.Both.{both}
use Rattle.float.specs.Floats.{plus, f0, f1, is_clear}
use Rattle.float.proofs.Classes.{clash}
use Rattle.float.proofs.Ranges.{signed_low, signed_no_nan}
use Rattle.chains.specs.Tests.{all_of, is_survival}
use Rattle.depth_laws.proofs.Clear.{no_sign, clear_no_sign, add_clear, add_survival}
use Rattle.trim.specs.Ragged.{sum_from}
use Rattle.gates_laws.specs.Starts.{minus_zero}

-- ---- one sum, of magnitudes a and b
zero_first : (f : Format) (a b c : ℕ) → a ≡ 0 → sum f true a false b c ≡ sum f false a false b c
unfolding sum
zero_first f a b c e = go (ltb a b) refl
  where
    go : (t : Bool) → ltb a b ≡ t → cond t (round f false (b - a) c) (round f (true && ltb b a) (a - b) c) ≡ round f false (a + b) c
    go true p = let z : b - a ≡ a + b = omega arith in ap (λ (n : ℕ). round f false n c) z
    go false p =
        let l : b ≤ a = ltb-false a b p in
        let z : a - b ≡ a + b = omega arith in
        ap (λ (s : Bool). round f (true && s) (a - b) c) (le-ltb b a (omega arith)) ∙ ap (λ (n : ℕ). round f false n c) z

zero_second : (f : Format) (a b c : ℕ) → b ≡ 0 → sum f false a true b c ≡ sum f false a false b c
unfolding sum
zero_second f a b c e =
    let z : a - b ≡ a + b = omega arith in
    ap (λ (t : Bool). cond t (round f true (b - a) c) (round f false (a - b) c)) (le-ltb a b (omega arith)) ∙ ap (λ (n : ℕ). round f false n c) z

nothing : (s : Bool) (a c : ℕ) → a ≡ 0 → 0 < c → round binary64 s a c ≡ round binary64 s 0 1
nothing s a c e h = round_same binary64 s a c 0 1 h (zero-lt-suc 0) (omega arith)

-- ---- in front of what is not minus zero, and behind what is not
pub plus_left : (x : Float) → no_sign x ≡ true → plus minus_zero x ≡ plus f0 x
unfolding add no_sign of_bits
plus_left nan h = refl
plus_left (inf s) h = refl
plus_left (fin true n d) h = clash h
plus_left (fin false n d) h = zero_first binary64 (0 * 1 * down d) (n * up d * 1) (1 * down d) (zero-mul (down d))

pub plus_right : (x : Float) → is_clear x ≡ true → plus x minus_zero ≡ plus x f0
unfolding add is_clear of_bits
plus_right nan h = refl
plus_right (inf s) h = refl
plus_right (fin true m e) h = clash h
plus_right (fin false m e) h = zero_second binary64 (m * up e * 1) (0 * 1 * down e) (down e * 1) (zero-mul (down e))

-- a survival with a sign is minus zero
none_below : (u v : ℕ) → ltb 0 (u * 1 + 0 * 1 * v) ≡ false → u * 1 ≡ 0
none_below u v h = let k : u * 1 + 0 * 1 * v ≤ 0 = ltb-false 0 (u * 1 + 0 * 1 * v) h in omega arith

minus_zero_added : (x : Float) → no_sign x ≡ false → is_nan x ≡ false → lt x f0 ≡ false → (plus minus_zero x ≡ minus_zero) × (plus f0 x ≡ f0)
unfolding add sum no_sign is_nan lt of_bits round
minus_zero_added nan n o l = clash (sym o)
minus_zero_added (inf true) n o l = clash (sym l)
minus_zero_added (inf false) n o l = clash (sym n)
minus_zero_added (fin false m e) n o l = clash (sym n)
minus_zero_added (fin true m e) n o l =
    let z = none_below (m * up e) (down e) l in
    let c : 0 < 1 * down e = omega (arith, down_pos e) in
    let a : 0 * 1 * down e ≡ 0 = zero-mul (down e) in
    (nothing true (0 * 1 * down e + m * up e * 1) (1 * down e) (omega arith) c, zero_second binary64 (0 * 1 * down e) (m * up e * 1) (1 * down e) z ∙ nothing false (0 * 1 * down e + m * up e * 1) (1 * down e) (omega arith) c)

-- ---- a sum that started from minus zero beside one that started from zero
pub record Alike (a b : Float) : Type 0 where
  pub clear : is_clear b ≡ true
  pub same : (a ≡ b) ⊎ ((a ≡ minus_zero) × (b ≡ f0))

f0_clear : is_clear f0 ≡ true
unfolding is_clear of_bits
f0_clear = refl

pub zeros : Alike minus_zero f0
zeros = record { clear = f0_clear; same = inr (refl, refl) }

-- one survival more
with_survival : (a b x : Float) → is_survival x ≡ true → Alike a b → Alike (plus a x) (plus b x)
with_survival a b x h at = record {
  clear = add_survival b x at.clear (signed_low f0 f1 x h) (signed_no_nan f0 f1 x h);
  same = go (no_sign x) refl at.same;
}
  where
    go : (n : Bool) → no_sign x ≡ n → ((a ≡ b) ⊎ ((a ≡ minus_zero) × (b ≡ f0))) → (plus a x ≡ plus b x) ⊎ ((plus a x ≡ minus_zero) × (plus b x ≡ f0))
    go n e (inl p) = inl (ap (λ (v : Float). plus v x) p)
    go true e (inr p) = inl (ap (λ (v : Float). plus v x) p.0 ∙ plus_left x e ∙ ap (λ (v : Float). plus v x) (sym p.1))
    go false e (inr p) =
        let q = minus_zero_added x e (signed_no_nan f0 f1 x h) (signed_low f0 f1 x h) in
        inr (ap (λ (v : Float). plus v x) p.0 ∙ q.0, ap (λ (v : Float). plus v x) p.1 ∙ q.1)

-- one sum more
zeros_added : (plus minus_zero minus_zero ≡ minus_zero) × (plus f0 f0 ≡ f0)
unfolding add sum round of_bits
zeros_added = (refl, refl)

pub with_sum : (a b x y : Float) → Alike a b → Alike x y → Alike (plus a x) (plus b y)
with_sum a b x y at of = record { clear = add_clear binary64 b y at.clear of.clear; same = go at.same of.same }
  where
    go : ((a ≡ b) ⊎ ((a ≡ minus_zero) × (b ≡ f0))) → ((x ≡ y) ⊎ ((x ≡ minus_zero) × (y ≡ f0))) → (plus a x ≡ plus b y) ⊎ ((plus a x ≡ minus_zero) × (plus b y ≡ f0))
    go (inl p) (inl q) = inl (ap (λ (v : Float). plus v x) p ∙ ap (plus b) q)
    go (inl p) (inr q) = inl (ap (λ (v : Float). plus v x) p ∙ ap (plus b) q.0 ∙ plus_right b at.clear ∙ ap (plus b) (sym q.1))
    go (inr p) (inl q) = inl (ap (λ (v : Float). plus v x) p.0 ∙ ap (plus minus_zero) q ∙ plus_left y (clear_no_sign y of.clear) ∙ ap (λ (v : Float). plus v y) (sym p.1))
    go (inr p) (inr q) =
        inr (ap (λ (v : Float). plus v x) p.0 ∙ ap (plus minus_zero) q.0 ∙ zeros_added.0, ap (λ (v : Float). plus v y) p.1 ∙ ap (plus f0) q.1 ∙ zeros_added.1)

-- a whole chain
pub with_chain : (chain : List Float) (a b : Float) → all_of is_survival chain ≡ true → Alike a b → Alike (sum_from a chain) (sum_from b chain)
unfolding sum_from all_of
with_chain [] a b h at = at
with_chain (x ∷ chain) a b h at =
    let u = both (is_survival x) (all_of is_survival chain) h in
    with_chain chain (plus a x) (plus b x) u.1 (with_survival a b x u.0 at)
