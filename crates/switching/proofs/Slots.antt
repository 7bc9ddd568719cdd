-- The candidates in their 65 slots: what the loop keeps, a turn, and its end. Assumes nothing.
use mathlib.Core.Path.{◌≡◌, refl, sym, ◌∙◌, ap}
use mathlib.Core.Bool.{Bool, true, false, cond}
use mathlib.Core.List.{List, [], ◌∷◌, ◌++◌, append_assoc, append-nil}
use Prim.Native.Nat.{ℕ, suc, ◌+◌, ◌-◌, ◌≤◌, ◌<◌}
use native.Mathlib.Numerals.{add-one}
use native.Mathlib.Omega.{arith}
use lib.ListN.{length, take, drop, replicate, set, get_or, length-set, length-take, drop_of_length-le, take-append-drop}
use lib.Seq.{take-suc-set, drop-cons, drop-set-lt, drop-drop}
use lib.Ieee.{Float, nan}
use Rattle.float.specs.Floats.{is_finite}
use Rattle.switching.specs.Deciding.{finite_from, candidates_of, with_depth, candidate_slots}
use Rattle.switching.specs.declared.inner.Candidates.{Candidates}

-- what is found, followed by what is left to find, is the whole; the slots past it hold 0
pub record Found (curve : List Float) (c : Candidates) (g : ℕ) : Type 0 where
  pub low : g ≤ length curve
  pub in_order : c.len ≤ g
  pub long : length c.list ≡ 65
  pub blanks : drop c.len c.list ≡ replicate (65 - c.len) 0
  pub done : take c.len c.list ++ finite_from g (drop g curve) ≡ candidates_of curve

-- a store at d, the first blank slot, leaves the slots past it blank
blanks_past : (buf : List ℕ) (d v : ℕ) → d < 65 → drop d buf ≡ replicate (65 - d) 0 → drop (suc d) (set buf d v) ≡ replicate (65 - suc d) 0
blanks_past buf d v h e =
    let m : 65 - d ≡ suc (65 - suc d) = omega arith in
    drop-set-lt (suc d) buf d v (omega arith) ∙ sym (rw (add-one d) at (drop-drop 1 d buf)) ∙ ap (drop 1) (rw m at e)

-- a depth of finite price, and one of none
taken : (l : List Float) (g : ℕ) → g < length l → is_finite (get_or l g nan) ≡ true → finite_from g (drop g l) ≡ g ∷ finite_from (suc g) (drop (suc g) l)
unfolding finite_from
taken l g h f = rw (drop-cons l g nan, f)

skipped : (l : List Float) (g : ℕ) → g < length l → is_finite (get_or l g nan) ≡ false → finite_from g (drop g l) ≡ finite_from (suc g) (drop (suc g) l)
unfolding finite_from
skipped l g h f = rw (drop-cons l g nan, f)

pub slots_start : (curve : List Float) → Found curve (record { list = replicate 65 0; len = 0 }) 0
slots_start curve = record { low = omega arith; in_order = omega arith; long = refl; blanks = refl; done = refl }

pub slots_turn : (curve : List Float) (c next : Candidates) (g : ℕ) → length curve ≤ 65 → g < length curve → next ≡ with_depth c g (get_or curve g nan) → Found curve c g → Found curve next (g + 1)
slots_turn curve c next g small h e inv = rw e (go (is_finite (get_or curve g nan)) refl)
  where
    go : (b : Bool) → is_finite (get_or curve g nan) ≡ b → Found curve (cond b (record { list = set c.list c.len g; len = c.len + 1 }) c) (g + 1)
    go true f =
        record {
          low = omega arith;
          in_order = omega (arith, inv.in_order);
          long = length-set c.list c.len g ∙ inv.long;
          blanks = rw (add-one c.len) (blanks_past c.list c.len g (omega (arith, inv.in_order)) inv.blanks);
          done = rw (add-one c.len, add-one g, take-suc-set c.list c.len g (omega (arith, inv.in_order, inv.long)), append_assoc, ← taken curve g h f) inv.done;
        }
    go false f =
        record {
          low = omega arith;
          in_order = omega (arith, inv.in_order);
          long = inv.long;
          blanks = inv.blanks;
          done = rw (add-one g, ← skipped curve g h f) inv.done;
        }

whole : (l : List ℕ) (c : Candidates) → length l ≡ c.len → c.list ≡ l ++ replicate (65 - c.len) 0
    → ◌≡◌ {A = Candidates} c (record { list = l ++ replicate (65 - length l) 0; len = length l })
whole l c e p =
    ap {B = Candidates} (λ (x : List ℕ). record { list = x; len = c.len }) p
    ∙ ap {B = Candidates} (λ (n : ℕ). record { list = l ++ replicate (65 - n) 0; len = n }) (sym e)

pub slots_end : (curve : List Float) (c : Candidates) (g : ℕ) → length curve ≤ 65 → length curve ≤ g → Found curve c g → c ≡ candidate_slots curve
unfolding finite_from
slots_end curve c g small h inv =
    let front : take c.len c.list ≡ candidates_of curve = simp append-nil at (rw (drop_of_length-le curve h) at inv.done) in
    let sized : length (candidates_of curve) ≡ c.len = sym (ap length front) ∙ simp length-take (omega (arith, inv.in_order, inv.long, inv.low)) in
    let all : c.list ≡ candidates_of curve ++ replicate (65 - c.len) 0 = sym (take-append-drop c.len c.list) ∙ rw (front, inv.blanks) in
    whole (candidates_of curve) c sized all

-- ---- the slots' front is the candidates, of which there are at most as many as prices
pub candidates_most : (g : ℕ) (curve : List Float) → length (finite_from g curve) ≤ length curve
unfolding finite_from
candidates_most g [] = omega arith
candidates_most g (c ∷ cs) = go (is_finite c) (candidates_most (suc g) cs)
  where
    go : (b : Bool) → length (finite_from (suc g) cs) ≤ length cs → length (cond b (g ∷ finite_from (suc g) cs) (finite_from (suc g) cs)) ≤ suc (length cs)
    go true h = omega arith
    go false h = omega arith

take_front : (l m : List ℕ) → take (length l) (l ++ m) ≡ l
take_front [] m = refl
take_front (x ∷ l) m = ap (λ (t : List ℕ). x ∷ t) (take_front l m)

front_fits : (l m : List ℕ) → length l ≤ length (l ++ m)
front_fits [] m = omega arith
front_fits (x ∷ l) m = let h = front_fits l m in omega arith

module _ (curve : List Float) (c : Candidates) (e : c ≡ candidate_slots curve) where
  pub slots_front : take c.len c.list ≡ candidates_of curve
  slots_front = ap (λ (s : Candidates). take s.len s.list) e ∙ take_front (candidates_of curve) _

  pub slots_len : c.len ≤ length curve
  slots_len = rw e (candidates_most 0 curve)

  pub slots_room : c.len ≤ length c.list
  slots_room = rw e (front_fits (candidates_of curve) _)

  pub slots_taken : c.len ≡ length (take c.len c.list)
  slots_taken = ap (λ (s : Candidates). s.len) e ∙ sym (ap length slots_front)
