-- Where a walk arrives: at a candidate, between the snapped index and the target's, and without a limit at the target where that is a candidate. The candidates of a curve rise, and are exactly its depths of finite price. Assumes nothing.
use mathlib.Core.Path.{◌≡◌, refl, sym, ap, ◌∙◌}
use mathlib.Core.Bool.{Bool, true, false, ◌&&◌, cond}
use mathlib.Core.List.{List, [], ◌∷◌}
use Prim.Native.Nat.{ℕ, zero, suc, ◌+◌, ◌-◌, ◌≤◌, ◌<◌, min, max}
use native.Mathlib.Nat.{not-suc-le-zero, le_of_suc-le-suc}
use native.Mathlib.Omega.{arith}
use borrow.Author.Tests.{ltb-true, ltb-false}
use lib.Dec.{ltb, eqb}
use lib.ListN.{length, get_or}
use lib.Ieee.{Float, nan}
use Rattle.float.specs.Floats.{is_finite}
use Rattle.float.proofs.Classes.{clash}
use Rattle.switch_settings.specs.declared.MaxStep.{MaxStep}
use Rattle.switch_settings.specs.declared.MaxStep.TheVariants.{Unlimited, AtMost}
use Rattle.width_walk.specs.Walk.{first_at_least, snap_index, target_index, walk_index, walk_candidates, Rising}
use Rattle.switching.specs.Deciding.{finite_from, candidates_of}
use Rattle.width_walk.proofs.Walking.{walk_within}
use Rattle.width_walk.proofs.Found.{rising_low, reaches}

-- ---- the walk arrives at a candidate, and never past the target's index
pub record Arrives (l : List ℕ) (width target w : ℕ) : Type 0 where
  pub index : ℕ
  pub within : index < length l
  pub is : get_or l index 0 ≡ w
  pub low : min (snap_index l width) (target_index l target (snap_index l width)) ≤ index
  pub high : index ≤ max (snap_index l width) (target_index l target (snap_index l width))

between : (at to : ℕ) (step : MaxStep) → (min at to ≤ walk_index at to step) × (walk_index at to step ≤ max at to)
between at to Unlimited = (omega arith, omega arith)
between at to (AtMost d) = go (ltb at to) refl
  where
    go : (b : Bool) → ltb at to ≡ b → (min at to ≤ cond b (min (at + d) to) (max (at - d) to)) × (cond b (min (at + d) to) (max (at - d) to) ≤ max at to)
    go true e = let h = ltb-true at to e in (omega arith, omega arith)
    go false e = let h = ltb-false at to e in (omega arith, omega arith)

-- no more indices than the step allows
pub step_kept : (at to d : ℕ) → (walk_index at to (AtMost d) ≤ at + d) × (at ≤ walk_index at to (AtMost d) + d)
step_kept at to d = go (ltb at to) refl
  where
    go : (b : Bool) → ltb at to ≡ b → (cond b (min (at + d) to) (max (at - d) to) ≤ at + d) × (at ≤ cond b (min (at + d) to) (max (at - d) to) + d)
    go true e = let h = ltb-true at to e in (omega arith, omega arith)
    go false e = let h = ltb-false at to e in (omega arith, omega arith)

snap_within : (l : List ℕ) (width : ℕ) → 0 < length l → snap_index l width < length l
snap_within l width h = omega arith

target_within : (l : List ℕ) (target snap : ℕ) → snap < length l → target_index l target snap < length l
target_within l target snap h = go (ltb (first_at_least l target) (length l)) (eqb (get_or l (first_at_least l target) 0) target) refl
  where
    go : (a b : Bool) → ltb (first_at_least l target) (length l) ≡ a → cond (a && b) (first_at_least l target) snap < length l
    go true true e = ltb-true (first_at_least l target) (length l) e
    go true false e = h
    go false b e = h

pub arrives : (l : List ℕ) (width target : ℕ) (step : MaxStep) → 0 < length l → Arrives l width target (walk_candidates l width target step)
arrives [] width target step h = absurd (not-suc-le-zero h)
arrives (c ∷ cs) width target step h =
    let at = snap_index (c ∷ cs) width in
    let to = target_index (c ∷ cs) target at in
    let s = snap_within (c ∷ cs) width h in
    let b = between at to step in
    record { index = walk_index at to step; within = walk_within at to (length (c ∷ cs)) step s (target_within (c ∷ cs) target at s); is = refl; low = b.0; high = b.1 }

-- ---- the candidates of a curve
weaker : (low : ℕ) (l : List ℕ) → Rising (suc low) l → Rising low l
weaker low [] r = tt
weaker low (c ∷ cs) r = let h = r.0 in (omega arith, r.1)

pub candidates_rise : (g : ℕ) (curve : List Float) → Rising g (finite_from g curve)
unfolding finite_from
candidates_rise g [] = tt
candidates_rise g (c ∷ cs) = go (is_finite c) (candidates_rise (suc g) cs)
  where
    go : (b : Bool) → Rising (suc g) (finite_from (suc g) cs) → Rising g (cond b (g ∷ finite_from (suc g) cs) (finite_from (suc g) cs))
    go true r = (omega arith, r)
    go false r = weaker g (finite_from (suc g) cs) r

-- a depth of finite price is a candidate
pub record Stands (l : List ℕ) (w : ℕ) : Type 0 where
  pub index : ℕ
  pub within : index < length l
  pub is : get_or l index 0 ≡ w

pub finite_stands : (g d : ℕ) (curve : List Float) → d < length curve → is_finite (get_or curve d nan) ≡ true → Stands (finite_from g curve) (g + d)
unfolding finite_from
finite_stands g d [] h e = absurd (not-suc-le-zero h)
finite_stands g zero (c ∷ cs) h e = go (is_finite c) e
  where
    go : (b : Bool) → b ≡ true → Stands (cond b (g ∷ finite_from (suc g) cs) (finite_from (suc g) cs)) (g + zero)
    go true k = record { index = 0; within = omega arith; is = omega arith }
    go false k = clash k
finite_stands g (suc d) (c ∷ cs) h e = go (is_finite c) (finite_stands (suc g) d cs (le_of_suc-le-suc h) e)
  where
    go : (b : Bool) → Stands (finite_from (suc g) cs) (suc g + d) → Stands (cond b (g ∷ finite_from (suc g) cs) (finite_from (suc g) cs)) (g + suc d)
    go true s = record { index = suc s.index; within = let w = s.within in omega arith; is = let w = s.is in omega arith }
    go false s = record { index = s.index; within = s.within; is = let w = s.is in omega arith }

-- and a candidate is a depth of finite price
pub candidate_finite : (g i : ℕ) (curve : List Float) → i < length (finite_from g curve) → (get_or (finite_from g curve) i 0 < g + length curve) × (is_finite (get_or curve (get_or (finite_from g curve) i 0 - g) nan) ≡ true)
unfolding finite_from
candidate_finite g i [] h = absurd (not-suc-le-zero h)
candidate_finite g i (c ∷ cs) h = go (is_finite c) i refl h (λ (j : ℕ). candidate_finite (suc g) j cs) (λ (j : ℕ). rising_low (suc g) (finite_from (suc g) cs) j (candidates_rise (suc g) cs))
  where
    rest : List ℕ
    rest = finite_from (suc g) cs

    later : (w : ℕ) → suc g ≤ w → is_finite (get_or cs (w - suc g) nan) ≡ true → is_finite (get_or (c ∷ cs) (w - g) nan) ≡ true
    later w k e = let m : w - g ≡ suc (w - suc g) = omega arith in rw m e

    go : (b : Bool) (j : ℕ) → is_finite c ≡ b → j < length (cond b (g ∷ rest) rest)
        → ((k : ℕ) → k < length rest → (get_or rest k 0 < suc g + length cs) × (is_finite (get_or cs (get_or rest k 0 - suc g) nan) ≡ true))
        → ((k : ℕ) → k < length rest → suc g ≤ get_or rest k 0)
        → (get_or (cond b (g ∷ rest) rest) j 0 < g + suc (length cs)) × (is_finite (get_or (c ∷ cs) (get_or (cond b (g ∷ rest) rest) j 0 - g) nan) ≡ true)
    go true zero e k ih low = let m : g - g ≡ 0 = omega arith in (omega arith, rw m e)
    go true (suc j) e k ih low = let w = ih j (le_of_suc-le-suc k) in let u = w.0 in (omega arith, later (get_or rest j 0) (low j (le_of_suc-le-suc k)) w.1)
    go false j e k ih low = let w = ih j k in let u = w.0 in (omega arith, later (get_or rest j 0) (low j k) w.1)

-- without a limit the walk over a curve arrives at a target of finite price
pub lands : (curve : List Float) (width target : ℕ) → target < length curve → is_finite (get_or curve target nan) ≡ true → walk_candidates (candidates_of curve) width target Unlimited ≡ target
lands curve width target h e =
    let s = finite_stands 0 target curve h e in
    let there : get_or (candidates_of curve) s.index 0 ≡ target = s.is ∙ omega arith in
    ap (λ (t : ℕ). walk_candidates (candidates_of curve) width t Unlimited) (sym there) ∙ reaches 0 (candidates_of curve) width s.index (candidates_rise 0 curve) s.within ∙ there
