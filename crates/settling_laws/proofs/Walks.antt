-- One walk after the other to a target that is a candidate: each comes nearer by the step, and the m of the rules are enough. Assumes nothing.
use mathlib.Core.Path.{◌≡◌, refl, sym, ap, ◌∙◌, subst}
use mathlib.Core.Bool.{Bool, true, false, cond}
use mathlib.Core.List.{List}
use Prim.Native.Nat.{ℕ, zero, suc, ◌+◌, ◌-◌, ◌*◌, ◌/◌, ◌≤◌, ◌<◌, min, max}
use native.Mathlib.Nat.{suc-mul, one-mul, mod-lt, div-add-mod', mul-le-mul_right}
use native.Mathlib.Omega.{arith}
use borrow.Author.Tests.{ltb-true, ltb-false, eqb-false}
use lib.Dec.{ltb}
use lib.ListN.{length, get_or}
use Rattle.switch_settings.specs.declared.MaxStep.{MaxStep}
use Rattle.switch_settings.specs.declared.MaxStep.TheVariants.{Unlimited, AtMost}
use Rattle.width_walk.specs.Walk.{first_at_least, snap_index, walk_index, walk_candidates, Rising}
use Rattle.width_walk.proofs.Walking.{walk_within}
use Rattle.width_walk.proofs.Found.{snap_there}
use Rattle.width_way.proofs.Following.{candidate_there, walks_to}
use Rattle.width_way.specs.Way.{is_candidate, stands_still, distance, away_from, walks_for}

-- ---- in indices
from_above : (a b : ℕ) → b ≤ a → distance a b ≡ a - b
from_above a b h = omega arith

nearer : (at to d : ℕ) → distance (walk_index at to (AtMost d)) to ≡ distance at to - d
nearer at to d = go (ltb at to) refl
  where
    go : (b : Bool) → ltb at to ≡ b → distance (cond b (min (at + d) to) (max (at - d) to)) to ≡ distance at to - d
    go true e = let h = ltb-true at to e in omega arith
    go false e =
        let h : to ≤ at = ltb-false at to e in
        let m : to ≤ max (at - d) to = omega arith in
        let step : max (at - d) to - to ≡ at - to - d = omega arith in
        from_above (max (at - d) to) to m ∙ step ∙ ap (λ (x : ℕ). x - d) (sym (from_above at to h))

-- n walks are enough from the index `at` to the index `to`
abbrev Near : MaxStep → ℕ → ℕ → ℕ → Type 0
Near Unlimited n at to = Unit {0}
Near (AtMost d) n at to = distance at to ≤ n * d

none_left : (a b : ℕ) → distance a b ≡ 0 → a ≡ b
none_left a b h = omega arith

at_last : (step : MaxStep) (at to : ℕ) → Near step 1 at to → walk_index at to step ≡ to
at_last Unlimited at to h = refl
at_last (AtMost d) at to h =
    let o = one-mul d in
    let z : distance at to - d ≡ 0 = omega arith in
    none_left (walk_index at to (AtMost d)) to (nearer at to d ∙ z)

one_less : (step : MaxStep) (n at to : ℕ) → Near step (suc n) at to → Near step n (walk_index at to step) to
one_less Unlimited n at to h = tt
one_less (AtMost d) n at to h =
    let m = suc-mul n d in
    let z : distance at to - d ≤ n * d = omega arith in
    rw (nearer at to d) z

at_home : (step : MaxStep) (i : ℕ) → Near step 1 i i
at_home Unlimited i = tt
at_home (AtMost d) i = omega arith

-- ---- m: the quotient rounded up is enough
rounded_up : (a d : ℕ) → 1 ≤ d → a ≤ (a + (d - 1)) / d * d
rounded_up a d h =
    let q = div-add-mod' (a + (d - 1)) d in
    let r = mod-lt (a + (d - 1)) {m = d} h in
    omega (arith, q, r)

enough : (step : MaxStep) (at to : ℕ) → stands_still step ≡ false → Near step (walks_for step (distance at to)) at to
enough Unlimited at to h = tt
enough (AtMost d) at to h =
    let some = eqb-false d 0 h in
    let q = (distance at to + (d - 1)) / d in
    let e : distance at to ≤ q * d = rounded_up (distance at to) d (omega (arith, some)) in
    let l : q ≤ max q 1 = omega arith in
    let m : q * d ≤ max q 1 * d = mul-le-mul_right d l in
    omega (arith, e, m)

-- and one walk fewer is not
some_left : (n d x y : ℕ) → y ≡ x - d → suc n * d < x → n * d < y
some_left n d x y e h = let m = suc-mul n d in omega arith

rounded_close : (a d : ℕ) → 1 ≤ d → (a + (d - 1)) / d * d < a + d
rounded_close a d h = let q = div-add-mod' (a + (d - 1)) d in omega (arith, q)

pub some_walk : (step : MaxStep) (away : ℕ) → 1 ≤ walks_for step away
some_walk Unlimited away = omega arith
some_walk (AtMost d) away = omega arith

-- ---- among candidates that rise, of which the target is one
module _ (step : MaxStep) (l : List ℕ) (rising : Rising 0 l) (target : ℕ) (here : is_candidate l target ≡ true) where
  abbrev to : ℕ
  to = first_at_least l target

  abbrev walk : ℕ → ℕ
  walk width = walk_candidates l width target step

  stands : (to < length l) × (get_or l to 0 ≡ target)
  stands = candidate_there l target here

  home : snap_index l target ≡ to
  home = ap (snap_index l) (sym stands.1) ∙ snap_there l to rising stands.0

  walks : (width : ℕ) → walk width ≡ get_or l (walk_index (snap_index l width) to step) 0
  walks width = walks_to step l target width here

  stands_at : (width : ℕ) → snap_index l (walk width) ≡ walk_index (snap_index l width) to step
  stands_at width =
      let inside = stands.0 in
      let s : snap_index l width < length l = omega arith in
      ap (snap_index l) (walks width) ∙ snap_there l (walk_index (snap_index l width) to step) rising (walk_within (snap_index l width) to (length l) step s inside)

  arrived : (width : ℕ) → Near step 1 (snap_index l width) to → walk width ≡ target
  arrived width h = walks width ∙ ap (λ (j : ℕ). get_or l j 0) (at_last step (snap_index l width) to h) ∙ stands.1

  -- at most n walks are left
  abbrev pub Left : ℕ → ℕ → Type 0
  Left zero width = width ≡ target
  Left (suc n) width = Near step (suc n) (snap_index l width) to

  pub left_first : stands_still step ≡ false → (width : ℕ) → Left (walks_for step (away_from l width target)) width
  left_first moves width = go (walks_for step (away_from l width target)) (some_walk step (away_from l width target)) (enough step (snap_index l width) to moves)
    where
      go : (m : ℕ) → 1 ≤ m → Near step m (snap_index l width) to → Left m width
      go zero z near = absurd (let w : ⊥ = omega arith in w)
      go (suc m) z near = near

  pub left_less : (n width : ℕ) → Left (suc n) width → Left n (walk width)
  left_less zero width near = arrived width near
  left_less (suc n) width near = rw (stands_at width) (one_less step (suc n) (snap_index l width) to near)

  -- a width that is the target stays
  pub stays : (width : ℕ) → Left 0 width → walk width ≡ width
  stays width e = ap walk e ∙ arrived target (rw home (at_home step to)) ∙ sym e

  -- ---- n walks do not arrive
  abbrev Apart : MaxStep → ℕ → ℕ → Type 0
  Apart Unlimited n width = ⊥
  Apart (AtMost d) n width = n * d < distance (snap_index l width) to

  abbrev pub Far : ℕ → ℕ → Type 0
  Far zero width = width ≡ target → ⊥
  Far (suc n) width = Apart step (suc n) width

  not_there : {n : ℕ} (width : ℕ) → n < distance (snap_index l width) to → width ≡ target → ⊥
  not_there width h e = let z : snap_index l width ≡ to = ap (snap_index l) e ∙ home in omega arith

  pub far_off : (n width : ℕ) → Far n width → width ≡ target → ⊥
  far_off zero width far = far
  far_off (suc n) width far = go step far
    where
      go : (x : MaxStep) → Apart x (suc n) width → width ≡ target → ⊥
      go Unlimited far e = far
      go (AtMost d) far e = not_there width far e

  pub far_less : (n width : ℕ) → Far (suc n) width → Far n (walk width)
  far_less n width far = go step refl far
    where
      from : (d : ℕ) → step ≡ AtMost d → distance (snap_index l (walk width)) to ≡ distance (snap_index l width) to - d
      from d e = ap (λ (i : ℕ). distance i to) (stands_at width ∙ ap (walk_index (snap_index l width) to) e) ∙ nearer (snap_index l width) to d

      less : (n d : ℕ) → step ≡ AtMost d → suc n * d < distance (snap_index l width) to → Far n (walk width)
      less zero d e h = not_there (walk width) (some_left 0 d (distance (snap_index l width) to) (distance (snap_index l (walk width)) to) (from d e) h)
      less (suc n) d e h =
          subst (λ (x : MaxStep). Apart x (suc n) (walk width)) (sym e)
          (some_left (suc n) d (distance (snap_index l width) to) (distance (snap_index l (walk width)) to) (from d e) h)

      go : (x : MaxStep) → step ≡ x → Apart x (suc n) width → Far n (walk width)
      go Unlimited e far = absurd far
      go (AtMost d) e far = less n d e far

  pub far_first : stands_still step ≡ false → (n width : ℕ) → walks_for step (away_from l width target) ≡ suc n → (width ≡ target → ⊥) → Far n width
  far_first moves zero width many apart = apart
  far_first moves (suc n) width many apart = go step moves many
    where
      go : (x : MaxStep) → stands_still x ≡ false → walks_for x (away_from l width target) ≡ suc (suc n) → Apart x (suc n) width
      go Unlimited h e = absurd (let z : ⊥ = omega arith in z)
      go (AtMost d) h e =
          let away = away_from l width target in
          let some = eqb-false d 0 h in
          let q : (away + (d - 1)) / d ≡ suc (suc n) = omega arith in
          let c : (away + (d - 1)) / d * d < away + d = rounded_close away d (omega (arith, some)) in
          let f : suc (suc n) * d < away + d = rw q at c in
          let m = suc-mul (suc n) d in
          omega (arith, f, m)
