-- Candidates that rise: each is found where it stands, and a walk without a limit arrives at one. Assumes nothing.
use mathlib.Core.Path.{◌≡◌, refl, ap}
use mathlib.Core.List.{List, [], ◌∷◌}
use Prim.Native.Nat.{ℕ, zero, suc, ◌≤◌, ◌<◌}
use native.Mathlib.Nat.{not-suc-le-zero, le_of_suc-le-suc}
use native.Mathlib.Omega.{arith}
use borrow.Author.Tests.{le-leb, lt-leb, lt-ltb, eq-eqb}
use lib.ListN.{length, get_or}
use Rattle.switch_settings.specs.declared.MaxStep.TheVariants.{Unlimited}
use Rattle.width_walk.specs.Walk.{first_at_least, snap_index, target_index, walk_candidates, Rising}

pub rising_low : (low : ℕ) (l : List ℕ) (i : ℕ) → Rising low l → i < length l → low ≤ get_or l i 0
rising_low low [] i r h = absurd (not-suc-le-zero h)
rising_low low (c ∷ cs) zero r h = r.0
rising_low low (c ∷ cs) (suc i) r h = let k = rising_low (suc c) cs i r.1 (le_of_suc-le-suc h) in let m = r.0 in omega arith

-- a candidate is found where it stands
pub found_there : (low : ℕ) (l : List ℕ) (i : ℕ) → Rising low l → i < length l → first_at_least l (get_or l i 0) ≡ i
unfolding first_at_least
found_there low [] i r h = absurd (not-suc-le-zero h)
found_there low (c ∷ cs) zero r h = rw (le-leb c c (omega arith))
found_there low (c ∷ cs) (suc i) r h =
    let k : suc c ≤ get_or cs i 0 = rising_low (suc c) cs i r.1 (le_of_suc-le-suc h) in
    rw (lt-leb (get_or cs i 0) c k) (ap suc (found_there (suc c) cs i r.1 (le_of_suc-le-suc h)))

-- without a limit the walk arrives at a target that is a candidate
pub reaches : (low : ℕ) (l : List ℕ) (width i : ℕ) → Rising low l → i < length l → walk_candidates l width (get_or l i 0) Unlimited ≡ get_or l i 0
reaches low [] width i r h = absurd (not-suc-le-zero h)
reaches low (c ∷ cs) width i r h =
    let f : first_at_least (c ∷ cs) (get_or (c ∷ cs) i 0) ≡ i = found_there low (c ∷ cs) i r h in
    ap (λ (j : ℕ). get_or (c ∷ cs) j 0) (to_it f)
  where
    at : ℕ
    at = snap_index (c ∷ cs) width

    to_it : first_at_least (c ∷ cs) (get_or (c ∷ cs) i 0) ≡ i → target_index (c ∷ cs) (get_or (c ∷ cs) i 0) at ≡ i
    to_it f = simp (f, lt-ltb i (length (c ∷ cs)) h, eq-eqb (get_or (c ∷ cs) i 0) (get_or (c ∷ cs) i 0) refl)

-- a width that is a candidate stands at its own index
pub snap_there : (l : List ℕ) (i : ℕ) → Rising 0 l → i < length l → snap_index l (get_or l i 0) ≡ i
snap_there l i r h = let e = found_there 0 l i r h in omega arith
