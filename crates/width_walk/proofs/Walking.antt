-- The walk: each turn of the search, and that it stays within the list. Assumes nothing.
use mathlib.Core.Path.{◌≡◌, refl, sym}
use mathlib.Core.Bool.{Bool, true, false, cond}
use mathlib.Core.List.{List, [], ◌∷◌}
use Prim.Native.Nat.{ℕ, suc, ◌+◌, ◌-◌, ◌≤◌, ◌<◌, min, max}
use native.Mathlib.Numerals.{add-one}
use native.Mathlib.Omega.{arith}
use lib.Dec.{ltb}
use lib.ListN.{length, get_or, drop, drop_of_length-le}
use lib.Seq.{drop-cons}
use borrow.Author.Tests.{le-leb, lt-leb, lt-ltb, le-ltb, ne_eqb}
use Rattle.switch_settings.specs.declared.MaxStep.{MaxStep}
use Rattle.switch_settings.specs.declared.MaxStep.TheVariants.{Unlimited, AtMost}
use Rattle.width_walk.specs.Walk.{first_at_least, snap_index, target_index, walk_index, walk_candidates}

-- ---- the first that is x or larger: found at i, not yet, and nothing left
module _ (l : List ℕ) (x i : ℕ) where
  pub found : i < length l → x ≤ get_or l i 0 → first_at_least (drop i l) x ≡ 0
  unfolding first_at_least
  found h k = rw (drop-cons l i 0 h, le-leb x (get_or l i 0) k)

  pub onward : i < length l → get_or l i 0 < x → first_at_least (drop i l) x ≡ suc (first_at_least (drop (i + 1) l) x)
  unfolding first_at_least
  onward h k = rw (drop-cons l i 0 h, lt-leb x (get_or l i 0) k, add-one i)

  pub nothing : length l ≤ i → first_at_least (drop i l) x ≡ 0
  unfolding first_at_least
  nothing h = rw (drop_of_length-le l h)

-- ---- the snapped index
pub snapped : (l : List ℕ) (width i : ℕ) → i ≡ first_at_least l width → i < length l → i ≡ snap_index l width
snapped l width i e h = omega arith

pub snapped_last : (l : List ℕ) (width i : ℕ) → i ≡ first_at_least l width → length l ≤ i → length l - 1 ≡ snap_index l width
snapped_last l width i e h = omega arith

-- ---- the target's index
module _ (l : List ℕ) (target i snap : ℕ) (e : i ≡ first_at_least l target) where
  pub miss : i < length l → (get_or l i 0 ≡ target → ⊥) → snap ≡ target_index l target snap
  miss h k = simp (sym e, lt-ltb i (length l) h, ne_eqb (get_or l i 0) target k)

  pub past : length l ≤ i → snap ≡ target_index l target snap
  past h = simp (sym e, le-ltb i (length l) h)

-- ---- the walk stays within the list
pub walk_within : (at to n : ℕ) (step : MaxStep) → at < n → to < n → walk_index at to step < n
walk_within at to n Unlimited h k = k
walk_within at to n (AtMost d) h k = go (ltb at to)
  where
    go : (b : Bool) → cond b (min (at + d) to) (max (at - d) to) < n
    go true = omega arith
    go false = omega arith

-- ---- the whole
pub stays : (l : List ℕ) (width target : ℕ) (step : MaxStep) → length l ≡ 0 → width ≡ walk_candidates l width target step
stays [] width target step h = refl
stays (c ∷ cs) width target step h = absurd (let w : ⊥ = omega arith in w)
