-- Laws of values stored one after the other from a place on. Assumes nothing.
use mathlib.Core.Path.{◌≡◌, refl, sym, ap, ◌∙◌}
use mathlib.Core.List.{List, [], ◌∷◌, ◌++◌, append_assoc}
use Prim.Native.Nat.{ℕ, zero, suc, ◌+◌, ◌-◌, ◌≤◌, ◌<◌}
use native.Mathlib.Nat.{not-suc-le-zero, le_of_suc-le-suc}
use native.Mathlib.Numerals.{add-one}
use native.Mathlib.Omega.{arith}
use lib.ListN.{length, get_or, take, drop, set, replicate, length-set, drop_of_length-le}
use lib.Seq.{sets, sets-eq, drop-cons, drop-drop}
use lib.Ieee.{Float, nan}
use Rattle.float.specs.Floats.{f0}
use Rattle.rounds.specs.Signals.{slots}

-- value d is stored, and the rest is to come
pub stored_next : (values out : List Float) (at d : ℕ) → d < length values
    → sets out (at + d) (drop d values) ≡ sets (set out (at + d) (get_or values d nan)) (at + (d + 1)) (drop (d + 1) values)
stored_next values out at d h =
    let s : suc (at + d) ≡ at + (d + 1) = omega arith in
    ap (sets out (at + d)) (drop-cons values d nan h)
    ∙ ap (λ (i : ℕ). sets (set out (at + d) (get_or values d nan)) i (drop (suc d) values)) s
    ∙ ap (λ (i : ℕ). sets (set out (at + d) (get_or values d nan)) (at + (d + 1)) (drop i values)) (sym (add-one d))

pub stored_all : (values out : List Float) (i d : ℕ) → length values ≤ d → sets out i (drop d values) ≡ out
stored_all values out i d h = ap (sets out i) (drop_of_length-le values h)

-- some values, and then the others
pub stored_more : (us vs l : List Float) (i : ℕ) → sets l i (us ++ vs) ≡ sets (sets l i us) (i + length us) vs
stored_more [] vs l i = let z : i + 0 ≡ i = omega arith in ap (λ (n : ℕ). sets l n vs) (sym z)
stored_more (u ∷ us) vs l i =
    let n : suc i + length us ≡ i + suc (length us) = omega arith in
    stored_more us vs (set l i u) (suc i) ∙ ap (λ (k : ℕ). sets (sets (set l i u) (suc i) us) k vs) n

-- a part that the library wrote over
pub copied_over : (l vs ys : List Float) (at : ℕ) → at + length vs ≤ length l → ys ≡ vs → take at l ++ (ys ++ drop (at + length vs - at) (drop at l)) ≡ sets l at vs
copied_over l vs ys at h e =
    let n : at + length vs - at ≡ length vs = omega arith in
    rw (e, n, drop-drop (length vs) at l) (sym (sets-eq vs l at h ∙ append_assoc (take at l) vs (drop (at + length vs) l)))

pub drop_zeros : (n k : ℕ) → k ≤ n → drop k (replicate n f0) ≡ replicate (n - k) f0
drop_zeros n zero h = let z : n - 0 ≡ n = omega arith in ap (λ (m : ℕ). replicate m f0) (sym z)
drop_zeros zero (suc k) h = absurd (not-suc-le-zero h)
drop_zeros (suc n) (suc k) h = let z : suc n - suc k ≡ n - k = omega arith in drop_zeros n k (le_of_suc-le-suc h) ∙ ap (λ (m : ℕ). replicate m f0) (sym z)

-- over 64 zeros
pub stored_slots : (values : List Float) → length values ≤ 64 → sets (replicate 64 f0) 0 values ≡ slots values
stored_slots values h =
    let z : 0 + length values ≡ length values = omega arith in
    sets-eq values (replicate 64 f0) 0 (omega arith) ∙ ap (λ (i : ℕ). values ++ drop i (replicate 64 f0)) z ∙ ap (λ (l : List Float). values ++ l) (drop_zeros 64 (length values) h)

-- a run of stores that is under way: from `at` on the values from d on are still to be stored, and then it is `all`
pub record Storing (values all : List Float) (room at : ℕ) (out : List Float) (d : ℕ) : Type 0 where
  pub long : length out ≡ room
  pub low : d ≤ length values
  pub is : all ≡ sets out (at + d) (drop d values)

pub storing_begins : (values all : List Float) (room at : ℕ) (out : List Float) → length out ≡ room → sets out at values ≡ all → Storing values all room at out 0
storing_begins values all room at out l e =
    let z : at + 0 ≡ at = omega arith in
    record { long = l; low = omega arith; is = sym e ∙ ap (λ (i : ℕ). sets out i values) (sym z) }

module _ (values all : List Float) (room at : ℕ) (out : List Float) (d : ℕ) where
  -- value d is stored
  pub storing_value : (i : ℕ) (v : Float) → i ≡ at + d → d < length values → v ≡ get_or values d nan → Storing values all room at out d → Storing values all room at (set out i v) (d + 1)
  storing_value i v e h f s =
      record {
        long = length-set out i v ∙ s.long;
        low = omega arith;
        is = s.is ∙ stored_next values out at d h ∙ ap (λ (x : Float). sets (set out (at + d) x) (at + (d + 1)) (drop (d + 1) values)) (sym f)
            ∙ ap (λ (k : ℕ). sets (set out k v) (at + (d + 1)) (drop (d + 1) values)) (sym e);
      }

  pub storing_next : (i : ℕ) → i ≡ at + d → d < length values → Storing values all room at out d → Storing values all room at (set out i (get_or values d nan)) (d + 1)
  storing_next i e h s = storing_value i (get_or values d nan) e h refl s

  pub storing_ends : length values ≤ d → Storing values all room at out d → out ≡ all
  storing_ends h s = sym (s.is ∙ stored_all values out (at + d) d h)
