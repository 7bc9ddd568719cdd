-- Laws of shapes: a field that passes, one that does not, and what is asked of a shape's first letter. Assumes nothing.
use mathlib.Core.Path.{◌≡◌, refl, sym, ap, ◌∙◌}
use mathlib.Core.Bool.{Bool, true, false, cond}
use mathlib.Core.List.{List, [], ◌∷◌}
use Prim.Native.Nat.{ℕ, suc, ◌+◌, ◌≤◌, ◌<◌, zero-le, suc-le-suc}
use native.Mathlib.Nat.{not-suc-le-zero}
use native.Mathlib.Numerals.{add-one}
use borrow.Author.Tests.{eq-eqb, ne_eqb}
use lib.Dec.{eqb}
use lib.ListN.{length, get_or, drop}
use Rattle.std.specs.Prelude.{⊤, Result, Ok, Err}
use Rattle.trimming.specs.Trim.{trimmed}
use Rattle.day_shapes.specs.declared.Expected.{Expected}
use Rattle.day_shapes.specs.declared.Expected.TheVariants.{MoreFields}
use Rattle.day_shapes.specs.Shapes.{field_judged, step_of, end_judged, or_wrong, shape_judged}

-- ---- a field f that the code judged

module _ (place : ℕ) (shape f : List ℕ) (fs : List (List ℕ)) (r : Result ⊤ Expected) (e : r ≡ field_judged (get_or shape 0 0) (trimmed f)) where
  by : shape_judged place shape (f ∷ fs) ≡ or_wrong r place (shape_judged (suc place) (drop (step_of shape) shape) fs)
  by = ap (λ (x : Result ⊤ Expected). or_wrong x place (shape_judged (suc place) (drop (step_of shape) shape) fs)) (sym e)

  pub field_passes : r ≡ Ok tt → shape_judged place shape (f ∷ fs) ≡ shape_judged (place + 1) (drop (step_of shape) shape) fs
  field_passes z =
      by
      ∙ ap (λ (x : Result ⊤ Expected). or_wrong x place (shape_judged (suc place) (drop (step_of shape) shape) fs)) z
      ∙ ap (λ (k : ℕ). shape_judged k (drop (step_of shape) shape) fs) (sym (add-one place))

  pub field_stops : (expected : Expected) → r ≡ Err expected → shape_judged place shape (f ∷ fs) ≡ Err (record { field = place; expected = expected })
  field_stops expected z = by ∙ ap (λ (x : Result ⊤ Expected). or_wrong x place (shape_judged (suc place) (drop (step_of shape) shape) fs)) z

-- ---- the first letter

pub step_le : (s : List ℕ) → step_of s ≤ length s
step_le [] = zero-le
step_le (k ∷ s) = go (eqb k 42)
  where
    go : (z : Bool) → cond z 0 1 ≤ suc (length s)
    go true = zero-le
    go false = suc-le-suc zero-le

pub letter_none : (s : List ℕ) → length s ≤ 0 → 0 ≡ get_or s 0 0
letter_none [] h = refl
letter_none (k ∷ s) h = absurd (not-suc-le-zero h)

pub step_follows : (s : List ℕ) → 0 < length s → get_or s 0 0 ≡ 42 → 0 ≡ step_of s
step_follows [] h e = absurd (not-suc-le-zero h)
step_follows (k ∷ s) h e = sym (ap (λ (b : Bool). cond b 0 1) (eq-eqb k 42 e))

pub step_one : (s : List ℕ) → 0 < length s → (get_or s 0 0 ≡ 42 → ⊥) → 1 ≡ step_of s
step_one [] h n = absurd (not-suc-le-zero h)
step_one (k ∷ s) h n = sym (ap (λ (b : Bool). cond b 0 1) (ne_eqb k 42 n))

pub step_none : (s : List ℕ) → length s ≤ 0 → 0 ≡ step_of s
step_none [] h = refl
step_none (k ∷ s) h = absurd (not-suc-le-zero h)

pub end_follows : (s : List ℕ) (place : ℕ) → 0 < length s → get_or s 0 0 ≡ 42 → Ok tt ≡ end_judged s place
end_follows [] place h e = absurd (not-suc-le-zero h)
end_follows (k ∷ s) place h e = sym (ap (λ (b : Bool). cond b (Ok tt) (Err (record { field = place; expected = MoreFields }))) (eq-eqb k 42 e))

pub end_lacks : (s : List ℕ) (place : ℕ) → 0 < length s → (get_or s 0 0 ≡ 42 → ⊥) → Err (record { field = place; expected = MoreFields }) ≡ end_judged s place
end_lacks [] place h n = absurd (not-suc-le-zero h)
end_lacks (k ∷ s) place h n = sym (ap (λ (b : Bool). cond b (Ok tt) (Err (record { field = place; expected = MoreFields }))) (ne_eqb k 42 n))

pub end_none : (s : List ℕ) (place : ℕ) → length s ≤ 0 → Ok tt ≡ end_judged s place
end_none [] place h = refl
end_none (k ∷ s) place h = absurd (not-suc-le-zero h)
