-- Laws of a part of a list, and of the confidences and chains of the rounds from a place on. Assumes nothing.
use mathlib.Core.Path.{◌≡◌, refl, sym, ap, ◌∙◌}
use mathlib.Core.List.{List, []}
use Prim.Native.Nat.{ℕ, zero, suc, ◌+◌, ◌-◌, ◌≤◌, ◌<◌}
use native.Mathlib.Nat.{not-suc-le-zero, le_of_suc-le-suc, le_of_eq}
use native.Mathlib.Omega.{arith}
use lib.ListN.{length, get_or, take, drop, drop_of_length-le}
use lib.Seq.{take_all}
use lib.Ieee.{Float, nan}
use Rattle.laws.proofs.Lists.{part}
use Rattle.acceptance.specs.Acceptance.{a_d}
use Rattle.acceptance.specs.declared.AcceptanceModel.{AcceptanceModel}
use Rattle.rounds.specs.Signals.{values_from}

take_nothing : (n : ℕ) → take {A = Float} n [] ≡ []
take_nothing zero = refl
take_nothing (suc n) = refl

-- where nothing is there
pub past_end : (s : List Float) (at count : ℕ) → length s ≤ at → take (length s - length s) (drop (length s) s) ≡ take count (drop at s)
past_end s at count h =
    part (length s) s ∙ drop_of_length-le s (le_of_eq refl) ∙ sym (take_nothing count) ∙ ap (take count) (sym (drop_of_length-le s h))

-- where there is more
pub in_part : (s : List Float) (at count : ℕ) → take count (take (length s - at) (drop at s)) ≡ take count (drop at s)
in_part s at count = ap (take count) (part at s)

-- where there is no more
pub all_part : (s : List Float) (at count : ℕ) → length (take (length s - at) (drop at s)) ≤ count → take (length s - at) (drop at s) ≡ take count (drop at s)
all_part s at count h =
    let l : length (drop at s) ≤ count = omega (arith, ap length (part at s)) in
    part at s ∙ sym (take_all count (drop at s) l)

-- ---- the model's values
module _ (model : AcceptanceModel) (positions : List Float) where
  pub values_length : (d left : ℕ) → length (values_from model positions d left) ≡ left
  unfolding values_from
  values_length d zero = refl
  values_length d (suc left) = ap suc (values_length (suc d) left)

  from_place : (d left i : ℕ) → i < left → get_or (values_from model positions d left) i nan ≡ a_d model positions (d + i)
  unfolding values_from
  from_place d zero i h = absurd (not-suc-le-zero h)
  from_place d (suc left) zero h = let z : d + 0 ≡ d = omega arith in ap (a_d model positions) (sym z)
  from_place d (suc left) (suc i) h = let z : suc d + i ≡ d + suc i = omega arith in from_place (suc d) left i (le_of_suc-le-suc h) ∙ ap (a_d model positions) z

  pub value_at : (gamma d : ℕ) → d < gamma → get_or (values_from model positions 0 gamma) d nan ≡ a_d model positions d
  value_at gamma d h = let z : 0 + d ≡ d = omega arith in from_place 0 gamma d h ∙ ap (a_d model positions) z
