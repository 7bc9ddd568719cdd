-- The values of so many depths, from a depth on: how many there are, what stands where, and one more written to the front of a buffer. Assumes nothing.
use mathlib.Core.Path.{◌≡◌, refl, sym, ap, ◌∙◌, subst}
use mathlib.Core.List.{List}
use Prim.Native.Nat.{ℕ, zero, suc, ◌+◌, ◌<◌}
use native.Mathlib.Nat.{not-suc-le-zero, le_of_suc-le-suc}
use native.Mathlib.Omega.{arith}
use lib.ListN.{length, get_or, set}
use lib.Ieee.{Float, nan}
use Rattle.budgets.specs.Budget.{values_from, over}
use Rattle.budgets.proofs.Copied.{Copied, copy_next, copy_ended}

module _ (value : ℕ → Float) where
  pub values_length : (count g : ℕ) → length (values_from value count g) ≡ count
  unfolding values_from
  values_length zero g = refl
  values_length (suc count) g = ap suc (values_length count (suc g))

  pub value_at : (count g i : ℕ) → i < count → get_or (values_from value count g) i nan ≡ value (g + i)
  unfolding values_from
  value_at zero g i h = absurd (not-suc-le-zero h)
  value_at (suc count) g zero h = let z : g ≡ g + 0 = omega arith in ap value z
  value_at (suc count) g (suc i) h = let z : suc g + i ≡ g + suc i = omega arith in value_at count (suc g) i (le_of_suc-le-suc h) ∙ ap value z

  module _ (gamma : ℕ) (out₀ out : List Float) (d : ℕ) (room : gamma < length out₀) (inv : Copied (values_from value (gamma + 1) 0) out₀ out d) where
    -- one value more
    pub value_next : (v : Float) → v ≡ value d → d < gamma + 1 → Copied (values_from value (gamma + 1) 0) out₀ (set out d v) (d + 1)
    value_next v e h =
        let all = values_length (gamma + 1) 0 in
        let z : 0 + d ≡ d = omega arith in
        subst (λ (x : Float). Copied (values_from value (gamma + 1) 0) out₀ (set out d x) (d + 1)) (value_at (gamma + 1) 0 d h ∙ ap value z ∙ sym e)
        (copy_next (values_from value (gamma + 1) 0) out₀ out d (omega arith) (omega arith) inv)

    -- all of them
    pub values_ended : gamma < d → out ≡ over (values_from value (gamma + 1) 0) out₀
    values_ended h = let all = values_length (gamma + 1) 0 in copy_ended (values_from value (gamma + 1) 0) out₀ out d (omega arith) inv
