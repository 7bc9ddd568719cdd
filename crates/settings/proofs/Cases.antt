-- A case that is known, and what a cap leaves of gamma. Assumes nothing.
use mathlib.Core.Path.{◌≡◌, sym, ap, ◌∙◌}
use Prim.Native.Nat.{ℕ, ◌≤◌}
use native.Mathlib.Omega.{arith}
use Rattle.acceptance.specs.declared.AcceptanceModel.{AcceptanceModel}
use Rattle.acceptance.specs.declared.AcceptanceModel.TheVariants.{Constant, PerPosition, Trace}
use Rattle.settings.specs.Settings.{capped_by}

pub of_case : {A B : Type 0} (f : A → B) (x y : A) (r : B) → x ≡ y → r ≡ f y → r ≡ f x
of_case f x y r e v = v ∙ ap f (sym e)

pub capped_le : (m : AcceptanceModel) (gamma depth : ℕ) → capped_by m gamma depth ≤ gamma
capped_le (Constant alpha) gamma depth = omega arith
capped_le PerPosition gamma depth = omega arith
capped_le Trace gamma depth = omega arith
