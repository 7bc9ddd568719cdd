-- The contracts of `refusals` leave one outcome each. Assumes nothing.
use mathlib.Core.Path.{◌≡◌}
use Prim.Native.Nat.{ℕ}
use Rattle.refusals.specs.declared.Refusal.{Refusal}
use Rattle.refusals.specs.Refusals.{Judgement, number_of, number_in}
use Rattle.unique.specs.Only.{OnlyOne}
use Rattle.unique.proofs.Law.{once}

pub refusal_number_once : (self : Refusal) → OnlyOne (λ (r : ℕ). r ≡ number_of self)
refusal_number_once self x y p q = once p q

pub number_in_once : (judgement : Judgement) → OnlyOne (λ (r : ℕ). r ≡ number_in judgement)
number_in_once judgement x y p q = once p q
