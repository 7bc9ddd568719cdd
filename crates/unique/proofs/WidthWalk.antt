-- The contracts of `width_walk` leave one outcome each. Assumes nothing.
use mathlib.Core.List.{List}
use mathlib.Core.Path.{◌≡◌}
use Prim.Native.Nat.{ℕ}
use Rattle.switch_settings.specs.declared.MaxStep.{MaxStep}
use Rattle.width_walk.specs.Walk.{walk_candidates}
use Rattle.unique.specs.Only.{OnlyOne}
use Rattle.unique.proofs.Law.{once}

pub walk_candidates_once : (candidates : List ℕ) (width target : ℕ) (max_step : MaxStep) → OnlyOne (λ (r : ℕ). r ≡ walk_candidates candidates width target max_step)
walk_candidates_once candidates width target max_step x y p q = once p q
