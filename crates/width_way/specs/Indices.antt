-- The way by the candidates' indices, as the code goes it, and what it leans on. Assumes nothing.
use Rattle.std.specs.Prelude.{List, [], ◌∷◌, ℕ, zero, suc, ◌≤◌, length, get_or}
use Rattle.switch_settings.specs.declared.MaxStep.{MaxStep}
use Rattle.width_walk.specs.Walk.{walk_index, Rising}

-- at most 65 candidates, which rise, and room for a width after each walk
pub record Ready (candidates widths : List ℕ) : Type 0 where
  pub few : length candidates ≤ 65
  pub rising : Rising 0 candidates
  pub roomy : 64 ≤ length widths

-- the widths after each of n walks from the index `at` to the index `to`
unfoldable pub way_from : MaxStep → List ℕ → ℕ → ℕ → ℕ → List ℕ
way_from step candidates to at zero = []
way_from step candidates to at (suc n) = get_or candidates (walk_index at to step) 0 ∷ way_from step candidates to (walk_index at to step) n
