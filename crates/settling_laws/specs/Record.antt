-- A switching record over rounds with the same settings, candidates and target, each with a price curve of its own. Assumes nothing.
use Rattle.std.specs.Prelude.{ℕ, ◌+◌, ◌≡◌, cond, List, [], ◌∷◌, eqb, Float}
use Rattle.switch_settings.specs.declared.SwitchConstraints.{SwitchConstraints}
use Rattle.switching.specs.Deciding.{candidates_of, decided}
use Rattle.switching.specs.declared.Switching.{Switching}

-- every round has these candidates
abbrev pub Alike : List ℕ → List (List Float) → Type 0
Alike candidates [] = Unit {0}
Alike candidates (curve ∷ curves) = (candidates_of curve ≡ candidates) × Alike candidates curves

module _ (constraints : SwitchConstraints) (target : ℕ) where
  -- the record after them
  abbrev pub after_all : Switching → List (List Float) → Switching
  after_all s [] = s
  after_all s (curve ∷ curves) = after_all (decided s curve target constraints) curves

  -- how many of them change the width
  abbrev pub changes_in : Switching → List (List Float) → ℕ
  changes_in s [] = 0
  changes_in s (curve ∷ curves) =
      let t = decided s curve target constraints in cond (eqb t.width s.width) 0 1 + changes_in t curves
