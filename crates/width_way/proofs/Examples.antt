-- The definitions on worked examples: the candidates 0, 2, 4 and 6. Assumes nothing.
use mathlib.Core.Path.{◌≡◌, refl}
use mathlib.Core.List.{List, [], ◌∷◌}
use Prim.Native.Nat.{ℕ}
use lib.Ieee.{of_bits, eq}
use Rattle.float.specs.Floats.{f0}
use Rattle.switch_settings.specs.declared.MaxStep.{MaxStep}
use Rattle.switch_settings.specs.declared.MaxStep.TheVariants.{Unlimited, AtMost}
use Rattle.switch_settings.specs.declared.SwitchConstraints.{SwitchConstraints}
use Rattle.width_walk.specs.Walk.{first_at_least}
use Rattle.width_way.specs.Way.{way, settled}
use Rattle.width_way.specs.declared.Settling.{Settling}
use Rattle.width_way.specs.declared.Settling.TheVariants.{Within, NoStep, NoCandidate, AtOnce}

abbrev even : List ℕ
even = 0 ∷ 2 ∷ 4 ∷ 6 ∷ []

abbrev every : ℕ → MaxStep → SwitchConstraints
every cooldown step = record { cooldown_rounds = cooldown; max_step = step; cost_ms = f0 }

abbrev Answers : ℕ → ℕ → SwitchConstraints → Settling → List ℕ → Type 0
Answers width target c answer widths = settled even width target c (9 ∷ 9 ∷ 9 ∷ []) ≡ (answer, widths)

-- three walks of one candidate, every second round
down_by_one : Answers 6 0 (every 2 (AtMost 1)) (Within 6 3) (4 ∷ 2 ∷ 0 ∷ [])
unfolding settled first_at_least way
down_by_one = refl

-- the last walk is shorter, and what is not written stays
down_by_two : Answers 6 0 (every 2 (AtMost 2)) (Within 4 2) (2 ∷ 0 ∷ 9 ∷ [])
unfolding settled first_at_least way
down_by_two = refl

-- 3 snaps to 4; a cooldown of 0 is a walk every round
snapped_first : Answers 3 0 (every 0 (AtMost 1)) (Within 2 2) (2 ∷ 0 ∷ 9 ∷ [])
unfolding settled first_at_least way
snapped_first = refl

-- 9 is above every candidate, and snaps to the last, which is the target: never below one walk
snapped_there : Answers 9 6 (every 5 (AtMost 3)) (Within 5 1) (6 ∷ 9 ∷ 9 ∷ [])
unfolding settled first_at_least way
snapped_there = refl

-- without a limit one walk arrives
unlimited : Answers 0 6 (every 7 Unlimited) (Within 7 1) (6 ∷ 9 ∷ 9 ∷ [])
unfolding settled first_at_least way
unlimited = refl

-- max_step is 0; the target is no candidate; the switching is unconstrained
no_step_at_all : Answers 3 0 (every 2 (AtMost 0)) (NoStep 4) (9 ∷ 9 ∷ 9 ∷ [])
unfolding settled first_at_least
no_step_at_all = refl

no_such_target : Answers 3 5 (every 2 (AtMost 1)) (NoCandidate 4) (9 ∷ 9 ∷ 9 ∷ [])
unfolding settled first_at_least
no_such_target = refl

taken_at_once : Answers 6 0 (every 1 Unlimited) AtOnce (9 ∷ 9 ∷ 9 ∷ [])
unfolding settled eq of_bits
taken_at_once = refl
