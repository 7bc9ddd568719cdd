-- How long until a width settles, while its target, the candidates and the settings stay the same: the walks, the rounds that they take, and the widths on
-- the way. Assumes nothing.
use Rattle.std.specs.Prelude.{ℕ, zero, suc, ◌+◌, ◌-◌, ◌*◌, ◌/◌, max, Bool, false, ◌&&◌, cond, List, [], ◌∷◌, ◌++◌, ltb, eqb, length, get_or, drop}
use Rattle.switch_settings.specs.Switch.{is_unconstrained}
use Rattle.switch_settings.specs.declared.MaxStep.{MaxStep}
use Rattle.switch_settings.specs.declared.MaxStep.TheVariants.{Unlimited, AtMost}
use Rattle.switch_settings.specs.declared.SwitchConstraints.{SwitchConstraints}
use Rattle.width_walk.specs.Walk.{first_at_least, snap_index, walk_candidates}
use Rattle.width_way.specs.declared.Settling.{Settling}
use Rattle.width_way.specs.declared.Settling.TheVariants.{Within, NoStep, NoCandidate, AtOnce}

-- the target is one of the candidates
abbrev pub is_candidate : List ℕ → ℕ → Bool
is_candidate candidates target =
    let i = first_at_least candidates target in
    ltb i (length candidates) && eqb (get_or candidates i 0) target

-- max_step is 0
abbrev pub stands_still : MaxStep → Bool
stands_still Unlimited = false
stands_still (AtMost d) = eqb d 0

-- ---- m: how many walks

abbrev pub distance : ℕ → ℕ → ℕ
distance a b = (a - b) + (b - a)

-- the distance in candidate indices from the snapped width to the target
abbrev pub away_from : List ℕ → ℕ → ℕ → ℕ
away_from candidates width target = distance (snap_index candidates width) (first_at_least candidates target)

-- divided by max_step and rounded up, and never below 1
abbrev pub walks_of : ℕ → ℕ → ℕ
walks_of away d = max ((away + (d - 1)) / d) 1

-- 1 where max_step is missing
abbrev pub walks_for : MaxStep → ℕ → ℕ
walks_for Unlimited away = 1
walks_for (AtMost d) away = walks_of away d

-- ---- m times max(cooldown_rounds, 1)

abbrev pub pause : SwitchConstraints → ℕ
pause constraints = max constraints.cooldown_rounds 1

abbrev pub rounds_for : SwitchConstraints → ℕ → ℕ
rounds_for constraints away = walks_for constraints.max_step away * pause constraints

-- ---- the widths after each of n walks
module _ (step : MaxStep) (candidates : List ℕ) (target : ℕ) where
  unfoldable pub way : ℕ → ℕ → List ℕ
  way width zero = []
  way width (suc n) = walk_candidates candidates width target step ∷ way (walk_candidates candidates width target step) n

  -- at the front of a buffer
  abbrev pub on_way : ℕ → ℕ → List ℕ → List ℕ
  on_way width n widths = way width n ++ drop n widths

-- ---- the answer, and the buffer with the widths on the way

-- where the width comes to the target
abbrev pub arrival : List ℕ → ℕ → ℕ → SwitchConstraints → List ℕ → Settling × List ℕ
arrival candidates width target constraints widths =
    let step = constraints.max_step in
    let away = away_from candidates width target in
    (Within (rounds_for constraints away) (walks_for step away), on_way step candidates target width (walks_for step away) widths)

unfoldable pub settled : List ℕ → ℕ → ℕ → SwitchConstraints → List ℕ → Settling × List ℕ
settled candidates width target constraints widths =
    let step = constraints.max_step in
    let next = walk_candidates candidates width target step in
    cond (is_unconstrained constraints) (AtOnce, widths)
    (cond (is_candidate candidates target) (cond (stands_still step) (NoStep next, widths) (arrival candidates width target constraints widths)) (NoCandidate next, widths))
