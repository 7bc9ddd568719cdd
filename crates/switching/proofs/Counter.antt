-- After any decision the counter is below the cooldown, and so the record's counter stays in range; a record that passes the judge has a width in range after a decision too. Assumes nothing.
use mathlib.Core.Path.{◌≡◌, refl}
use mathlib.Core.Bool.{Bool, true, false, cond}
use mathlib.Core.List.{List, [], ◌∷◌}
use Prim.Native.Nat.{ℕ, ◌+◌, ◌≤◌, ◌<◌, max}
use native.Mathlib.Omega.{arith}
use borrow.Author.Tests.{leb-false}
use lib.ListN.{length, get_or}
use lib.Ieee.{Float}
use Rattle.switch_settings.specs.declared.SwitchConstraints.{SwitchConstraints}
use Rattle.switch_settings.specs.declared.MaxStep.{MaxStep}
use Rattle.width_walk.specs.Walk.{walk_candidates}
use Rattle.switching.specs.Deciding.{is_due, counted, walked, candidates_of, decided, most_width, most_rounds, most_depths}
use Rattle.switching.specs.declared.Switching.{Switching}
use Rattle.switching.proofs.Widths.{arrives, candidate_finite}

-- whatever the counter was before
pub counter_low : (s : Switching) (curve : List Float) (target : ℕ) (constraints : SwitchConstraints) → (decided s curve target constraints).rounds < max constraints.cooldown_rounds 1
counter_low s curve target constraints = go (is_due constraints (s.rounds + 1)) refl
  where
    go : (b : Bool) → is_due constraints (s.rounds + 1) ≡ b → (cond b (walked (counted s) (candidates_of curve) target constraints) (counted s)).rounds < max constraints.cooldown_rounds 1
    go true e = omega arith
    go false e = leb-false (max constraints.cooldown_rounds 1) (s.rounds + 1) e

pub counter_in_range : (s : Switching) (curve : List Float) (target : ℕ) (constraints : SwitchConstraints) → constraints.cooldown_rounds ≤ 4294967295 → (decided s curve target constraints).rounds ≤ most_rounds
counter_in_range s curve target constraints h = let k = counter_low s curve target constraints in omega arith

-- a width walks to a depth of the curve, or stays
walk_low : (curve : List Float) (width target : ℕ) (step : MaxStep) → length curve ≤ most_depths → width ≤ most_width → walk_candidates (candidates_of curve) width target step ≤ most_width
walk_low curve width target step h w = go (candidates_of curve) refl
  where
    go : (l : List ℕ) → candidates_of curve ≡ l → walk_candidates l width target step ≤ most_width
    go [] e = w
    go (c ∷ cs) e =
        let a = arrives (c ∷ cs) width target step (omega arith) in
        let i : a.index < length (candidates_of curve) = rw e a.within in
        let f : get_or (candidates_of curve) a.index 0 < 0 + length curve = (candidate_finite 0 a.index curve i).0 in
        let g : get_or (candidates_of curve) a.index 0 ≡ walk_candidates (c ∷ cs) width target step = rw e a.is in
        omega arith

pub width_in_range : (s : Switching) (curve : List Float) (target : ℕ) (constraints : SwitchConstraints) → length curve ≤ most_depths → s.width ≤ most_width → (decided s curve target constraints).width ≤ most_width
width_in_range s curve target constraints h w = go (is_due constraints (s.rounds + 1))
  where
    go : (b : Bool) → (cond b (walked (counted s) (candidates_of curve) target constraints) (counted s)).width ≤ most_width
    go true = walk_low curve s.width target constraints.max_step h w
    go false = w
