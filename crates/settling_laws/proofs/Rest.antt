-- WHERE THE WIDTH NEVER ARRIVES: where max_step is 0, or the target is no candidate, it is the held width until the first walk, and from there on the snapped one.
-- Assumes nothing.
use mathlib.Core.Path.{◌≡◌, refl, sym, ap, ◌∙◌}
use mathlib.Core.Logic.{◌⊎◌, inl, inr, ⊎_elim}
use mathlib.Core.Bool.{Bool, true, false, cond}
use mathlib.Core.List.{List, [], ◌∷◌}
use mathlib.Core.Option.{some}
use Prim.Native.Nat.{ℕ, zero, suc, ◌+◌, ◌-◌, ◌≤◌, ◌<◌, min, max}
use native.Mathlib.Omega.{arith}
use borrow.Author.Tests.{ltb-true, ltb-false, leb-false, eqb-true}
use lib.Dec.{ltb}
use lib.ListN.{length, get_or}
use lib.Ieee.{Float}
use Rattle.float.proofs.Classes.{clash}
use Rattle.switch_settings.specs.Switch.{is_unconstrained}
use Rattle.switch_settings.specs.declared.MaxStep.{MaxStep}
use Rattle.switch_settings.specs.declared.MaxStep.TheVariants.{Unlimited, AtMost}
use Rattle.switch_settings.specs.declared.SwitchConstraints.{SwitchConstraints}
use Rattle.width_walk.specs.Walk.{first_at_least, snap_index, target_index, walk_index, Rising}
use Rattle.switching.specs.declared.Switching.{Switching}
use Rattle.width_walk.proofs.Found.{found_there}
use Rattle.ledger_laws.specs.Model.{Worker, Switching as Held, record_of}
use Rattle.planner_laws.specs.Calls.{Call}
use Rattle.planner_laws.specs.Standing.{Standing, given, after}
use Rattle.width_way.specs.Way.{is_candidate, stands_still, pause}
use Rattle.settling_laws.specs.Record.{Alike, after_all}
use Rattle.settling_laws.specs.Rounds.{rounds_of, Still, Premises}
use Rattle.settling_laws.proofs.Pacing.{walk, by_due, paces}
use Rattle.settling_laws.proofs.Record.{alike_rise, width_paced}
use Rattle.settling_laws.proofs.Settled.{Settled, goes_on, rounds_rise}

-- ---- a walk that stays at the snapped index
unmoved : (at to : ℕ) (step : MaxStep) → stands_still step ≡ true → walk_index at to step ≡ at
unmoved at to Unlimited h = clash h
unmoved at to (AtMost d) h = let z = eqb-true d 0 h in go (ltb at to) refl
  where
    go : (b : Bool) → ltb at to ≡ b → cond b (min (at + d) to) (max (at - d) to) ≡ at
    go true e = let w = ltb-true at to e in let z = eqb-true d 0 h in omega arith
    go false e = let w = ltb-false at to e in let z = eqb-true d 0 h in omega arith

at_itself : (at : ℕ) (step : MaxStep) → walk_index at at step ≡ at
at_itself at Unlimited = refl
at_itself at (AtMost d) = go (ltb at at)
  where
    go : (b : Bool) → cond b (min (at + d) at) (max (at - d) at) ≡ at
    go true = omega arith
    go false = omega arith

stays_at : (c : SwitchConstraints) (l : List ℕ) (target : ℕ) → Still c l target → (at : ℕ) → walk_index at (target_index l target at) c.max_step ≡ at
stays_at c l target still at =
    ⊎_elim (λ (h : stands_still c.max_step ≡ true). unmoved at (target_index l target at) c.max_step h)
    (λ (h : is_candidate l target ≡ false). ap (λ (b : Bool). walk_index at (cond b (first_at_least l target) at) c.max_step) h ∙ at_itself at c.max_step) still

-- it arrives at the snapped width, and stays there
snaps : (c : SwitchConstraints) (x : ℕ) (xs : List ℕ) (target : ℕ) → Still c (x ∷ xs) target → (width : ℕ)
    → walk c (x ∷ xs) target width ≡ get_or (x ∷ xs) (snap_index (x ∷ xs) width) 0
snaps c x xs target still width = ap (λ (j : ℕ). get_or (x ∷ xs) j 0) (stays_at c (x ∷ xs) target still (snap_index (x ∷ xs) width))

goes_nowhere : (c : SwitchConstraints) (l : List ℕ) (target : ℕ) → Rising 0 l → Still c l target → (width : ℕ) → walk c l target (walk c l target width) ≡ walk c l target width
goes_nowhere c [] target rising still width = refl
goes_nowhere c (x ∷ xs) target rising still width =
    let l : List ℕ = x ∷ xs in
    let at = snap_index l width in
    let inside : at < length l = omega arith in
    let found = found_there 0 l at rising inside in
    let home : snap_index l (get_or l at 0) ≡ at = omega arith in
    let once = snaps c x xs target still width in
    ap (walk c l target) once ∙ snaps c x xs target still (get_or l at 0) ∙ ap (λ (j : ℕ). get_or l j 0) home ∙ sym once

-- ---- a width with its counter, where a second walk goes nowhere
module _ (c : SwitchConstraints) (l : List ℕ) (target : ℕ) (rest : (width : ℕ) → walk c l target (walk c l target width) ≡ walk c l target width) where
  resting : (k : ℕ) (p : ℕ × ℕ) → walk c l target p.0 ≡ p.0 → (paces c l target k p).0 ≡ p.0
  resting zero p e = refl
  resting (suc k) p e = by_due c l target (λ (q : ℕ × ℕ). (paces c l target k q).0 ≡ p.0) p (λ d. resting k (walk c l target p.0, 0) (ap (walk c l target) e) ∙ e) (λ d. resting k (p.0, p.1 + 1) e)

  -- the width is the one that was held, or the one after one walk
  one_of_two : (k : ℕ) (p : ℕ × ℕ) → ((paces c l target k p).0 ≡ p.0) ⊎ ((paces c l target k p).0 ≡ walk c l target p.0)
  one_of_two zero p = inl refl
  one_of_two (suc k) p = by_due c l target (λ (q : ℕ × ℕ). ((paces c l target k q).0 ≡ p.0) ⊎ ((paces c l target k q).0 ≡ walk c l target p.0)) p
      (λ d. inr (resting k (walk c l target p.0, 0) (rest p.0)))
      (λ d. one_of_two k (p.0, p.1 + 1))

  -- and from the first walk on the latter
  first_walk : (k : ℕ) (p : ℕ × ℕ) → max (pause c - p.1) 1 ≤ k → (paces c l target k p).0 ≡ walk c l target p.0
  first_walk zero p h = absurd (let w : ⊥ = omega arith in w)
  first_walk (suc k) p h = by_due c l target (λ (q : ℕ × ℕ). (paces c l target k q).0 ≡ walk c l target p.0) p
      (λ d. resting k (walk c l target p.0, 0) (rest p.0))
      (λ d. let w = leb-false (pause c) (p.1 + 1) d in first_walk k (p.0, p.1 + 1) (omega arith))

  comes_to_rest : (k : ℕ) (p : ℕ × ℕ) → pause c ≤ k → (paces c l target k p).0 ≡ walk c l target p.0
  comes_to_rest k p h = first_walk k p (omega arith)

-- ---- OVER A RECORD BY ITSELF
module _ (c : SwitchConstraints) (candidates : List ℕ) (target : ℕ) (still : Still c candidates target) (s : Switching) where
  abbrev next : ℕ
  next = walk c candidates target s.width

  -- one of the two after any number of rounds, and the snapped width from the cooldown's rounds on
  pub record_rests : (curves : List (List Float)) → Alike candidates curves
      → (((after_all c target s curves).width ≡ s.width) ⊎ ((after_all c target s curves).width ≡ next)) × (pause c ≤ length curves → (after_all c target s curves).width ≡ next)
  record_rests [] alike = (inl refl, λ h. absurd (let w : ⊥ = omega arith in w))
  record_rests (curve ∷ curves) alike =
      let nowhere = goes_nowhere c candidates target (alike_rise candidates (curve ∷ curves) (omega arith) alike) still in
      let e = width_paced c candidates target s (curve ∷ curves) alike in (
        rw e (one_of_two c candidates target nowhere (length (curve ∷ curves)) (s.width, s.rounds)),
        λ h. e ∙ comes_to_rest c candidates target nowhere (length (curve ∷ curves)) (s.width, s.rounds) h,
      )

-- ---- OVER THE PLANNER'S CALLS
pub calls_rest : (v : Worker) (c : SwitchConstraints) (candidates : List ℕ) (target : ℕ) → is_unconstrained c ≡ false → Still c candidates target
    → (ks : List Call) (S : Standing) (r : Held) → record_of v (given S.changes) ≡ some r → Premises v c candidates target ks S
    → pause c ≤ rounds_of v ks S → Settled (record_of v (given (after ks S).changes)) (walk c candidates target r.width)
calls_rest v c candidates target bound still ks S r e h many =
    let on = goes_on v c candidates target bound ks S r e h in
    let nowhere = goes_nowhere c candidates target (rounds_rise v c candidates target ks S h (omega arith)) still in
    record {
      held = on.held;
      is = on.is;
      width_is = ap (λ (p : ℕ × ℕ). p.0) on.paired ∙ comes_to_rest c candidates target nowhere (rounds_of v ks S) (r.width, r.rounds) many;
    }
