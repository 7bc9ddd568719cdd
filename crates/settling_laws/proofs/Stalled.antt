-- What the way to the target costs: from a stall of 0 on it is at most m changes, each of at most 3,600 s. Assumes nothing.
use mathlib.Core.Path.{◌≡◌, refl, ap, subst}
use mathlib.Core.Bool.{true, false, cond}
use mathlib.Core.List.{List, [], ◌∷◌}
use Prim.Native.Nat.{ℕ, ◌+◌, ◌*◌, ◌^◌, ◌<◌}
use native.Mathlib.Omega.{arith}
use lib.Dec.{eqb}
use lib.ListN.{length}
use lib.Ieee.{Float}
use Rattle.float.specs.Floats.{f0}
use Rattle.switch_settings.specs.Switch.{switch_refusal}
use Rattle.switch_settings.specs.declared.SwitchConstraints.{SwitchConstraints}
use Rattle.switching.specs.Deciding.{decided}
use Rattle.switching.specs.declared.Switching.{Switching}
use Rattle.switching.proofs.Stalls.{UpTo, Asked, AllJudged, after, changes_in as counted, stall_since}
use Rattle.goodput_laws.proofs.Bounds.{up_to_more}
use Rattle.width_way.specs.Way.{is_candidate, stands_still, away_from, walks_for}
use Rattle.settling_laws.specs.Record.{Alike, after_all, changes_in}
use Rattle.settling_laws.proofs.Record.{changes_most}

module _ (c : SwitchConstraints) (target : ℕ) where
  -- the rounds as switching's own run of decisions
  asked : List (List Float) → List Asked
  asked [] = []
  asked (curve ∷ curves) = record { curve = curve; target = target; constraints = c } ∷ asked curves

  same_after : (s : Switching) (curves : List (List Float)) → after s (asked curves) ≡ after_all c target s curves
  unfolding asked
  same_after s [] = refl
  same_after s (curve ∷ curves) = same_after (decided s curve target c) curves

  same_changes : (s : Switching) (curves : List (List Float)) → counted s (asked curves) ≡ changes_in c target s curves
  unfolding asked
  same_changes s [] = refl
  same_changes s (curve ∷ curves) = ap (λ (n : ℕ). cond (eqb (decided s curve target c).width s.width) 0 1 + n) (same_changes (decided s curve target c) curves)

  all_judged : (curves : List (List Float)) → switch_refusal c ≡ 0 → AllJudged (asked curves)
  unfolding asked
  all_judged [] h = tt
  all_judged (curve ∷ curves) h = (h, all_judged curves h)

  as_many : (curves : List (List Float)) → length (asked curves) ≡ length curves
  unfolding asked
  as_many [] = refl
  as_many (curve ∷ curves) = let h = as_many curves in omega arith

  -- after a collection, or a first decision
  pub stall_on_the_way : (candidates : List ℕ) (s : Switching) (curves : List (List Float)) → Alike candidates curves
      → stands_still c.max_step ≡ false → is_candidate candidates target ≡ true
      → switch_refusal c ≡ 0 → s.stall ≡ f0 → 3600 * length curves < 2 ^ 53
      → UpTo (3600 * walks_for c.max_step (away_from candidates s.width target)) (after_all c target s curves).stall
  stall_on_the_way candidates s curves alike steps there judged collected few =
      let grown = stall_since s (asked curves) collected (all_judged curves judged) (omega (arith, as_many curves)) in
      let most = changes_most c candidates target s curves alike steps there in
      subst (λ (t : Switching). UpTo (3600 * walks_for c.max_step (away_from candidates s.width target)) t.stall) (same_after s curves)
      (up_to_more (3600 * counted s (asked curves)) (3600 * walks_for c.max_step (away_from candidates s.width target)) (after s (asked curves)).stall
      (omega (arith, most, same_changes s curves)) grown)
