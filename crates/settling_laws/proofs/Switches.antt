-- How often a worker's width changes on its way, over the planner's own calls: at most m of them change it. Each change costs one switch, so what is collected
-- on the way and what is still held come to at most m switches. Assumes nothing.
use mathlib.Core.Path.{◌≡◌, refl, ap, ◌∙◌}
use mathlib.Core.Bool.{Bool, true, false, cond}
use mathlib.Core.List.{List, [], ◌∷◌}
use mathlib.Core.Option.{Option, some}
use Prim.Native.Nat.{ℕ, zero, suc, ◌+◌, ◌≤◌}
use native.Mathlib.Omega.{arith}
use borrow.Author.Tests.{eq-eqb}
use lib.Dec.{eqb}
use Rattle.switch_settings.specs.Switch.{is_unconstrained}
use Rattle.switch_settings.specs.declared.SwitchConstraints.{SwitchConstraints}
use Rattle.ledger_laws.specs.Model.{Worker, Switching, record_of}
use Rattle.planner_laws.specs.Calls.{Call}
use Rattle.planner_laws.specs.Standing.{Standing, given, step}
use Rattle.width_walk.specs.Walk.{Rising}
use Rattle.width_way.specs.Way.{away_from, walks_for}
use Rattle.settling_laws.specs.Rounds.{is_round, rounds_of, same_width, switches_of, Moves, EachRound, Premises}
use Rattle.settling_laws.proofs.Pacing.{paced}
use Rattle.settling_laws.proofs.Arrival.{changed, changes_few}
use Rattle.settling_laws.proofs.Settled.{one_call, rounds_rise}

module _ (v : Worker) (c : SwitchConstraints) (l : List ℕ) (target : ℕ) where
  -- a call that is no round changes nothing of it
  one_more : (b : Bool) (k : ℕ) (p : ℕ × ℕ)
      → cond (eqb (cond b (paced c l target p) p).0 p.0) 0 1 + changed c l target k (cond b (paced c l target p) p) ≡ changed c l target (cond b 1 0 + k) p
  one_more true k p = let m : 1 + k ≡ suc k = omega arith in rw m refl
  one_more false k p =
      let m : 0 + k ≡ k = omega arith in
      let z : 0 + changed c l target k p ≡ changed c l target k p = omega arith in
      rw (eq-eqb p.0 p.0 refl, m) z

  all_changed : is_unconstrained c ≡ false → (ks : List Call) (S : Standing) (r : Switching) → record_of v (given S.changes) ≡ some r → Premises v c l target ks S
      → switches_of v ks S ≡ changed c l target (rounds_of v ks S) (r.width, r.rounds)
  unfolding EachRound rounds_of switches_of
  all_changed bound [] S r e h = refl
  all_changed bound (k ∷ ks) S r e h =
      let one = one_call v c l target bound k S r e h.0 h.1 in
      let rest = all_changed bound ks (step k S) one.held one.is h.2 in
      let here : same_width (record_of v (given S.changes)) (record_of v (given (step k S).changes)) ≡ eqb one.held.width r.width =
      ap (λ (o : Option Switching). same_width o (record_of v (given (step k S).changes))) e ∙ ap (same_width (some r)) one.is in
      ap (λ (b : Bool). cond b 0 1 + switches_of v ks (step k S)) here
      ∙ ap (λ (n : ℕ). cond (eqb one.held.width r.width) 0 1 + n) rest
      ∙ ap (λ (p : ℕ × ℕ). cond (eqb p.0 r.width) 0 1 + changed c l target (rounds_of v ks (step k S)) p) one.paired
      ∙ one_more (is_round v k S) (rounds_of v ks (step k S)) (r.width, r.rounds)

  pub switches_most : Moves c l target → (ks : List Call) (S : Standing) (r : Switching) → record_of v (given S.changes) ≡ some r → Premises v c l target ks S
      → switches_of v ks S ≤ walks_for c.max_step (away_from l r.width target)
  switches_most moves ks S r e h = rw (all_changed moves.constrained ks S r e h) (go (rounds_of v ks S) (rounds_rise v c l target ks S h))
    where
      go : (n : ℕ) → (1 ≤ n → Rising 0 l) → changed c l target n (r.width, r.rounds) ≤ walks_for c.max_step (away_from l r.width target)
      go zero rising = omega arith
      go (suc n) rising = changes_few c l target (rising (omega arith)) moves.there moves.steps (suc n) (r.width, r.rounds)
