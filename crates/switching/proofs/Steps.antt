-- The record's steps and what is refused: each way through the code. Assumes nothing.
use mathlib.Core.Path.{◌≡◌, refl, sym, ap, ◌∙◌}
use mathlib.Core.Bool.{Bool, true, false, ◌&&◌, cond}
use mathlib.Core.List.{List}
use Prim.Native.Nat.{ℕ, ◌≤◌, ◌<◌}
use native.Mathlib.Omega.{arith}
use borrow.Author.Tests.{le-leb, lt-leb, eq-eqb, ne_eqb, leb-true}
use lib.Dec.{leb}
use lib.ListN.{length}
use lib.Ieee.{Float}
use Rattle.std.specs.Prelude.{Ok, Err}
use Rattle.float.specs.Floats.{plus, times, is_finite, is_clear}
use Rattle.refusals.specs.declared.Refusal.TheVariants.{Size, Input}
use Rattle.refusals.specs.Refusals.{passed_if}
use Rattle.refusals.proofs.First.{refused_is_no_pass, both_pass}
use Rattle.switch_settings.specs.Switch.{switch_judged}
use Rattle.switch_settings.specs.declared.SwitchConstraints.{SwitchConstraints}
use Rattle.switching.specs.Deciding.{milli, is_due, counted, at_width, walked, candidates_of, next, decided, most_width, most_rounds, most_depths, record_judged as judged_record, decide_judged, at_first, first_decision}
use Rattle.switching.specs.declared.Switching.{Switching}
use Rattle.switching.specs.declared.Decided.{Decided}

-- ---- a width that changed, and one that did not
module _ (s : Switching) (w v : ℕ) (constraints : SwitchConstraints) (e : w ≡ v) where
  pub changed : (w ≡ s.width → ⊥) → ◌≡◌ {A = Switching} (record { width = w; rounds = 0; stall = plus s.stall (times milli constraints.cost_ms) }) (at_width s v constraints)
  changed h = go ∙ ap (λ (x : ℕ). at_width s x constraints) e
    where
      go : ◌≡◌ {A = Switching} (record { width = w; rounds = 0; stall = plus s.stall (times milli constraints.cost_ms) }) (at_width s w constraints)
      go = rw (ne_eqb w s.width h)

  pub same : w ≡ s.width → ◌≡◌ {A = Switching} (record { width = s.width; rounds = 0; stall = s.stall }) (at_width s v constraints)
  same h = go ∙ ap (λ (x : ℕ). at_width s x constraints) e
    where
      go : ◌≡◌ {A = Switching} (record { width = s.width; rounds = 0; stall = s.stall }) (at_width s w constraints)
      go = rw (eq-eqb w s.width h) (ap (λ (x : ℕ). record { width = x; rounds = 0; stall = s.stall }) (sym h))

-- ---- one decision, once a round is counted
module _ (curve : List Float) (target : ℕ) (constraints : SwitchConstraints) (s t : Switching) (b : Bool) (e : t ≡ counted s) (q : b ≡ is_due constraints t.rounds) where
  pub goes : (u : Switching) → b ≡ true → u ≡ walked t (candidates_of curve) target constraints → u ≡ decided s curve target constraints
  goes u h w =
      let d : is_due constraints t.rounds ≡ true = sym q ∙ h in
      w ∙ sym (ap (λ (x : Bool). cond x (walked t (candidates_of curve) target constraints) t) d) ∙ ap (λ (y : Switching). next y curve target constraints) e

  pub waits : b ≡ false → t ≡ decided s curve target constraints
  waits h =
      let d : is_due constraints t.rounds ≡ false = sym q ∙ h in
      sym (ap (λ (x : Bool). cond x (walked t (candidates_of curve) target constraints) t) d) ∙ ap (λ (y : Switching). next y curve target constraints) e

-- ---- the record
module _ (s : Switching) where
  pub record_wide : most_width < s.width → judged_record s ≡ Err Input
  unfolding judged_record
  record_wide h = rw (lt-leb s.width most_width h)

  pub record_long : s.width ≤ most_width → most_rounds < s.rounds → judged_record s ≡ Err Input
  unfolding judged_record
  record_long g h = rw (le-leb s.width most_width g, lt-leb s.rounds most_rounds h)

  pub record_judged : (a b : Bool) → s.width ≤ most_width → s.rounds ≤ most_rounds → is_finite s.stall ≡ a → is_clear s.stall ≡ b → passed_if (a && b) Input ≡ judged_record s
  unfolding judged_record
  record_judged a b g h p q = rw (le-leb s.width most_width g, le-leb s.rounds most_rounds h, p, q)

  -- a record that passes
  pub record_passed : judged_record s ≡ Ok tt → (s.width ≤ most_width) × (s.rounds ≤ most_rounds) × (is_finite s.stall ≡ true) × (is_clear s.stall ≡ true)
  unfolding judged_record
  record_passed e = go (leb s.width most_width) (leb s.rounds most_rounds) (is_finite s.stall) (is_clear s.stall) refl refl refl refl e
    where
      go : (a b c d : Bool) → leb s.width most_width ≡ a → leb s.rounds most_rounds ≡ b → is_finite s.stall ≡ c → is_clear s.stall ≡ d → passed_if (a && (b && (c && d))) Input ≡ Ok tt
          → (s.width ≤ most_width) × (s.rounds ≤ most_rounds) × (is_finite s.stall ≡ true) × (is_clear s.stall ≡ true)
      go true true true true f g h i z = (leb-true _ _ f, leb-true _ _ g, h, i)
      go false b c d f g h i z = refused_is_no_pass Input z
      go true false c d f g h i z = refused_is_no_pass Input z
      go true true false d f g h i z = refused_is_no_pass Input z
      go true true true false f g h i z = refused_is_no_pass Input z

-- ---- where nothing is refused the curve is in range, and so is the record
module _ (s : Switching) (curve : List Float) (constraints : SwitchConstraints) where
  pub decide_passed : decide_judged s curve constraints ≡ Ok tt → (length curve ≤ most_depths) × (judged_record s ≡ Ok tt)
  unfolding decide_judged
  decide_passed e =
      let behind_settings = (both_pass (switch_judged constraints) _ e).1 in
      let size = both_pass (passed_if (leb (length curve) most_depths) Size) _ behind_settings in
      (short (leb (length curve) most_depths) refl size.0, (both_pass (judged_record s) _ size.1).0)
    where
      short : (b : Bool) → leb (length curve) most_depths ≡ b → passed_if b Size ≡ Ok tt → length curve ≤ most_depths
      short true f z = leb-true (length curve) most_depths f
      short false f z = refused_is_no_pass Size z

  pub decide_rounds : decide_judged s curve constraints ≡ Ok tt → s.rounds < 4294967295
  decide_rounds e = let low : s.rounds ≤ most_rounds = (record_passed s (decide_passed e).1).1 in omega arith

  pub decide_depths : decide_judged s curve constraints ≡ Ok tt → length curve ≤ 65
  decide_depths e = (decide_passed e).0

-- ---- the first decision
pub first_free : (target : ℕ) → target ≤ most_width → ◌≡◌ {A = Decided} (record { answer = Ok target; kept = at_first target }) (first_decision target)
unfolding first_decision
first_free target h = rw (le-leb target most_width h)
