-- HOW LONG UNTIL THE WIDTH SETTLES, over a switching record by itself: rounds with the same settings, candidates and target, each with a price curve of its
-- own. Assumes nothing.
use mathlib.Core.Path.{◌≡◌, refl, sym, ap, ◌∙◌, subst}
use mathlib.Core.Bool.{Bool, true, false, cond}
use mathlib.Core.List.{List, [], ◌∷◌}
use Prim.Native.Nat.{ℕ, suc, ◌+◌, ◌*◌, ◌≤◌, ◌<◌}
use native.Mathlib.Nat.{mul-le-mul_right}
use native.Mathlib.Omega.{arith}
use lib.Dec.{eqb}
use lib.ListN.{length, get_or}
use lib.Ieee.{Float}
use Rattle.switch_settings.specs.declared.SwitchConstraints.{SwitchConstraints}
use Rattle.width_walk.specs.Walk.{walk_candidates, Rising}
use Rattle.switching.specs.Deciding.{is_due, counted, walked, candidates_of, decided}
use Rattle.switching.specs.declared.Switching.{Switching}
use Rattle.switching.proofs.Widths.{candidates_rise}
use Rattle.width_way.specs.Way.{is_candidate, stands_still, away_from, walks_for, pause, rounds_for, way}
use Rattle.settling_laws.specs.Record.{Alike, after_all, changes_in}
use Rattle.settling_laws.proofs.Walks.{some_walk}
use Rattle.settling_laws.proofs.Pacing.{paced, paces, after_each}
use Rattle.settling_laws.proofs.Arrival.{changed, settles, no_sooner as not_yet, changes_few}

-- ---- a decision is one round of a width with its counter
pub decided_paced : (s : Switching) (curve : List Float) (target : ℕ) (c : SwitchConstraints)
    → ◌≡◌ {A = ℕ × ℕ} ((decided s curve target c).width, (decided s curve target c).rounds) (paced c (candidates_of curve) target (s.width, s.rounds))
decided_paced s curve target c = go (is_due c (s.rounds + 1))
  where
    go : (b : Bool)
        → ◌≡◌ {A = ℕ × ℕ} ((cond b (walked (counted s) (candidates_of curve) target c) (counted s)).width, (cond b (walked (counted s) (candidates_of curve) target c) (counted s)).rounds)
        (cond b (walk_candidates (candidates_of curve) s.width target c.max_step, 0) (s.width, s.rounds + 1))
    go true = refl
    go false = refl

-- the candidates of a round rise
pub alike_rise : (candidates : List ℕ) (curves : List (List Float)) → 1 ≤ length curves → Alike candidates curves → Rising 0 candidates
alike_rise candidates [] h alike = absurd (let w : ⊥ = omega arith in w)
alike_rise candidates (curve ∷ curves) h alike = subst (Rising 0) alike.0 (candidates_rise 0 curve)

module _ (c : SwitchConstraints) (candidates : List ℕ) (target : ℕ) where
  one_paced : (s : Switching) (curve : List Float) → candidates_of curve ≡ candidates
      → ◌≡◌ {A = ℕ × ℕ} ((decided s curve target c).width, (decided s curve target c).rounds) (paced c candidates target (s.width, s.rounds))
  one_paced s curve e = decided_paced s curve target c ∙ ap (λ (l : List ℕ). paced c l target (s.width, s.rounds)) e

  pub all_paced : (s : Switching) (curves : List (List Float)) → Alike candidates curves
      → ◌≡◌ {A = ℕ × ℕ} ((after_all c target s curves).width, (after_all c target s curves).rounds) (paces c candidates target (length curves) (s.width, s.rounds))
  all_paced s [] alike = refl
  all_paced s (curve ∷ curves) alike =
      all_paced (decided s curve target c) curves alike.1 ∙ ap (paces c candidates target (length curves)) (one_paced s curve alike.0)

  pub width_paced : (s : Switching) (curves : List (List Float)) → Alike candidates curves
      → (after_all c target s curves).width ≡ (paces c candidates target (length curves) (s.width, s.rounds)).0
  width_paced s curves alike = ap (λ (p : ℕ × ℕ). p.0) (all_paced s curves alike)

  all_changed : (s : Switching) (curves : List (List Float)) → Alike candidates curves
      → changes_in c target s curves ≡ changed c candidates target (length curves) (s.width, s.rounds)
  all_changed s [] alike = refl
  all_changed s (curve ∷ curves) alike =
      ap (λ (n : ℕ). cond (eqb (decided s curve target c).width s.width) 0 1 + n) (all_changed (decided s curve target c) curves alike.1)
      ∙ ap (λ (p : ℕ × ℕ). cond (eqb p.0 s.width) 0 1 + changed c candidates target (length curves) p) (one_paced s curve alike.0)

  module _ (s : Switching) (curves : List (List Float)) (alike : Alike candidates curves) where
    -- THE WIDTH IS THE TARGET after at most m times max(cooldown, 1) rounds, and stays there: it is so after any number of rounds from there on
    pub width_settles : stands_still c.max_step ≡ false → is_candidate candidates target ≡ true
        → rounds_for c (away_from candidates s.width target) ≤ length curves → (after_all c target s curves).width ≡ target
    width_settles steps there many =
        let walks = some_walk c.max_step (away_from candidates s.width target) in
        let least : 1 * pause c ≤ rounds_for c (away_from candidates s.width target) = mul-le-mul_right (pause c) walks in
        let rising = alike_rise candidates curves (omega (arith, least, many)) alike in
        width_paced s curves alike ∙ settles c candidates target rising there steps (length curves) (s.width, s.rounds) many

    -- and no sooner, if it was not the target at first: while the rounds and the counter together are fewer
    pub no_sooner : stands_still c.max_step ≡ false → is_candidate candidates target ≡ true → (s.width ≡ target → ⊥)
        → length curves + s.rounds < rounds_for c (away_from candidates s.width target) → (after_all c target s curves).width ≡ target → ⊥
    no_sooner steps there apart early = go curves alike early (width_paced s curves alike)
      where
        go : (curves : List (List Float)) → Alike candidates curves → length curves + s.rounds < rounds_for c (away_from candidates s.width target)
            → (after_all c target s curves).width ≡ (paces c candidates target (length curves) (s.width, s.rounds)).0 → (after_all c target s curves).width ≡ target → ⊥
        go [] alike early e = apart
        go (curve ∷ curves) alike early e = λ is.
            not_yet c candidates target (alike_rise candidates (curve ∷ curves) (omega arith) alike) there steps (length (curve ∷ curves)) (s.width, s.rounds) apart early (sym e ∙ is)

    -- at most m of the rounds change the width
    pub changes_most : stands_still c.max_step ≡ false → is_candidate candidates target ≡ true
        → changes_in c target s curves ≤ walks_for c.max_step (away_from candidates s.width target)
    changes_most steps there = go curves alike (all_changed s curves alike)
      where
        go : (curves : List (List Float)) → Alike candidates curves → changes_in c target s curves ≡ changed c candidates target (length curves) (s.width, s.rounds)
            → changes_in c target s curves ≤ walks_for c.max_step (away_from candidates s.width target)
        go [] alike e = omega arith
        go (curve ∷ curves) alike e =
            let rising = alike_rise candidates (curve ∷ curves) (omega arith) alike in
            rw e (changes_few c candidates target rising there steps (length (curve ∷ curves)) (s.width, s.rounds))

    -- with the counter at 0 at first, the width after walk k + 1 is entry k of the way
    pub on_the_way : (m k : ℕ) → k < m → s.rounds ≡ 0 → length curves ≡ suc k * pause c
        → (after_all c target s curves).width ≡ get_or (way c.max_step candidates target s.width m) k 0
    on_the_way m k inside fresh many =
        width_paced s curves alike
        ∙ ap (λ (p : ℕ × ℕ). p.0)
        (ap (λ (n : ℕ). paces c candidates target n (s.width, s.rounds)) many
        ∙ ap (λ (n : ℕ). paces c candidates target (suc k * pause c) (s.width, n)) fresh
        ∙ after_each c candidates target m k s.width inside)
