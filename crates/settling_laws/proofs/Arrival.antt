-- When a width with its counter is at a target that is a candidate: after m times max(cooldown, 1) rounds, no sooner, and with at most m changes. Assumes nothing.
use mathlib.Core.Path.{◌≡◌, refl, ◌∙◌}
use mathlib.Core.Bool.{Bool, true, false, cond}
use mathlib.Core.List.{List}
use Prim.Native.Nat.{ℕ, zero, suc, ◌+◌, ◌-◌, ◌*◌, ◌≤◌, ◌<◌, max}
use native.Mathlib.Nat.{suc-mul, one-mul}
use native.Mathlib.Omega.{arith}
use borrow.Author.Tests.{leb-true, leb-false, eq-eqb}
use lib.Dec.{eqb}
use Rattle.switch_settings.specs.declared.SwitchConstraints.{SwitchConstraints}
use Rattle.width_walk.specs.Walk.{Rising}
use Rattle.width_way.specs.Way.{is_candidate, stands_still, away_from, walks_for, pause, rounds_for}
use Rattle.settling_laws.proofs.Walks.{Left, left_first, left_less, stays, Far, far_off, far_less, far_first}
use Rattle.settling_laws.proofs.Pacing.{walk, paced, by_due, paces}

-- ---- counting changes
unmoved : {rest n : ℕ} (v w : ℕ) → v ≡ w → rest ≤ n → cond (eqb v w) 0 1 + rest ≤ n
unmoved v w e h = rw (eq-eqb v w e) (omega arith)

at_most_one : {rest n : ℕ} (b : Bool) → rest ≤ n → cond b 0 1 + rest ≤ suc n
at_most_one true h = omega arith
at_most_one false h = omega arith

module _ (c : SwitchConstraints) (l : List ℕ) (target : ℕ) where
  -- how many of k rounds change the width
  abbrev pub changed : ℕ → ℕ × ℕ → ℕ
  changed zero p = 0
  changed (suc k) p = cond (eqb (paced c l target p).0 p.0) 0 1 + changed k (paced c l target p)

  -- ---- to a target that is a candidate
  module _ (rising : Rising 0 l) (here : is_candidate l target ≡ true) where
    abbrev ToGo : ℕ → ℕ → Type 0
    ToGo n width = Left c.max_step l rising target here n width

    -- k rounds are enough for n walks: the first is due when the counter is the cooldown, at the latest
    abbrev Enough : ℕ → ℕ → ℕ → Type 0
    Enough zero counter k = Unit {0}
    Enough (suc n) counter k = n * pause c + max (pause c - counter) 1 ≤ k

    enough_walked : (n counter k : ℕ) → Enough (suc n) counter (suc k) → Enough n 0 k
    enough_walked zero counter k h = tt
    enough_walked (suc n) counter k h = let m = suc-mul n (pause c) in omega arith

    enough_waited : (n counter k : ℕ) → counter + 1 < pause c → Enough (suc n) counter (suc k) → Enough (suc n) (counter + 1) k
    enough_waited n counter k w h = omega arith

    arrives : (k n : ℕ) (p : ℕ × ℕ) → ToGo n p.0 → Enough n p.1 k → (paces c l target k p).0 ≡ target
    arrives zero zero p left h = left
    arrives zero (suc n) p left h = absurd (let w : ⊥ = omega arith in w)
    arrives (suc k) zero p left h = by_due c l target (λ (q : ℕ × ℕ). (paces c l target k q).0 ≡ target) p
        (λ e. arrives k zero (walk c l target p.0, 0) (stays c.max_step l rising target here p.0 left ∙ left) tt)
        (λ e. arrives k zero (p.0, p.1 + 1) left tt)
    arrives (suc k) (suc n) p left h = by_due c l target (λ (q : ℕ × ℕ). (paces c l target k q).0 ≡ target) p
        (λ e. arrives k n (walk c l target p.0, 0) (left_less c.max_step l rising target here n p.0 left) (enough_walked n p.1 k h))
        (λ e. arrives k (suc n) (p.0, p.1 + 1) left (enough_waited n p.1 k (leb-false (pause c) (p.1 + 1) e) h))

    -- after m times max(cooldown, 1) rounds, and ever after
    pub settles : stands_still c.max_step ≡ false → (k : ℕ) (p : ℕ × ℕ) → rounds_for c (away_from l p.0 target) ≤ k → (paces c l target k p).0 ≡ target
    settles moves k p h =
        go (walks_for c.max_step (away_from l p.0 target)) (left_first c.max_step l rising target here moves p.0) h
      where
        go : (m : ℕ) → ToGo m p.0 → m * pause c ≤ k → (paces c l target k p).0 ≡ target
        go zero left h = arrives k zero p left tt
        go (suc n) left h = let m = suc-mul n (pause c) in arrives k (suc n) p left (omega arith)

    -- at most so many changes as there are walks to go
    few : (k n : ℕ) (p : ℕ × ℕ) → ToGo n p.0 → changed k p ≤ n
    few zero n p left = omega arith
    few (suc k) zero p left = by_due c l target (λ (q : ℕ × ℕ). cond (eqb q.0 p.0) 0 1 + changed k q ≤ 0) p
        (λ e. let s = stays c.max_step l rising target here p.0 left in unmoved (walk c l target p.0) p.0 s (few k zero (walk c l target p.0, 0) (s ∙ left)))
        (λ e. unmoved p.0 p.0 refl (few k zero (p.0, p.1 + 1) left))
    few (suc k) (suc n) p left = by_due c l target (λ (q : ℕ × ℕ). cond (eqb q.0 p.0) 0 1 + changed k q ≤ suc n) p
        (λ e. at_most_one (eqb (walk c l target p.0) p.0) (few k n (walk c l target p.0, 0) (left_less c.max_step l rising target here n p.0 left)))
        (λ e. unmoved p.0 p.0 refl (few k (suc n) (p.0, p.1 + 1) left))

    pub changes_few : stands_still c.max_step ≡ false → (k : ℕ) (p : ℕ × ℕ) → changed k p ≤ walks_for c.max_step (away_from l p.0 target)
    changes_few moves k p = few k (walks_for c.max_step (away_from l p.0 target)) p (left_first c.max_step l rising target here moves p.0)

    -- ---- and no sooner: while the rounds and the counter together are fewer than n walks and one more take
    not_yet : (k n : ℕ) (p : ℕ × ℕ) → Far c.max_step l rising target here n p.0 → k + p.1 < suc n * pause c → (paces c l target k p).0 ≡ target → ⊥
    not_yet zero n p far h = far_off c.max_step l rising target here n p.0 far
    not_yet (suc k) zero p far h = by_due c l target (λ (q : ℕ × ℕ). (paces c l target k q).0 ≡ target → ⊥) p
        (λ e. absurd (let w = leb-true (pause c) (p.1 + 1) e in let o = one-mul (pause c) in let z : ⊥ = omega arith in z))
        (λ e. not_yet k zero (p.0, p.1 + 1) far (omega arith))
    not_yet (suc k) (suc n) p far h = by_due c l target (λ (q : ℕ × ℕ). (paces c l target k q).0 ≡ target → ⊥) p
        (λ e. not_yet k n (walk c l target p.0, 0) (far_less c.max_step l rising target here n p.0 far)
        (let w = leb-true (pause c) (p.1 + 1) e in let m = suc-mul (suc n) (pause c) in omega arith))
        (λ e. not_yet k (suc n) (p.0, p.1 + 1) far (omega arith))

    pub no_sooner : stands_still c.max_step ≡ false → (k : ℕ) (p : ℕ × ℕ) → (p.0 ≡ target → ⊥) → k + p.1 < rounds_for c (away_from l p.0 target) → (paces c l target k p).0 ≡ target → ⊥
    no_sooner moves k p apart h = go (walks_for c.max_step (away_from l p.0 target)) refl h
      where
        go : (m : ℕ) → walks_for c.max_step (away_from l p.0 target) ≡ m → k + p.1 < m * pause c → (paces c l target k p).0 ≡ target → ⊥
        go zero e h = absurd (let z : ⊥ = omega arith in z)
        go (suc n) e h = not_yet k n p (far_first c.max_step l rising target here moves n p.0 e apart) h
