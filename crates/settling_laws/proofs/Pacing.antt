-- A width with its counter, round after round under the same settings, candidates and target; and where the width is after each walk. Assumes nothing.
use mathlib.Core.Path.{◌≡◌, refl, ap, ◌∙◌}
use mathlib.Core.Bool.{Bool, true, false, cond}
use mathlib.Core.List.{List}
use Prim.Native.Nat.{ℕ, zero, suc, ◌+◌, ◌-◌, ◌*◌, ◌<◌}
use native.Mathlib.Nat.{suc-mul}
use native.Mathlib.Omega.{arith}
use borrow.Author.Tests.{le-leb, lt-leb}
use lib.ListN.{get_or}
use Rattle.switch_settings.specs.declared.SwitchConstraints.{SwitchConstraints}
use Rattle.width_walk.specs.Walk.{walk_candidates}
use Rattle.switching.specs.Deciding.{is_due}
use Rattle.width_way.specs.Way.{pause, way}

module _ (c : SwitchConstraints) (l : List ℕ) (target : ℕ) where
  abbrev pub walk : ℕ → ℕ
  walk width = walk_candidates l width target c.max_step

  -- after one round more
  abbrev pub paced : ℕ × ℕ → ℕ × ℕ
  paced p = cond (is_due c (p.1 + 1)) (walk p.0, 0) (p.0, p.1 + 1)

  pub by_due : (P : ℕ × ℕ → Type 0) (p : ℕ × ℕ) → (is_due c (p.1 + 1) ≡ true → P (walk p.0, 0)) → (is_due c (p.1 + 1) ≡ false → P (p.0, p.1 + 1)) → P (paced p)
  by_due P p due wait = go (is_due c (p.1 + 1)) due wait
    where
      go : (b : Bool) → (b ≡ true → P (walk p.0, 0)) → (b ≡ false → P (p.0, p.1 + 1)) → P (cond b (walk p.0, 0) (p.0, p.1 + 1))
      go true due wait = due refl
      go false due wait = wait refl

  -- after k
  abbrev pub paces : ℕ → ℕ × ℕ → ℕ × ℕ
  paces zero p = p
  paces (suc k) p = paces k (paced p)

  -- ---- where it is after each walk, the counter being 0 at first
  added : (a b : ℕ) (p : ℕ × ℕ) → paces (a + b) p ≡ paces b (paces a p)
  added zero b p = let m : 0 + b ≡ b = omega arith in rw m refl
  added (suc a) b p = let m : suc a + b ≡ suc (a + b) = omega arith in rw m (added a b (paced p))

  waited : (j width : ℕ) → j < pause c → paces (suc j) (width, pause c - suc j) ≡ (walk width, 0)
  waited zero width h = rw (le-leb (pause c) (pause c - 1 + 1) (omega arith)) refl
  waited (suc j) width h =
      let m : pause c - suc (suc j) + 1 ≡ pause c - suc j = omega arith in
      rw (lt-leb (pause c) (pause c - suc (suc j) + 1) (omega arith), m) (waited j width (omega arith))

  one_walk : (width : ℕ) → paces (pause c) (width, 0) ≡ (walk width, 0)
  one_walk width =
      let m : suc (pause c - 1) ≡ pause c = omega arith in
      let z : pause c - suc (pause c - 1) ≡ 0 = omega arith in
      rw (z, m) at (waited (pause c - 1) width (omega arith))

  pub after_each : (n k width : ℕ) → k < n → paces (suc k * pause c) (width, 0) ≡ (get_or (way c.max_step l target width n) k 0, 0)
  unfolding way
  after_each zero k width h = absurd (let w : ⊥ = omega arith in w)
  after_each (suc n) zero width h = let m : 1 * pause c ≡ pause c = omega arith in rw m (one_walk width)
  after_each (suc n) (suc k) width h =
      let m : suc (suc k) * pause c ≡ pause c + suc k * pause c = suc-mul (suc k) (pause c) ∙ omega arith in
      ap (λ (x : ℕ). paces x (width, 0)) m ∙ added (pause c) (suc k * pause c) (width, 0) ∙ ap (paces (suc k * pause c)) (one_walk width)
      ∙ after_each n k (walk width) (omega arith)
