-- The loop that writes the widths after each walk to the front of a buffer: what it keeps, its start, a turn and its end; and that its way by indices is the
-- rules' way from width to width. Assumes nothing.
use mathlib.Core.Path.{◌≡◌, refl, sym, ◌∙◌, ap}
use mathlib.Core.Bool.{Bool, true, cond}
use mathlib.Core.List.{List, [], ◌∷◌, ◌++◌, append_assoc, append-nil}
use Prim.Native.Nat.{ℕ, zero, suc, ◌+◌, ◌-◌, ◌≤◌, ◌<◌}
use native.Mathlib.Numerals.{add-one}
use native.Mathlib.Nat.{not-suc-le-zero}
use native.Mathlib.Omega.{arith}
use borrow.Author.Tests.{ltb-true, eqb-true}
use lib.Dec.{ltb, eqb}
use lib.ListN.{length, take, drop, set, get_or, length-set, take-append-drop}
use lib.Seq.{take-suc-set, drop-set-lt, drop-drop}
use Rattle.laws.proofs.Both.{both}
use Rattle.switch_settings.specs.declared.MaxStep.{MaxStep}
use Rattle.width_walk.specs.Walk.{first_at_least, snap_index, walk_index, walk_candidates, Rising}
use Rattle.width_walk.proofs.Walking.{walk_within}
use Rattle.width_walk.proofs.Found.{snap_there}
use Rattle.width_way.specs.Way.{is_candidate, way}
use Rattle.width_way.specs.Indices.{way_from}

module _ (step : MaxStep) (candidates : List ℕ) (to at walks : ℕ) (old : List ℕ) where
  -- k walks are done, which led to index i; behind their widths all is as it was
  pub record Followed (buf : List ℕ) (i k : ℕ) : Type 0 where
    pub low : k ≤ walks
    pub inside : i < length candidates
    pub long : length buf ≡ length old
    pub done : take k buf ++ way_from step candidates to i (walks - k) ≡ way_from step candidates to at walks
    pub rest : drop k buf ≡ drop k old

  pub followed_none : at < length candidates → Followed old at 0
  followed_none h = record { low = omega arith; inside = h; long = refl; done = let z : walks - 0 ≡ walks = omega arith in rw z; rest = refl }

  one_more : (buf : List ℕ) (i k v : ℕ) → k < walks → k < length buf → v ≡ get_or candidates (walk_index i to step) 0
      → take k buf ++ way_from step candidates to i (walks - k) ≡ way_from step candidates to at walks
      → take (suc k) (set buf k v) ++ way_from step candidates to (walk_index i to step) (walks - suc k) ≡ way_from step candidates to at walks
  unfolding way_from
  one_more buf i k v h l p e =
      let m : walks - k ≡ suc (walks - suc k) = omega arith in
      rw (take-suc-set buf k v l, append_assoc, p) (rw m at e)

  pub next_inside : {buf : List ℕ} {i k next : ℕ} → to < length candidates → next ≡ walk_index i to step → Followed buf i k → next < length candidates
  next_inside {buf} {i} {k} {next} t p inv = rw p (walk_within i to (length candidates) step inv.inside t)

  pub followed_next : {buf : List ℕ} {i k next : ℕ} → to < length candidates → walks ≤ length old → k < walks → next ≡ walk_index i to step
      → Followed buf i k → Followed (set buf k (get_or candidates next 0)) next (k + 1)
  followed_next {buf} {i} {k} {next} t fit h p inv =
      let behind : drop 1 (drop k buf) ≡ drop 1 (drop k old) = ap (drop 1) inv.rest in
      record {
        low = omega arith;
        inside = next_inside t p inv;
        long = length-set buf k (get_or candidates next 0) ∙ inv.long;
        done = rw (add-one k, p) (one_more buf i k (get_or candidates (walk_index i to step) 0) h (omega (arith, inv.long)) refl inv.done);
        rest = drop-set-lt (k + 1) buf k (get_or candidates next 0) (omega arith) ∙ sym (drop-drop 1 k buf) ∙ behind ∙ drop-drop 1 k old;
      }

  pub followed_all : {buf : List ℕ} {i k : ℕ} → walks ≤ k → Followed buf i k → buf ≡ way_from step candidates to at walks ++ drop walks old
  unfolding way_from
  followed_all {buf} {i} {k} h inv =
      let all : k ≡ walks = omega (arith, inv.low) in
      let none : walks - k ≡ 0 = omega arith in
      let front : take k buf ≡ way_from step candidates to at walks = simp append-nil at (rw none at inv.done) in
      let behind : drop k buf ≡ drop walks old = inv.rest ∙ ap (λ (i : ℕ). drop i old) all in
      sym (take-append-drop k buf) ∙ rw (front, behind)

-- ---- among candidates of which the target is one: its index lies among them, and a walk goes toward it
pub candidate_there : (l : List ℕ) (target : ℕ) → is_candidate l target ≡ true → (first_at_least l target < length l) × (get_or l (first_at_least l target) 0 ≡ target)
candidate_there l target here =
    let i = first_at_least l target in
    let b = both (ltb i (length l)) (eqb (get_or l i 0) target) here in
    (ltb-true i (length l) b.0, eqb-true (get_or l i 0) target b.1)

pub walks_to : (step : MaxStep) (l : List ℕ) (target width : ℕ) → is_candidate l target ≡ true
    → walk_candidates l width target step ≡ get_or l (walk_index (snap_index l width) (first_at_least l target) step) 0
walks_to step [] target width here = absurd (not-suc-le-zero (candidate_there [] target here).0)
walks_to step (c ∷ cs) target width here =
    ap (λ (b : Bool). get_or (c ∷ cs) (walk_index (snap_index (c ∷ cs) width) (cond b (first_at_least (c ∷ cs) target) (snap_index (c ∷ cs) width)) step) 0) here

-- where they rise, the index after a walk is that of the width
pub by_index : (step : MaxStep) (l : List ℕ) (target width n : ℕ) → Rising 0 l → is_candidate l target ≡ true
    → way step l target width n ≡ way_from step l (first_at_least l target) (snap_index l width) n
unfolding way way_from
by_index step l target width zero rising here = refl
by_index step l target width (suc n) rising here =
    let h = (candidate_there l target here).0 in
    let next = walk_index (snap_index l width) (first_at_least l target) step in
    let inside : next < length l = walk_within (snap_index l width) (first_at_least l target) (length l) step (omega arith) h in
    let rest = by_index step l target (get_or l next 0) n rising here in
    rw (walks_to step l target width here)
    (ap (λ (t : List ℕ). get_or l next 0 ∷ t) (rest ∙ ap (λ (j : ℕ). way_from step l (first_at_least l target) j n) (snap_there l next rising inside)))
