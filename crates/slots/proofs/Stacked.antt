-- The stacks of slots, the filling of the heap from their heads, and a slice set to zero. Assumes nothing.
use Prim.Native.Nat.{ℕ, zero, suc, ◌+◌, ◌-◌, ◌*◌, ◌≤◌, ◌<◌, min}
use mathlib.Core.Path.{◌≡◌, refl, sym, ap, ◌∙◌}
use mathlib.Core.List.{List, [], ◌∷◌, ◌++◌, append-nil}
use mathlib.Core.Option.{Option, none, some}
use native.Mathlib.Decide.{ℕ_discrete}
use native.Mathlib.Omega.{arith}
use native.Mathlib.Numerals.{add-one}
use lib.ListN.{get_or, set, length, take, drop, replicate, length-set, length-take, length-map, get_or-map, drop_of_length-le}
use lib.Seq.{drop-drop, drop-cons, get_or-take, length-take-le, take-suc, take_all, drop-length, get_or-set_same, get_or-set_other, ext_get_or}
use lib.Ieee.{Float, nan}
use Rattle.heap.specs.Heap.{Stands}
use Rattle.heap.proofs.Frontiers.{append_stands, skip_stands, none_stands, not_some}
use Rattle.heap.specs.Greedy.{head_of, tail_of, frontier, total}
use Rattle.slots.specs.Slots.{bits, flipped, starts, up_to, down_from, stacks, sum, AtMost}

-- ---- zeros
pub zeros_end : (s : List ℕ) (i : ℕ) → length s ≡ i → replicate i 0 ++ drop i s ≡ replicate (length s) 0
zeros_end s i e = rw (← e, drop-length s, append-nil)

-- ---- the depths to start from
pub starts_length : (depth : ℕ) (lengths : List ℕ) → length (starts depth lengths) ≡ length lengths
starts_length depth lengths = length-map lengths (min depth)

pub starts_at : (depth : ℕ) (lengths : List ℕ) (k : ℕ) → k < length lengths → get_or (starts depth lengths) k 0 ≡ min depth (get_or lengths k 0)
starts_at depth [] k l = absurd (omega arith)
starts_at depth (x ∷ xs) zero l = refl
starts_at depth (x ∷ xs) (suc k) l = starts_at depth xs k (omega arith)

pub starts_narrow : (depth : ℕ) (lengths : List ℕ) → AtMost 64 lengths → AtMost 64 (starts depth lengths)
starts_narrow depth lengths h k l =
    let l' : k < length lengths = omega (arith, starts_length depth lengths) in
    omega (arith, starts_at depth lengths k l', h k l')

pub record Starting (depth : ℕ) (lengths W₀ W : List ℕ) (k : ℕ) : Type 0 where
  pub long : length W ≡ length W₀
  pub each : (j : ℕ) → j < k → get_or W j 0 ≡ min depth (get_or lengths j 0)

pub starting : (depth : ℕ) (lengths W : List ℕ) → Starting depth lengths W W 0
starting depth lengths W = record { long = refl; each = λ j l. absurd (omega arith) }

pub starting_next :
    (depth : ℕ) (lengths W₀ W : List ℕ) (k v : ℕ) → k < length W → v ≡ min depth (get_or lengths k 0) → Starting depth lengths W₀ W k
    → Starting depth lengths W₀ (set W k v) (k + 1)
starting_next depth lengths W₀ W k v h e at = record { long = simp length-set at.long; each = λ j l. pick j l (ℕ_discrete j k) }
  where
    pick : (j : ℕ) → j < k + 1 → Dec (j ≡ k) → get_or (set W k v) j 0 ≡ min depth (get_or lengths j 0)
    pick j l (yes p) = rw p (get_or-set_same W k v 0 h ∙ e)
    pick j l (no p) = get_or-set_other W k j v 0 p ∙ at.each j (omega arith)

pub starting_done : (depth : ℕ) (lengths W₀ W : List ℕ) (k : ℕ) → length W₀ ≡ length lengths → length lengths ≤ k → Starting depth lengths W₀ W k → W ≡ starts depth lengths
starting_done depth lengths W₀ W k e l at =
    let long : length W ≡ length lengths = at.long ∙ e in
    ext_get_or 0 W (starts depth lengths) (long ∙ sym (starts_length depth lengths))
    (λ j h. at.each j (omega (arith, long)) ∙ sym (starts_at depth lengths j (omega (arith, long))))

pub starts_zero : (depth : ℕ) (lengths : List ℕ) → depth ≡ 0 → starts depth lengths ≡ replicate (length lengths) 0
starts_zero depth [] z = refl
starts_zero depth (x ∷ xs) z = let e : min depth x ≡ 0 = omega arith in rw (e, starts_zero depth xs z)

pub sum_narrow : (ws : List ℕ) → AtMost 64 ws → sum ws ≤ length ws * 64
sum_narrow [] h = omega arith
sum_narrow (w ∷ ws) h = omega (arith, sum_narrow ws (λ k l. h (suc k) (omega arith)), h 0 (omega arith))

pub sum_starts : (depth : ℕ) (lengths : List ℕ) → sum (starts depth lengths) ≤ sum lengths
sum_starts depth [] = omega arith
sum_starts depth (x ∷ xs) = omega (arith, sum_starts depth xs)

-- ---- any stacks
module _ (slots : ℕ → List Float → List ℕ) where
  pub stacks_length : (ws : List ℕ) (c : List Float) → length (stacks slots ws c) ≡ length ws
  unfolding stacks
  stacks_length [] c = refl
  stacks_length (w ∷ ws) c = ap suc (stacks_length ws (drop 64 c))

  pub stacks_at : (ws : List ℕ) (c : List Float) (k : ℕ) → k < length ws → get_or (stacks slots ws c) k [] ≡ slots (get_or ws k 0) (drop (k * 64) c)
  unfolding stacks
  stacks_at [] c k l = absurd (omega arith)
  stacks_at (w ∷ ws) c zero l = refl
  stacks_at (w ∷ ws) c (suc k) l =
      let e : 64 + k * 64 ≡ suc k * 64 = omega arith in
      stacks_at ws (drop 64 c) k (omega arith) ∙ ap (slots (get_or ws k 0)) (drop-drop (k * 64) 64 c ∙ ap (λ (m : ℕ). drop m c) e)

  pub stacks_total :
      (ws : List ℕ) (c : List Float) → ((w : ℕ) (x : List Float) → length (slots w x) ≤ w) → total (stacks slots ws c) ≤ sum ws
  unfolding stacks
  stacks_total [] c h = omega arith
  stacks_total (w ∷ ws) c h = omega (arith, stacks_total ws (drop 64 c) h, h w c)

  -- the entries, where a sequence may have no candidate
  pub record Opening (c : List Float) (ws R₀ S₀ R S : List ℕ) (m k : ℕ) : Type 0 where
    pub ranks_kept : length R ≡ length R₀
    pub seqs_kept : length S ≡ length S₀
    pub passed : k ≤ length ws
    pub few : m ≤ k
    pub stands : Stands R S m (take k (frontier (stacks slots ws c)))

  pub opening_start : (c : List Float) (ws R S : List ℕ) → Opening c ws R S R S 0 0
  opening_start c ws R S = record { ranks_kept = refl; seqs_kept = refl; passed = omega arith; few = omega arith; stands = none_stands R S }

module _ {slots : ℕ → List Float → List ℕ} {c : List Float} {ws R₀ S₀ R S : List ℕ} {m k : ℕ} (at : Opening slots c ws R₀ S₀ R S m k) where
  width : length (frontier (stacks slots ws c)) ≡ length ws
  width = length-map (stacks slots ws c) head_of ∙ stacks_length slots ws c

  one_more :
      (o : Option ℕ) → k < length ws → o ≡ head_of (slots (get_or ws k 0) (drop (k * 64) c))
      → take k (frontier (stacks slots ws c)) ++ (o ∷ []) ≡ take (k + 1) (frontier (stacks slots ws c))
  one_more o l e =
      let head : get_or (frontier (stacks slots ws c)) k none ≡ o =
      get_or-map head_of (stacks slots ws c) k [] ∙ ap head_of (stacks_at slots ws c k l) ∙ sym e in
      rw (add-one k, take-suc (frontier (stacks slots ws c)) k none (omega (arith, width)), head)

  -- the sequence k has a candidate
  pub opening_more :
      (r : ℕ) → k < length ws → length ws ≤ length R₀ → length ws ≤ length S₀ → some r ≡ head_of (slots (get_or ws k 0) (drop (k * 64) c))
      → Opening slots c ws R₀ S₀ (set R m r) (set S m k) (m + 1) (k + 1)
  opening_more r l hr hs e =
      let F = frontier (stacks slots ws c) in
      let count : length (take k F) ≡ k = length-take-le k F (omega (arith, width)) in
      let more = append_stands R S m r (take k F) (omega (arith, at.ranks_kept, at.few)) (omega (arith, at.seqs_kept, at.few)) at.stands in
      record {
        ranks_kept = simp length-set at.ranks_kept;
        seqs_kept = simp length-set at.seqs_kept;
        passed = omega arith;
        few = omega (arith, at.few);
        stands = rw (count, one_more (some r) l e) at more;
      }

  -- it has none
  pub opening_none : k < length ws → none ≡ head_of (slots (get_or ws k 0) (drop (k * 64) c)) → Opening slots c ws R₀ S₀ R S m (k + 1)
  opening_none l e = record {
    ranks_kept = at.ranks_kept;
    seqs_kept = at.seqs_kept;
    passed = omega arith;
    few = omega (arith, at.few);
    stands = rw (one_more none l e) at (skip_stands R S m (take k (frontier (stacks slots ws c))) at.stands);
  }

  pub opening_end : length ws ≤ k → Stands R S m (frontier (stacks slots ws c))
  opening_end l = rw (take_all k (frontier (stacks slots ws c)) (omega (arith, width))) at at.stands

-- ---- the block gate's slots
pub up_short : (w : ℕ) (x : List Float) → length (up_to w x) ≤ w
unfolding up_to
up_short w x = omega (arith, length-map (take w x) bits, length-take w x)

module _ (w : ℕ) (x : List Float) (fits : w ≤ length x) where
  up_length : length (up_to w x) ≡ w
  unfolding up_to
  up_length = length-map (take w x) bits ∙ length-take-le w x fits

  pub up_more : (t : ℕ) → t < w → some (bits (get_or x t nan)) ≡ head_of (drop t (up_to w x))
  unfolding up_to
  up_more t l =
      sym (ap head_of (drop-cons (up_to w x) t (bits nan) (omega (arith, up_length)))
      ∙ ap {B = Option ℕ} some (get_or-map bits (take w x) t nan ∙ ap bits (get_or-take w x t nan l)))

  pub up_over : (t : ℕ) → w ≤ t → none ≡ head_of (drop t (up_to w x))
  up_over t l = sym (ap head_of (drop_of_length-le (up_to w x) {i = t} (omega (arith, up_length))))

-- ---- the ragged gate's slots
pub down_length : (w : ℕ) (x : List Float) → length (down_from w x) ≡ w
unfolding down_from
down_length zero x = refl
down_length (suc w) x = ap suc (down_length w x)

pub down_short : (w : ℕ) (x : List Float) → length (down_from w x) ≤ w
down_short w x = omega (arith, down_length w x)

pub down_more : (w : ℕ) (x : List Float) → 0 < w → some (flipped (bits (get_or x (w - 1) nan))) ≡ head_of (down_from w x)
unfolding down_from
down_more zero x h = absurd (omega arith)
down_more (suc w) x h = let e : suc w - 1 ≡ w = omega arith in ap (λ (m : ℕ). some (flipped (bits (get_or x m nan)))) e

pub down_over : (w : ℕ) (x : List Float) → w ≤ 0 → none ≡ head_of (down_from w x)
unfolding down_from
down_over zero x l = refl
down_over (suc w) x l = absurd (omega arith)

pub down_cons : (w : ℕ) (y : List Float) (q : ℕ) (x : List ℕ) → down_from w y ≡ q ∷ x → (x ≡ down_from (w - 1) y) × (0 < w)
unfolding down_from
down_cons zero y q x e = absurd (not_some (ap head_of e))
down_cons (suc w) y q x e =
    let less : w ≡ suc w - 1 = omega arith in
    (ap tail_of (sym e) ∙ ap (λ (m : ℕ). down_from m y) less, omega arith)
