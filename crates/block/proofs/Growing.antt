-- The block gate's side: a sequence's number is how many of its slots are taken, and what is left of its chain lies below the head. Assumes nothing.
use Prim.Native.Nat.{ℕ, ◌+◌, ◌-◌, ◌*◌, ◌≤◌, ◌<◌}
use mathlib.Core.Path.{◌≡◌, refl, sym, ap, ◌∙◌}
use mathlib.Core.Bool.{Bool, true, false, cond}
use mathlib.Core.List.{List, ◌∷◌}
use native.Mathlib.Omega.{arith}
use lib.ListN.{get_or, length, drop, replicate, get_or-replicate, length-replicate, length-drop}
use lib.Seq.{drop-drop}
use lib.Ieee.{Float, lt}
use Rattle.float.specs.Floats.{plus, is_finite}
use Rattle.float.proofs.Classes.{clash}
use Rattle.verdict.specs.Decision.{Sums, Decision, passed, stopped, taken, taken_if, rate_of, rate_now, next_seconds, slot_at}
use Rattle.heap.specs.Heap.{Holds}
use Rattle.heap.specs.Greedy as greedily
use Rattle.heap.specs.Greedy.{Stacks, frontier}
use Rattle.slots.specs.Slots.{Fits, starts, up_to, stacks, survival}
use Rattle.slots.specs.Gate.{State, judged}
use Rattle.block.specs.Block.{add_slot}
use Rattle.heap.proofs.Turns.{Left, Going, going_start, top_ok}
use Rattle.heap.proofs.Passing.{going_over}
use Rattle.slots.proofs.Rooms.{Sized, few, k_low, widths_count}
use Rattle.slots.proofs.Stacked.{up_short, stacks_length, stacks_at, starts_length, starts_narrow}

-- what is left when t more than the head are gone
abbrev pub further : List ℕ → List Float → ℕ → ℕ → List ℕ
further ws c k t = drop (t + 1) (up_to (get_or ws k 0) (drop (k * 64) c))

abbrev pub Within : List ℕ → ℕ → ℕ → Type 0
Within ws k t = t < get_or ws k 0

pub growing_start : (ws : List ℕ) (c : List Float) → Left (further ws c) (Within ws) (replicate (length ws) 0) (stacks up_to ws c)
growing_start ws c k r x l e =
    let l' : k < length ws = omega (arith, stacks_length up_to ws c) in
    let z : get_or {A = ℕ} (replicate (length ws) 0) k 0 ≡ 0 = get_or-replicate {A = ℕ} (length ws) k 0 0 l' in
    let whole : up_to (get_or ws k 0) (drop (k * 64) c) ≡ r ∷ x = sym (stacks_at up_to ws c k l') ∙ e in
    let some : 0 < get_or ws k 0 = omega (arith, ap length whole, up_short (get_or ws k 0) (drop (k * 64) c)) in
    (rw (z, whole) refl, rw z some)

pub growing :
    (ws : List ℕ) (c : List Float) (k t q : ℕ) (x : List ℕ) → further ws c k t ≡ q ∷ x → (x ≡ further ws c k (t + 1)) × (t + 1 < get_or ws k 0)
growing ws c k t q x e =
    let L = up_to (get_or ws k 0) (drop (k * 64) c) in
    (ap (drop 1) (sym e) ∙ drop-drop 1 (t + 1) L, omega (arith, ap length e, length-drop (t + 1) L, up_short (get_or ws k 0) (drop (k * 64) c)))

-- the decision that the code gets is the definition's
pub slot_judged :
    (price : Float → Float) (chains : List Float) (a : State) (k r : ℕ) (v : Decision)
    → v ≡ slot_at price a.sums (survival chains k (get_or a.widths k 0))
    → add_slot price chains a k r ≡ judged a k (get_or a.widths k 0 + 1) v
unfolding add_slot
slot_judged price chains a k r v e = ap (judged a k (get_or a.widths k 0 + 1)) (sym e)

-- ---- the loop
abbrev pub Growing : (Float → Float) → List Float → List ℕ → ℕ → Sums → List ℕ → List ℕ → List ℕ → List ℕ → State → ℕ → ℕ → Type 0
Growing price c ws n start R₀ S₀ R S a live w =
    Going (add_slot price c) (λ (a : State). a.widths) (further ws c) (Within ws) (record { sums = start; widths = replicate n 0 }) (stacks up_to ws c) R₀ S₀ R S a live w

pub growing_starts :
    (price : Float → Float) (c : List Float) (lengths : List ℕ) (depth n : ℕ) (start : Sums) (R S : List ℕ) (live : ℕ) → length lengths ≡ n → live ≤ n
    → Holds R S live (frontier (stacks up_to (starts depth lengths) c))
    → Growing price c (starts depth lengths) n start R S R S (record { sums = start; widths = replicate n 0 }) live 0
growing_starts price c lengths depth n start R S live count few holds =
    let ws = starts depth lengths in
    let same : length ws ≡ n = starts_length depth lengths ∙ count in
    let counts : length {A = ℕ} (replicate n 0) ≡ length (stacks up_to ws c) = length-replicate n 0 ∙ sym (stacks_length up_to ws c ∙ same) in
    going_start (add_slot price c) (λ (a : State). a.widths) (further ws c) (Within ws) (record { sums = start; widths = replicate n 0 }) (stacks up_to ws c) R S live holds
    (rw same at (growing_start ws c)) counts (omega (arith, stacks_length up_to ws c))

-- the top's sequence has chain, width and a slot left
pub top_room :
    {weigh : State → ℕ → ℕ → greedily.Verdict State} {rest : ℕ → ℕ → List ℕ} {a₀ : State} {s₀ : Stacks} {R₀ S₀ R S : List ℕ} {a : State} {live w n : ℕ}
    {c : List Float} {lengths : List ℕ} (depth : ℕ) → Fits c lengths n → Sized s₀ n
    → Going weigh (λ (a : State). a.widths) rest (Within (starts depth lengths)) a₀ s₀ R₀ S₀ R S a live w → 0 < live
    → (get_or S 0 0 * 64 + 64 ≤ length c) × (get_or S 0 0 < length a.widths) × (get_or a.widths (get_or S 0 0) 0 < 64)
top_room {S = S} {lengths = lengths} depth fits sized at h =
    let low = k_low sized at h in
    let narrow = starts_narrow depth lengths fits.narrow (get_or S 0 0) (omega (arith, low, fits.count, starts_length depth lengths)) in
    (omega (arith, low, fits.room), omega (arith, low, widths_count sized at), omega (arith, narrow, top_ok at h (few sized at)))

-- ---- a slot that is passed over: the next price is not finite, whatever the slot, and so every slot that is left is passed over
is_passed : Decision → Bool
is_passed passed = true
is_passed stopped = false
is_passed (taken sums) = false

module _ (price : Float → Float) (a : Sums) where
  passed_all : (s s' : Float) → passed ≡ slot_at price a s → slot_at price a s' ≡ passed
  unfolding taken_if is_passed
  passed_all s s' e = go (is_finite (next_seconds price a)) (lt (rate_now price a) (rate_of (plus a.expected s) (next_seconds price a))) _ _ e
    where
      go : (b x : Bool) (sums : Sums) (d : Decision) → passed ≡ cond b (cond x (taken sums) stopped) passed → cond b d passed ≡ passed
      go false x sums d h = refl
      go true true sums d h = clash (ap is_passed (sym h))
      go true false sums d h = clash (ap is_passed (sym h))

pub growing_over :
    (price : Float → Float) (c : List Float) (ws : List ℕ) (n : ℕ) {start : Sums} {R₀ S₀ R S : List ℕ} {a : State} {live w : ℕ}
    (at : Growing price c ws n start R₀ S₀ R S a live w) → 0 < live
    → passed ≡ slot_at price a.sums (survival c (get_or S 0 0) (get_or a.widths (get_or S 0 0) 0))
    → greedily.greedy (add_slot price c) (record { sums = start; widths = replicate n 0 }) (stacks up_to ws c) ≡ record { state = a; weighed = w + 1 + (live - 1) }
growing_over price c ws n {a = a} {live = live} {w = w} at some e =
    let count : w + live ≡ w + 1 + (live - 1) = omega arith in
    going_over at (λ i l. slot_judged price c a _ _ passed (sym (passed_all price a.sums _ _ e))) ∙ ap (λ (m : ℕ). record { state = a; weighed = m }) count
