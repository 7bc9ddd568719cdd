-- The ragged gate's side: a sequence's number is its width, and the slots before its deepest lie below the head; and how many sequences draft each
-- pass. Assumes nothing.
use Prim.Native.Nat.{ℕ, zero, suc, ◌+◌, ◌-◌, ◌*◌, ◌≤◌, ◌<◌}
use mathlib.Core.Path.{◌≡◌, sym, ap, ◌∙◌}
use mathlib.Core.Bool.{cond}
use mathlib.Core.List.{List, [], ◌∷◌}
use native.Mathlib.Decide.{ℕ_discrete, dec_lt}
use native.Mathlib.Omega.{arith}
use borrow.Author.Tests.{le-leb, lt-leb}
use lib.Dec.{leb}
use lib.ListN.{get_or, set, length, drop, length-set}
use lib.Seq.{get_or-set_same, get_or-set_other}
use lib.Ieee.{Float}
use Rattle.verify_prices.specs.Rule.{Rule}
use Rattle.verdict.specs.Decision.{Sums, Decision, removal_under}
use Rattle.speculative.specs.Drafter.{still_drafting}
use Rattle.heap.specs.Heap.{Holds}
use Rattle.heap.specs.Greedy as greedily
use Rattle.heap.specs.Greedy.{Stacks, frontier}
use Rattle.slots.specs.Slots.{Fits, AtMost, down_from, stacks, survival}
use Rattle.slots.specs.Gate.{State, judged}
use Rattle.trim.specs.Ragged.{margin_of, full_draft, drop_slot}
use Rattle.trim.specs.Kept.{Counts}
use Rattle.heap.proofs.Turns.{Left, Going, going_start, top_ok}
use Rattle.slots.proofs.Rooms.{Sized, few, k_low, widths_count}
use Rattle.slots.proofs.Stacked.{stacks_length, stacks_at, down_cons}

abbrev pub lower : List Float → ℕ → ℕ → List ℕ
lower c k g = down_from (g - 1) (drop (k * 64) c)

abbrev pub Open : ℕ → ℕ → ℕ → Type 0
Open depth k g = (0 < g) × (g ≤ depth)

trimming_start : (ws : List ℕ) (c : List Float) (depth : ℕ) → AtMost depth ws → Left (lower c) (Open depth) ws (stacks down_from ws c)
trimming_start ws c depth h k r x l e =
    let l' : k < length ws = omega (arith, stacks_length down_from ws c) in
    let d = down_cons (get_or ws k 0) (drop (k * 64) c) r x (sym (stacks_at down_from ws c k l') ∙ e) in
    (d.0, (d.1, h k l'))

pub trimming : (c : List Float) (depth k g : ℕ) → g ≤ depth → (q : ℕ) (x : List ℕ) → lower c k g ≡ q ∷ x → (x ≡ lower c k (g - 1)) × Open depth k (g - 1)
trimming c depth k g h q x e =
    let d = down_cons (g - 1) (drop (k * 64) c) q x e in
    (d.0, (d.1, omega arith))

-- the decision that the code gets is the definition's
pub drop_judged :
    (pass : ℕ → Float) (rule : Rule) (chains : List Float) (a : State) (k r m : ℕ) (cost : Float) (v : Decision)
    → v ≡ removal_under rule a.sums (survival chains k (get_or a.widths k 0 - 1)) cost → cost ≡ margin_of pass m
    → m ≡ still_drafting a.widths (get_or a.widths k 0)
    → drop_slot pass rule chains a k r ≡ judged a k (get_or a.widths k 0 - 1) v
unfolding drop_slot
drop_judged pass rule chains a k r m cost v e p q =
    let w = get_or a.widths k 0 in
    sym
    (ap (judged a k (w - 1)) e
    ∙ ap (λ (x : Float). judged a k (w - 1) (removal_under rule a.sums (survival chains k (w - 1)) x)) (p ∙ ap (margin_of pass) q))

-- ---- how many sequences are j wide or more
still_set :
    (ws : List ℕ) (k v j : ℕ) → k < length ws → still_drafting (set ws k v) j + cond (leb j (get_or ws k 0)) 1 0 ≡ still_drafting ws j + cond (leb j v) 1 0
unfolding still_drafting
still_set [] k v j h = absurd (omega arith)
still_set (w ∷ ws) zero v j h = omega arith
still_set (w ∷ ws) (suc k) v j h = omega (arith, still_set ws k v j (omega arith))

counted : (j v : ℕ) → j ≤ v → ◌≡◌ {A = ℕ} (cond (leb j v) 1 0) 1
counted j v h = rw (le-leb j v h)

uncounted : (j v : ℕ) → v < j → ◌≡◌ {A = ℕ} (cond (leb j v) 1 0) 0
uncounted j v h = rw (lt-leb j v h)

-- a sequence that is j wide is one of them
still_one : (ws : List ℕ) (k j : ℕ) → k < length ws → 0 < j → j ≤ get_or ws k 0 → 0 < still_drafting ws j
still_one ws k j h z l = omega (arith, still_set ws k 0 j h, counted j (get_or ws k 0) l, uncounted j 0 z)

module _ (ws : List ℕ) (k : ℕ) (h : k < length ws) (z : 0 < get_or ws k 0) where
  still_less : still_drafting (set ws k (get_or ws k 0 - 1)) (get_or ws k 0) ≡ still_drafting ws (get_or ws k 0) - 1
  still_less =
      omega (arith, still_set ws k (get_or ws k 0 - 1) (get_or ws k 0) h, counted (get_or ws k 0) (get_or ws k 0) (omega arith), uncounted (get_or ws k 0) (get_or ws k 0 - 1) (omega arith))

  still_same : (j : ℕ) → (j ≡ get_or ws k 0 → ⊥) → still_drafting (set ws k (get_or ws k 0 - 1)) j ≡ still_drafting ws j
  still_same j n = pick (dec_lt (get_or ws k 0) j)
    where
      pick : Dec (get_or ws k 0 < j) → still_drafting (set ws k (get_or ws k 0 - 1)) j ≡ still_drafting ws j
      pick (yes l) = omega (arith, still_set ws k (get_or ws k 0 - 1) j h, uncounted j (get_or ws k 0) l, uncounted j (get_or ws k 0 - 1) (omega arith))
      pick (no l) =
          let low : j ≤ get_or ws k 0 - 1 = omega arith in
          omega (arith, still_set ws k (get_or ws k 0 - 1) j h, counted j (get_or ws k 0) (omega arith), counted j (get_or ws k 0 - 1) low)

-- ---- the counts that the code keeps
module _ {nk ws : List ℕ} {depth : ℕ} (at : Counts nk ws depth) (k : ℕ) (h : k < length ws) (z : 0 < get_or ws k 0) (l : get_or ws k 0 ≤ depth) where
  pub count_here : get_or nk (get_or ws k 0 - 1) 0 ≡ still_drafting ws (get_or ws k 0)
  count_here =
      let e : get_or ws k 0 - 1 + 1 ≡ get_or ws k 0 = omega arith in
      at.each (get_or ws k 0 - 1) (omega arith) ∙ ap (still_drafting ws) e

  pub count_some : 0 < get_or nk (get_or ws k 0 - 1) 0
  count_some = omega (arith, count_here, still_one ws k (get_or ws k 0) h z (omega arith))

  pub counts_less :
      (nk' ws' : List ℕ) (d : ℕ) → depth ≤ 64 → d ≡ get_or ws k 0 - 1 → nk' ≡ set nk d (get_or nk d 0 - 1) → ws' ≡ set ws k (get_or ws k 0 - 1) → Counts nk' ws' depth
  counts_less nk' ws' d deep e en ew = rw (en, ew, e) (record { room = simp length-set at.room; each = λ j m. pick j m (ℕ_discrete j (get_or ws k 0 - 1)) })
    where
      pick : (j : ℕ) → j < depth → Dec (j ≡ get_or ws k 0 - 1)
          → get_or (set nk (get_or ws k 0 - 1) (get_or nk (get_or ws k 0 - 1) 0 - 1)) j 0 ≡ still_drafting (set ws k (get_or ws k 0 - 1)) (j + 1)
      pick j m (yes p) =
          let top : j + 1 ≡ get_or ws k 0 = omega arith in
          rw (top, p)
          (get_or-set_same nk (get_or ws k 0 - 1) (get_or nk (get_or ws k 0 - 1) 0 - 1) 0 (omega (arith, at.room)) ∙ ap (λ (i : ℕ). i - 1) count_here ∙ sym (still_less ws k h z))
      pick j m (no p) =
          get_or-set_other nk (get_or ws k 0 - 1) j (get_or nk (get_or ws k 0 - 1) 0 - 1) 0 p ∙ at.each j m ∙ sym (still_same ws k h z (j + 1) (λ q. p (omega arith)))

-- ---- the loop
abbrev pub Trimming :
    (ℕ → Float) → Rule → List Float → ℕ → List ℕ → List ℕ → List ℕ → List ℕ → List ℕ → State → ℕ → ℕ → Type 0
Trimming pass rule c depth ws R₀ S₀ R S a live w =
    Going (drop_slot pass rule c) (λ (a : State). a.widths) (lower c) (Open depth) (full_draft pass c depth ws) (stacks down_from ws c) R₀ S₀ R S a
    live w

pub trimming_starts :
    (pass : ℕ → Float) (rule : Rule) (c : List Float) (depth n : ℕ) (ws R S : List ℕ) (live : ℕ) (start : Sums)
    → Fits c ws n → AtMost depth ws → live ≤ n → start ≡ (full_draft pass c depth ws).sums → Holds R S live (frontier (stacks down_from ws c))
    → Trimming pass rule c depth ws R S R S (record { sums = start; widths = ws }) live 0
unfolding full_draft
trimming_starts pass rule c depth n ws R S live start fits most low e holds =
    rw e
    (going_start (drop_slot pass rule c) (λ (a : State). a.widths) (lower c) (Open depth) (full_draft pass c depth ws) (stacks down_from ws c) R S
    live holds (trimming_start ws c depth most) (sym (stacks_length down_from ws c)) (omega (arith, stacks_length down_from ws c, fits.count)))

-- the top's sequence has chain, width and a slot left
module _ {weigh : State → ℕ → ℕ → greedily.Verdict State} {rest : ℕ → ℕ → List ℕ} {depth : ℕ} {a₀ : State} {s₀ : Stacks} {R₀ S₀ R S : List ℕ} {a : State} {live w n : ℕ}
    {c : List Float} {ws : List ℕ} (fits : Fits c ws n) (sized : Sized s₀ n)
    (at : Going weigh (λ (a : State). a.widths) rest (Open depth) a₀ s₀ R₀ S₀ R S a live w) (h : 0 < live) where
  pub chain_room : get_or S 0 0 * 64 + 64 ≤ length c
  chain_room = omega (arith, k_low sized at h, fits.room)

  pub width_room : get_or S 0 0 < length a.widths
  width_room = omega (arith, k_low sized at h, widths_count sized at)

  pub top_open : Open depth (get_or S 0 0) (get_or a.widths (get_or S 0 0) 0)
  top_open = top_ok at h (few sized at)
