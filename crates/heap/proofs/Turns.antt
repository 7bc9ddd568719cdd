-- The loop of a gate in whose state each sequence has a number: what it keeps, and a lemma for each way that a turn goes. Over any verdict, and
-- over what lies below an open stack's head: `rest k t`, where sequence k has the number t. Assumes nothing.
use Prim.Native.Nat.{ℕ, ◌+◌, ◌≤◌, ◌<◌}
use mathlib.Core.Path.{◌≡◌, refl, sym, ap, ◌∙◌}
use mathlib.Core.List.{List, [], ◌∷◌}
use mathlib.Core.Option.{Option, none}
use native.Mathlib.Decide.{ℕ_discrete}
use native.Mathlib.Omega.{arith}
use lib.ListN.{get_or, set, length, length-set}
use lib.Seq.{get_or-set_same, get_or-set_other}
use Rattle.heap.specs.Heap.{Holds, Settled}
use Rattle.heap.proofs.Frontiers.{not_some}
use Rattle.heap.specs.Greedy.{Stacks, head_of, tail_of, frontier, total, Verdict, takes, leaves, stops, greedy}
use Rattle.heap.proofs.Steps.{InStep, step_start, step_done, step_takes, step_leaves, step_stops, top_stack, top_within, room_left}

-- below each open stack's head is what its sequence's number says, and that number is in order
abbrev pub Left : (ℕ → ℕ → List ℕ) → (ℕ → ℕ → Type 0) → List ℕ → Stacks → Type 0
Left rest Ok a s = (k r : ℕ) (x : List ℕ) → k < length s → get_or s k [] ≡ r ∷ x → (x ≡ rest k (get_or a k 0)) × Ok k (get_or a k 0)

-- a stack is closed
left_leaves :
    (rest : ℕ → ℕ → List ℕ) (Ok : ℕ → ℕ → Type 0) (a : List ℕ) (s : Stacks) (k : ℕ) → k < length s → Left rest Ok a s → Left rest Ok a (set s k [])
left_leaves rest Ok a s k h left j r x l e = pick (ℕ_discrete j k)
  where
    pick : Dec (j ≡ k) → (x ≡ rest j (get_or a j 0)) × Ok j (get_or a j 0)
    pick (yes p) =
        let empty : [] ≡ r ∷ x = sym (get_or-set_same s k [] [] h) ∙ ap (λ (m : ℕ). get_or (set s k []) m []) (sym p) ∙ e in
        absurd (not_some (ap head_of empty))
    pick (no p) = left j r x (rw length-set at l) (sym (get_or-set_other s k j [] [] p) ∙ e)

-- a stack's head is taken, and its sequence's number becomes t
left_takes :
    (rest : ℕ → ℕ → List ℕ) (Ok : ℕ → ℕ → Type 0) (a : List ℕ) (s : Stacks) (k t : ℕ) → k < length s → k < length a
    → ((q : ℕ) (x : List ℕ) → tail_of (get_or s k []) ≡ q ∷ x → (x ≡ rest k t) × Ok k t)
    → Left rest Ok a s → Left rest Ok (set a k t) (set s k (tail_of (get_or s k [])))
left_takes rest Ok a s k t h ha law left j q x l e = pick (ℕ_discrete j k)
  where
    pick : Dec (j ≡ k) → (x ≡ rest j (get_or (set a k t) j 0)) × Ok j (get_or (set a k t) j 0)
    pick (yes p) =
        let e' = sym (get_or-set_same s k (tail_of (get_or s k [])) [] h) ∙ ap (λ (m : ℕ). get_or (set s k (tail_of (get_or s k []))) m []) (sym p) ∙ e in
        rw (p, get_or-set_same a k t 0 ha) (law q x e')
    pick (no p) =
        rw (get_or-set_other a k j t 0 p) (left j q x (rw length-set at l) (sym (get_or-set_other s k j (tail_of (get_or s k [])) [] p) ∙ e))

-- ---- the loop, over any state A in which each sequence has a number
pub record Going
    {A : Type 0} (weigh : A → ℕ → ℕ → Verdict A) (numbers : A → List ℕ) (rest : ℕ → ℕ → List ℕ) (Ok : ℕ → ℕ → Type 0) (a₀ : A) (s₀ : Stacks)
    (R₀ S₀ R S : List ℕ) (a : A) (live w : ℕ) : Type 0 where
  pub stacks : Stacks
  pub in_step : InStep weigh a₀ s₀ a R S live w stacks
  pub left : Left rest Ok (numbers a) stacks
  pub ranks_kept : length R ≡ length R₀
  pub seqs_kept : length S ≡ length S₀
  pub counts : length (numbers a) ≡ length s₀
  pub fewer : live ≤ length s₀

pub going_start :
    {A : Type 0} (weigh : A → ℕ → ℕ → Verdict A) (numbers : A → List ℕ) (rest : ℕ → ℕ → List ℕ) (Ok : ℕ → ℕ → Type 0) (a : A) (s : Stacks)
    (R S : List ℕ) (live : ℕ)
    → Holds R S live (frontier s) → Left rest Ok (numbers a) s → length (numbers a) ≡ length s → live ≤ length s
    → Going weigh numbers rest Ok a s R S R S a live 0
going_start weigh numbers rest Ok a s R S live holds left counts fewer = record {
  stacks = s;
  in_step = step_start weigh a s R S live holds;
  left = left;
  ranks_kept = refl;
  seqs_kept = refl;
  counts = counts;
  fewer = fewer;
}

module _ {A : Type 0} {weigh : A → ℕ → ℕ → Verdict A} {numbers : A → List ℕ} {rest : ℕ → ℕ → List ℕ} {Ok : ℕ → ℕ → Type 0} {a₀ : A} {s₀ : Stacks}
    {R₀ S₀ R S : List ℕ} {a : A} {live w : ℕ} (at : Going weigh numbers rest Ok a₀ s₀ R₀ S₀ R S a live w) where
  pub going_done : live ≡ 0 → greedy weigh a₀ s₀ ≡ record { state = a; weighed = w }
  going_done z = step_done weigh a₀ s₀ a R S w at.stacks (rw z at at.in_step)

  module _ (hn : 0 < live) (few : length s₀ ≤ 18446744073709551616) where
    k_in : get_or S 0 0 < length at.stacks
    k_in = top_within weigh a₀ s₀ a R S live w at.stacks at.in_step hn few

    pub k_below : get_or S 0 0 < length s₀
    k_below = omega (arith, k_in, at.in_step.count)

    stack : get_or at.stacks (get_or S 0 0) [] ≡ get_or R 0 0 ∷ tail_of (get_or at.stacks (get_or S 0 0) [])
    stack = top_stack weigh a₀ s₀ a R S live w at.stacks at.in_step hn few

    below :
        (tail_of (get_or at.stacks (get_or S 0 0) []) ≡ rest (get_or S 0 0) (get_or (numbers a) (get_or S 0 0) 0))
        × Ok (get_or S 0 0) (get_or (numbers a) (get_or S 0 0) 0)
    below = at.left (get_or S 0 0) (get_or R 0 0) (tail_of (get_or at.stacks (get_or S 0 0) [])) k_in stack

    pub top_ok : Ok (get_or S 0 0) (get_or (numbers a) (get_or S 0 0) 0)
    top_ok = below.1

    pub going_room : w + 1 ≤ total s₀
    going_room = room_left weigh a₀ s₀ a R S live w at.stacks at.in_step hn few

    pub going_stops : {a' : A} → weigh a (get_or S 0 0) (get_or R 0 0) ≡ stops a' → greedy weigh a₀ s₀ ≡ record { state = a'; weighed = w + 1 }
    going_stops {a'} e = step_stops weigh a₀ s₀ a R S live w at.stacks at.in_step hn few a' e

    module _ {R' S' : List ℕ} {m : ℕ} (er : length R' ≡ length R) (es : length S' ≡ length S) where
      -- the numbers stay
      pub going_leaves :
          {a' : A} → weigh a (get_or S 0 0) (get_or R 0 0) ≡ leaves a' → numbers a' ≡ numbers a → Settled R S R' S' live m none
          → Going weigh numbers rest Ok a₀ s₀ R₀ S₀ R' S' a' m (w + 1)
      going_leaves {a'} e ea settled = record {
        stacks = set at.stacks (get_or S 0 0) [];
        in_step = step_leaves weigh a₀ s₀ a R S live w at.stacks at.in_step hn few a' R' S' m e settled;
        left = rw ea (left_leaves rest Ok (numbers a) at.stacks (get_or S 0 0) k_in at.left);
        ranks_kept = er ∙ at.ranks_kept;
        seqs_kept = es ∙ at.seqs_kept;
        counts = rw ea at.counts;
        fewer = omega (arith, settled.fewer, at.fewer);
      }

      -- the number becomes t: below the stack's new head is what t says
      pub going_takes :
          {o : Option ℕ} {a' : A} (t : ℕ) → weigh a (get_or S 0 0) (get_or R 0 0) ≡ takes a' → numbers a' ≡ set (numbers a) (get_or S 0 0) t
          → ((q : ℕ) (x : List ℕ) → rest (get_or S 0 0) (get_or (numbers a) (get_or S 0 0) 0) ≡ q ∷ x → (x ≡ rest (get_or S 0 0) t) × Ok (get_or S 0 0) t)
          → o ≡ head_of (rest (get_or S 0 0) (get_or (numbers a) (get_or S 0 0) 0)) → Settled R S R' S' live m o
          → Going weigh numbers rest Ok a₀ s₀ R₀ S₀ R' S' a' m (w + 1)
      going_takes {o} {a'} t e ea law eo settled =
          let ka : get_or S 0 0 < length (numbers a) = omega (arith, k_below, at.counts) in
          let head : o ≡ head_of (tail_of (get_or at.stacks (get_or S 0 0) [])) = eo ∙ ap head_of (sym below.0) in
          record {
            stacks = set at.stacks (get_or S 0 0) (tail_of (get_or at.stacks (get_or S 0 0) []));
            in_step = step_takes weigh a₀ s₀ a R S live w at.stacks at.in_step hn few a' R' S' m e (rw head at settled);
            left = rw ea (left_takes rest Ok (numbers a) at.stacks (get_or S 0 0) t k_in ka (λ q x h. law q x (sym below.0 ∙ h)) at.left);
            ranks_kept = er ∙ at.ranks_kept;
            seqs_kept = es ∙ at.seqs_kept;
            counts = rw ea (simp length-set at.counts);
            fewer = omega (arith, settled.fewer, at.fewer);
          }
