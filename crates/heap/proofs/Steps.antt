-- How a heap goes along with the definition of a greedy gate: one lemma for each verdict, over any verdict function. Assumes nothing.
use Prim.Native.Nat.{ℕ, zero, suc, ◌+◌, ◌-◌, ◌≤◌, ◌<◌}
use mathlib.Core.Path.{◌≡◌, refl, sym, ap, ◌∙◌}
use mathlib.Core.List.{List, [], ◌∷◌}
use mathlib.Core.Option.{none, some}
use native.Mathlib.Omega.{arith}
use lib.ListN.{get_or, set, length, length-set, length-map, get_or-map}
use Rattle.heap.specs.Frontier.{Frontier, Choice, nobody, chosen, next}
use Rattle.heap.specs.Heap.{Holds, Settled}
use Rattle.heap.proofs.Next.{top_next, none_next}
use Rattle.heap.proofs.Frontiers.{in_frontier}
use Rattle.heap.specs.Greedy.{Stacks, head_of, tail_of, frontier, total, Verdict, takes, leaves, stops, Outcome, afterwards, upon, run, greedy}

pub frontier_set : (s : Stacks) (k : ℕ) (x : List ℕ) → frontier (set s k x) ≡ set (frontier s) k (head_of x)
frontier_set [] k x = refl
frontier_set (y ∷ s) zero x = refl
frontier_set (y ∷ s) (suc k) x = ap (λ (f : Frontier). head_of y ∷ f) (frontier_set s k x)

pub total_set : (s : Stacks) (k : ℕ) (x : List ℕ) → k < length s → total (set s k x) + length (get_or s k []) ≡ total s + length x
total_set [] k x h = absurd (omega arith)
total_set (y ∷ s) zero x h = omega arith
total_set (y ∷ s) (suc k) x h = omega (arith, total_set s k x (omega arith))

-- a stack with a head is that head on the rest
pub on_head : (x : List ℕ) (r : ℕ) → head_of x ≡ some r → x ≡ r ∷ tail_of x
on_head [] r e = cc
on_head (y ∷ x) r e = cc

-- the code is in step with the definition: at the state a, with w slots weighed, its heap holds the heads of the stacks s
pub record InStep {A : Type 0} (weigh : A → ℕ → ℕ → Verdict A) (a₀ : A) (s₀ : Stacks) (a : A) (R S : List ℕ) (live w : ℕ) (s : Stacks) : Type 0 where
  pub count : length s ≡ length s₀
  pub holds : Holds R S live (frontier s)
  pub room : w + total s ≤ total s₀
  pub same : greedy weigh a₀ s₀ ≡ run weigh (total s₀ - w) a s w

pub step_start :
    {A : Type 0} (weigh : A → ℕ → ℕ → Verdict A) (a : A) (s : Stacks) (R S : List ℕ) (live : ℕ) → Holds R S live (frontier s)
    → InStep weigh a s a R S live 0 s
unfolding greedy
step_start weigh a s R S live h = record {
  count = refl;
  holds = h;
  room = omega arith;
  same = ap (λ (fuel : ℕ). run weigh fuel a s 0) (omega arith);
}

run_nobody :
    {A : Type 0} (weigh : A → ℕ → ℕ → Verdict A) (fuel : ℕ) (a : A) (s : Stacks) (w : ℕ) → next (frontier s) ≡ nobody
    → run weigh fuel a s w ≡ record { state = a; weighed = w }
unfolding run
run_nobody weigh zero a s w e = refl
run_nobody weigh (suc fuel) a s w e = rw e

-- no candidate is left
pub step_done :
    {A : Type 0} (weigh : A → ℕ → ℕ → Verdict A) (a₀ : A) (s₀ : Stacks) (a : A) (R S : List ℕ) (w : ℕ) (s : Stacks)
    → InStep weigh a₀ s₀ a R S 0 w s → greedy weigh a₀ s₀ ≡ record { state = a; weighed = w }
step_done weigh a₀ s₀ a R S w s at =
    at.same ∙ run_nobody weigh (total s₀ - w) a s w (none_next R S (frontier s) at.holds.stands)

module _ {A : Type 0} (weigh : A → ℕ → ℕ → Verdict A) (a₀ : A) (s₀ : Stacks) (a : A) (R S : List ℕ) (live w : ℕ) (s : Stacks)
    (at : InStep weigh a₀ s₀ a R S live w s) (hn : 0 < live) (small : length s₀ ≤ 18446744073709551616) where
  abbrev k : ℕ
  k = get_or S 0 0

  abbrev r : ℕ
  r = get_or R 0 0

  head_at : head_of (get_or s k []) ≡ some r
  head_at = sym (get_or-map head_of s k []) ∙ at.holds.stands.each 0 hn

  -- the top's stack, and its place
  pub top_stack : get_or s k [] ≡ r ∷ tail_of (get_or s k [])
  top_stack = on_head (get_or s k []) r head_at

  pub top_within : k < length s
  top_within = omega (arith, in_frontier (frontier s) k r (at.holds.stands.each 0 hn), length-map s head_of)

  at_top : next (frontier s) ≡ chosen k r
  at_top = top_next R S live (frontier s) at.holds hn (omega (arith, length-map s head_of, at.count))

  one_more : length (get_or s k []) ≡ 1 + length (tail_of (get_or s k []))
  one_more = omega (arith, ap length top_stack)

  pub room_left : w + 1 ≤ total s₀
  room_left = omega (arith, one_more, total_set s k [] top_within, at.room)

  unrolled : (fuel : ℕ) (v : Verdict A) → weigh a k r ≡ v → run weigh (suc fuel) a s w ≡ afterwards (run weigh fuel) s w k v
  unfolding run
  unrolled fuel v e = rw (at_top, e)

  stepped : (v : Verdict A) → weigh a k r ≡ v → greedy weigh a₀ s₀ ≡ afterwards (run weigh (total s₀ - (w + 1))) s w k v
  stepped v e =
      let fuel : total s₀ - w ≡ suc (total s₀ - (w + 1)) = omega (arith, room_left) in
      at.same ∙ ap (λ (m : ℕ). run weigh m a s w) fuel ∙ unrolled (total s₀ - (w + 1)) v e

  -- a stack that is shorter takes the top's place
  next_step :
      (a' : A) (x : List ℕ) (R' S' : List ℕ) (m : ℕ) → length x + 1 ≤ length (get_or s k [])
      → greedy weigh a₀ s₀ ≡ run weigh (total s₀ - (w + 1)) a' (set s k x) (w + 1)
      → Settled R S R' S' live m (head_of x) → InStep weigh a₀ s₀ a' R' S' m (w + 1) (set s k x)
  next_step a' x R' S' m shorter e settled = record {
    count = simp length-set at.count;
    holds = rw (frontier_set s k x) (settled.holds (frontier s) at.holds.stands);
    room = omega (arith, total_set s k x top_within, at.room);
    same = e;
  }

  pub step_takes :
      (a' : A) (R' S' : List ℕ) (m : ℕ) → weigh a k r ≡ takes a' → Settled R S R' S' live m (head_of (tail_of (get_or s k [])))
      → InStep weigh a₀ s₀ a' R' S' m (w + 1) (set s k (tail_of (get_or s k [])))
  step_takes a' R' S' m e settled = next_step a' (tail_of (get_or s k [])) R' S' m (omega (arith, one_more)) (stepped (takes a') e) settled

  pub step_leaves :
      (a' : A) (R' S' : List ℕ) (m : ℕ) → weigh a k r ≡ leaves a' → Settled R S R' S' live m none
      → InStep weigh a₀ s₀ a' R' S' m (w + 1) (set s k [])
  step_leaves a' R' S' m e settled = next_step a' [] R' S' m (omega (arith, one_more)) (stepped (leaves a') e) settled

  pub step_stops : (a' : A) → weigh a k r ≡ stops a' → greedy weigh a₀ s₀ ≡ record { state = a'; weighed = w + 1 }
  step_stops a' e = stepped (stops a') e

-- ---- no more slots are weighed than the stacks had
module _ {A : Type 0} (weigh : A → ℕ → ℕ → Verdict A) where
  afterwards_bounded :
      (go : A → Stacks → ℕ → Outcome A) (b : ℕ) (s : Stacks) (w k : ℕ) (v : Verdict A)
      → ((a : A) (t : Stacks) → (go a t (w + 1)).weighed ≤ w + 1 + b) → (afterwards go s w k v).weighed ≤ w + 1 + b
  afterwards_bounded go b s w k (takes a) h = h a (set s k (tail_of (get_or s k [])))
  afterwards_bounded go b s w k (leaves a) h = h a (set s k [])
  afterwards_bounded go b s w k (stops a) h = omega arith

  upon_bounded :
      (go : A → Stacks → ℕ → Outcome A) (b : ℕ) (a : A) (s : Stacks) (w : ℕ) (c : Choice)
      → ((a : A) (t : Stacks) → (go a t (w + 1)).weighed ≤ w + 1 + b) → (upon weigh go a s w c).weighed ≤ w + 1 + b
  upon_bounded go b a s w nobody h = omega arith
  upon_bounded go b a s w (chosen k r) h = afterwards_bounded go b s w k (weigh a k r) h

  run_bounded : (fuel : ℕ) (a : A) (s : Stacks) (w : ℕ) → (run weigh fuel a s w).weighed ≤ w + fuel
  unfolding run
  run_bounded zero a s w = omega arith
  run_bounded (suc fuel) a s w =
      omega (arith, upon_bounded (run weigh fuel) fuel a s w (next (frontier s)) (λ a' t. run_bounded fuel a' t (w + 1)))

  pub greedy_bounded : (a : A) (s : Stacks) → (greedy weigh a s).weighed ≤ total s
  unfolding greedy
  greedy_bounded a s = omega (arith, run_bounded (total s) a s 0)

-- ---- two verdicts that agree where the state keeps I make the same gate
unfoldable pub Kept : {A : Type 0} → (A → Type 0) → Verdict A → Type 0
Kept I (takes a) = I a
Kept I (leaves a) = I a
Kept I (stops a) = Unit {0}

module _ {A : Type 0} (I : A → Type 0) (weigh weigh' : A → ℕ → ℕ → Verdict A) (same : (a : A) (k r : ℕ) → I a → weigh a k r ≡ weigh' a k r)
    (keeps : (a : A) (k r : ℕ) → I a → Kept I (weigh a k r)) where
  abbrev Alike : (A → Stacks → ℕ → Outcome A) → (A → Stacks → ℕ → Outcome A) → Type 0
  Alike go go' = (a : A) (s : Stacks) (w : ℕ) → I a → go a s w ≡ go' a s w

  after_same :
      (go go' : A → Stacks → ℕ → Outcome A) → Alike go go' → (s : Stacks) (w k : ℕ) (v : Verdict A) → Kept I v
      → afterwards go s w k v ≡ afterwards go' s w k v
  unfolding Kept
  after_same go go' h s w k (takes a) i = h a (set s k (tail_of (get_or s k []))) (w + 1) i
  after_same go go' h s w k (leaves a) i = h a (set s k []) (w + 1) i
  after_same go go' h s w k (stops a) i = refl

  upon_same :
      (go go' : A → Stacks → ℕ → Outcome A) → Alike go go' → (a : A) (s : Stacks) (w : ℕ) (c : Choice) → I a
      → upon weigh go a s w c ≡ upon weigh' go' a s w c
  upon_same go go' h a s w nobody i = refl
  upon_same go go' h a s w (chosen k r) i =
      after_same go go' h s w k (weigh a k r) (keeps a k r i) ∙ ap (afterwards go' s w k) (same a k r i)

  run_same : (fuel : ℕ) (a : A) (s : Stacks) (w : ℕ) → I a → run weigh fuel a s w ≡ run weigh' fuel a s w
  unfolding run
  run_same zero a s w i = refl
  run_same (suc fuel) a s w i =
      upon_same (run weigh fuel) (run weigh' fuel) (λ b t v j. run_same fuel b t v j) a s w (next (frontier s)) i

  pub greedy_same : (a : A) (s : Stacks) → I a → greedy weigh a s ≡ greedy weigh' a s
  unfolding greedy
  greedy_same a s i = run_same (total s) a s 0 i
