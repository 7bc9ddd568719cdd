-- A gate ends by itself: one unit of fuel a slot is enough, and more changes nothing. Assumes nothing.
use Prim.Native.Nat.{ℕ, zero, suc, ◌+◌, ◌≤◌, ◌<◌}
use mathlib.Core.Path.{◌≡◌, refl, sym, ap, ◌∙◌}
use mathlib.Core.List.{List, [], ◌∷◌}
use mathlib.Core.Option.{none, some}
use native.Mathlib.Omega.{arith}
use lib.ListN.{get_or, set, length, length-map, get_or-map}
use Rattle.heap.specs.Frontier.{Choice, nobody, chosen, next}
use Rattle.heap.specs.Greedy.{Stacks, head_of, tail_of, frontier, total, Verdict, takes, leaves, stops, Outcome, afterwards, upon, run}
use Rattle.heap.proofs.Next.{next_first}
use Rattle.heap.proofs.Frontiers.{in_frontier}
use Rattle.heap.proofs.Steps.{on_head, total_set}

-- the stack of the one that is chosen, and what is left once a shorter one takes its place
module _ (s : Stacks) (k r : ℕ) (e : next (frontier s) ≡ chosen k r) where
  own : get_or (frontier s) k none ≡ some r
  own = (next_first (frontier s) k r e).own

  stack : get_or s k [] ≡ r ∷ tail_of (get_or s k [])
  stack = on_head (get_or s k []) r (sym (get_or-map head_of s k []) ∙ own)

  place : k < length s
  place = omega (arith, in_frontier (frontier s) k r own, length-map s head_of)

  fewer : (x : List ℕ) → length x ≤ length (tail_of (get_or s k [])) → total (set s k x) + 1 ≤ total s
  fewer x h = omega (arith, total_set s k x place, ap length stack)

module _ {A : Type 0} (weigh : A → ℕ → ℕ → Verdict A) where
  -- what is left has no more slots than there is fuel
  abbrev Alike : ℕ → (A → Stacks → ℕ → Outcome A) → (A → Stacks → ℕ → Outcome A) → Type 0
  Alike fuel go go' = (a : A) (s : Stacks) (w : ℕ) → total s ≤ fuel → go a s w ≡ go' a s w

  after_alike :
      (fuel : ℕ) (go go' : A → Stacks → ℕ → Outcome A) → Alike fuel go go' → (s : Stacks) (w k r : ℕ) → next (frontier s) ≡ chosen k r
      → total s ≤ suc fuel → (v : Verdict A) → afterwards go s w k v ≡ afterwards go' s w k v
  after_alike fuel go go' h s w k r e l (takes a) = h a (set s k (tail_of (get_or s k []))) (w + 1) (omega (arith, fewer s k r e (tail_of (get_or s k [])) (omega arith)))
  after_alike fuel go go' h s w k r e l (leaves a) = h a (set s k []) (w + 1) (omega (arith, fewer s k r e [] (omega arith)))
  after_alike fuel go go' h s w k r e l (stops a) = refl

  upon_alike :
      (fuel : ℕ) (go go' : A → Stacks → ℕ → Outcome A) → Alike fuel go go' → (a : A) (s : Stacks) (w : ℕ) (c : Choice) → next (frontier s) ≡ c
      → total s ≤ suc fuel → upon weigh go a s w c ≡ upon weigh go' a s w c
  upon_alike fuel go go' h a s w nobody e l = refl
  upon_alike fuel go go' h a s w (chosen k r) e l = after_alike fuel go go' h s w k r e l (weigh a k r)

  -- no slot at all
  none_left : (more : ℕ) (a : A) (s : Stacks) (w : ℕ) (c : Choice) → next (frontier s) ≡ c → total s ≤ 0 → upon weigh (run weigh more) a s w c ≡ record { state = a; weighed = w }
  none_left more a s w nobody e l = refl
  none_left more a s w (chosen k r) e l = absurd (omega (arith, fewer s k r e [] (omega arith)))

  pub fuel_enough : (fuel larger : ℕ) (a : A) (s : Stacks) (w : ℕ) → total s ≤ fuel → fuel ≤ larger → run weigh larger a s w ≡ run weigh fuel a s w
  unfolding run
  fuel_enough zero zero a s w l h = refl
  fuel_enough zero (suc larger) a s w l h = none_left larger a s w (next (frontier s)) refl l
  fuel_enough (suc fuel) zero a s w l h = absurd (omega arith)
  fuel_enough (suc fuel) (suc larger) a s w l h =
      upon_alike fuel (run weigh larger) (run weigh fuel) (λ b t v k. fuel_enough fuel larger b t v k (omega arith)) a s w (next (frontier s)) refl l
