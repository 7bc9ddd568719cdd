-- What a greedy gate keeps from turn to turn, whatever its state is, and so two gates that agree on what is kept; sums of widths; one token more. Assumes nothing.
use Prim.Native.Nat.{ℕ, zero, suc, ◌+◌, ◌^◌, ◌≤◌, ◌<◌}
use mathlib.Core.Path.{◌≡◌, refl, ap, ◌∙◌}
use mathlib.Core.List.{List, [], ◌∷◌}
use native.Mathlib.Omega.{arith}
use lib.ListN.{length, get_or, set, length-map}
use lib.Ieee.{of_bits, of_int}
use Rattle.float.specs.Floats.{plus, whole, f1}
use Rattle.heap.specs.Frontier.{Choice, nobody, chosen, next}
use Rattle.heap.specs.Greedy.{Stacks, head_of, tail_of, frontier, total, Verdict, takes, leaves, stops, Outcome, afterwards, upon, run, greedy}
use Rattle.heap.proofs.Next.{next_first}
use Rattle.heap.proofs.Frontiers.{in_frontier}
use Rattle.slots.specs.Slots.{sum}
use Rattle.verify_prices.proofs.Counted.{whole_plus}

-- the sequence that is chosen is one of the stacks'
pub chosen_place : (s : Stacks) (k r : ℕ) → next (frontier s) ≡ chosen k r → k < length s
chosen_place s k r e = omega (arith, in_frontier (frontier s) k r (next_first (frontier s) k r e).own, length-map s head_of)

-- ---- two verdicts that agree where the state and the stacks keep P make the same gate
module _ {A : Type 0} (P : A → Stacks → Type 0) (weigh weigh' : A → ℕ → ℕ → Verdict A) where
  abbrev pub Turned : Stacks → ℕ → Verdict A → Type 0
  Turned s k (takes a) = P a (set s k (tail_of (get_or s k [])))
  Turned s k (leaves a) = P a (set s k [])
  Turned s k (stops a) = Unit {0}

  module _ (same : (a : A) (s : Stacks) (k r : ℕ) → next (frontier s) ≡ chosen k r → P a s → weigh a k r ≡ weigh' a k r)
      (turn : (a : A) (s : Stacks) (k r : ℕ) → next (frontier s) ≡ chosen k r → P a s → Turned s k (weigh a k r)) where
    abbrev Alike : (A → Stacks → ℕ → Outcome A) → (A → Stacks → ℕ → Outcome A) → Type 0
    Alike go go' = (a : A) (s : Stacks) (w : ℕ) → P a s → go a s w ≡ go' a s w

    after_alike : (go go' : A → Stacks → ℕ → Outcome A) → Alike go go' → (s : Stacks) (w k : ℕ) (v : Verdict A) → Turned s k v → afterwards go s w k v ≡ afterwards go' s w k v
    after_alike go go' h s w k (takes a) p = h a (set s k (tail_of (get_or s k []))) (w + 1) p
    after_alike go go' h s w k (leaves a) p = h a (set s k []) (w + 1) p
    after_alike go go' h s w k (stops a) p = refl

    upon_alike : (go go' : A → Stacks → ℕ → Outcome A) → Alike go go' → (a : A) (s : Stacks) (w : ℕ) (c : Choice) → next (frontier s) ≡ c → P a s → upon weigh go a s w c ≡ upon weigh' go' a s w c
    upon_alike go go' h a s w nobody e p = refl
    upon_alike go go' h a s w (chosen k r) e p = after_alike go go' h s w k (weigh a k r) (turn a s k r e p) ∙ ap (afterwards go' s w k) (same a s k r e p)

    run_alike : (fuel : ℕ) (a : A) (s : Stacks) (w : ℕ) → P a s → run weigh fuel a s w ≡ run weigh' fuel a s w
    unfolding run
    run_alike zero a s w p = refl
    run_alike (suc fuel) a s w p = upon_alike (run weigh fuel) (run weigh' fuel) (λ b t v q. run_alike fuel b t v q) a s w (next (frontier s)) refl p

    pub greedy_alike : (a : A) (s : Stacks) → P a s → greedy weigh a s ≡ greedy weigh' a s
    unfolding greedy
    greedy_alike a s p = run_alike (total s) a s 0 p

-- ---- sums of widths
pub sum_set : (ws : List ℕ) (k v : ℕ) → k < length ws → sum (set ws k v) + get_or ws k 0 ≡ sum ws + v
sum_set [] k v l = absurd (omega arith)
sum_set (w ∷ ws) zero v l = omega arith
sum_set (w ∷ ws) (suc k) v l = omega (arith, sum_set ws k v (omega arith))

pub sum_under : (ws caps : List ℕ) → length ws ≡ length caps → ((k : ℕ) → k < length caps → get_or ws k 0 ≤ get_or caps k 0) → sum ws ≤ sum caps
sum_under [] caps l h = omega arith
sum_under (w ∷ ws) [] l h = absurd (omega arith)
sum_under (w ∷ ws) (c ∷ caps) l h = omega (arith, h 0 (omega arith), sum_under ws caps (omega arith) (λ k i. h (suc k) (omega arith)))

-- ---- one token more
one : f1 ≡ whole 1
unfolding of_bits of_int
one = refl

pub whole_more : (m : ℕ) → m < 2 ^ 53 → plus (whole m) f1 ≡ whole (m + 1)
whole_more m h = ap (plus (whole m)) one ∙ whole_plus m 1 h (omega arith)
