-- The smallest width, and that every sequence drafts as deep as that. Assumes nothing.
use Prim.Native.Nat.{ℕ, suc, ◌+◌, ◌≤◌, ◌<◌, min}
use mathlib.Core.Path.{◌≡◌, refl}
use mathlib.Core.List.{List, [], ◌∷◌}
use native.Mathlib.Decide.{ℕ_discrete}
use native.Mathlib.Omega.{arith}
use borrow.Author.Tests.{le-leb}
use lib.ListN.{length, get_or}
use Rattle.speculative.specs.Drafter.{still_drafting}
use Rattle.ragged.specs.Least.{AtLeast}

pub least_next :
    (ws : List ℕ) (i m r : ℕ) → r ≡ min m (get_or ws i 0) → ((k : ℕ) → k < i → m ≤ get_or ws k 0) → (k : ℕ) → k < i + 1 → r ≤ get_or ws k 0
least_next ws i m r e h k l = pick (ℕ_discrete k i)
  where
    pick : Dec (k ≡ i) → r ≤ get_or ws k 0
    pick (yes p) = rw p (omega arith)
    pick (no p) = omega (arith, h k (omega arith))

pub still_all : (ws : List ℕ) (d least : ℕ) → d ≤ least → AtLeast least ws → still_drafting ws d ≡ length ws
unfolding still_drafting
still_all [] d least l h = refl
still_all (w ∷ ws) d least l h =
    let rest = still_all ws d least l (λ k m. h (suc k) (omega arith)) in
    rw (le-leb d w (omega (arith, h 0 (omega arith)))) (omega (arith, rest))
