-- Where a byte first stands in a list, and how long a part of it is. Assumes nothing.
use mathlib.Core.Path.{◌≡◌, refl, ap, ◌∙◌}
use mathlib.Core.Logic.{◌⊎◌, inl, inr}
use mathlib.Core.Bool.{Bool, true, false, cond}
use mathlib.Core.List.{List, [], ◌∷◌}
use Prim.Native.Nat.{ℕ, suc, ◌+◌, ◌-◌, ◌≤◌, ◌<◌, zero-le, suc-le-suc}
use native.Mathlib.Omega.{arith}
use borrow.Author.Tests.{eq-eqb, ne_eqb}
use lib.Dec.{eqb}
use lib.ListN.{length, get_or, take, drop, length-drop}
use Rattle.laws.proofs.Lists.{next, part}
use Rattle.blocks.specs.Blocks.{find}

pub test : (b : Bool) → (b ≡ true) ⊎ (b ≡ false)
test true = inl refl
test false = inr refl

pub part_length : (n : ℕ) (s : List ℕ) → length (take (length s - n) (drop n s)) ≡ length s - n
part_length n s = ap length (part n s) ∙ length-drop n s

-- ---- where a byte first stands

pub find_le : (x : ℕ) (s : List ℕ) → find x s ≤ length s
find_le x [] = zero-le
find_le x (b ∷ s) = go (eqb b x) (find_le x s)
  where
    go : (z : Bool) → find x s ≤ length s → cond z 0 (suc (find x s)) ≤ suc (length s)
    go true k = zero-le
    go false k = suc-le-suc k

-- the same of what a search found
pub found_le : (x : ℕ) (s : List ℕ) (n : ℕ) → n ≡ find x s → n ≤ length s
found_le x s n e = omega (arith, find_le x s)

pub find_here : (x : ℕ) (t : List ℕ) (i : ℕ) → i < length t → get_or t i 0 ≡ x → find x (drop i t) ≡ 0
find_here x t i h e = ap (find x) (next t i 0 h) ∙ ap (λ (z : Bool). cond z 0 (suc (find x (drop (i + 1) t)))) (eq-eqb (get_or t i 0) x e)

pub find_later : (x : ℕ) (t : List ℕ) (i : ℕ) → i < length t → (get_or t i 0 ≡ x → ⊥) → find x (drop i t) ≡ suc (find x (drop (i + 1) t))
find_later x t i h n = ap (find x) (next t i 0 h) ∙ ap (λ (z : Bool). cond z 0 (suc (find x (drop (i + 1) t)))) (ne_eqb (get_or t i 0) x n)
