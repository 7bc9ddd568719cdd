-- An array that is filled from its front. Assumes nothing.
use mathlib.Core.Path.{◌≡◌, refl, sym, ap, ◌∙◌}
use mathlib.Core.List.{List, [], ◌∷◌}
use Prim.Native.Nat.{ℕ, zero, suc, ◌+◌, ◌≤◌}
use native.Mathlib.Nat.{add-zero, add-suc, suc-add, zero-add, le_of_suc-le-suc}
use native.Mathlib.Numerals.{add-one}
use native.Mathlib.Omega.{arith}
use lib.ListN.{length, set, take}
use lib.Ieee.{Float}
use Rattle.step_times.specs.Prices.{each}

-- the first k slots have what f gives of their number, counted from g on
unfoldable pub fill : (ℕ → Float) → ℕ → ℕ → List Float → List Float
fill f zero g xs = xs
fill f (suc k) g [] = []
fill f (suc k) g (x ∷ xs) = f g ∷ fill f k (suc g) xs

more : (f : ℕ → Float) (k g : ℕ) (xs : List Float) → set (fill f k g xs) k (f (g + k)) ≡ fill f (suc k) g xs
unfolding fill
more f zero g [] = refl
more f zero g (x ∷ xs) = rw (add-zero g)
more f (suc k) g [] = refl
more f (suc k) g (x ∷ xs) = rw (add-suc g k, ← suc-add g k) (ap (λ l. f g ∷ l) (more f k (suc g) xs))

-- one slot more
pub fill_more : (f : ℕ → Float) (k : ℕ) (xs : List Float) → set (fill f k 0 xs) k (f k) ≡ fill f (k + 1) 0 xs
fill_more f k xs = let e : set (fill f k 0 xs) k (f (0 + k)) ≡ fill f (suc k) 0 xs = more f k 0 xs in rw (add-one) (rw (zero-add k) at e)

pub fill_none : (f : ℕ → Float) (xs : List Float) → xs ≡ fill f 0 0 xs
unfolding fill
fill_none f xs = refl

-- all slots
pub fill_all : (f : ℕ → Float) (k g : ℕ) (xs : List Float) → length xs ≡ k → fill f k g xs ≡ each f k g
unfolding fill each
fill_all f zero g [] h = refl
fill_all f zero g (x ∷ xs) h = absurd (omega arith)
fill_all f (suc k) g [] h = absurd (omega arith)
fill_all f (suc k) g (x ∷ xs) h = ap (λ l. f g ∷ l) (fill_all f k (suc g) xs (omega arith))

-- a turn of the loop that fills it
pub fill_turn : (f : ℕ → Float) (k : ℕ) (xs out : List Float) (x : Float) → out ≡ fill f k 0 xs → x ≡ f k → set out k x ≡ fill f (k + 1) 0 xs
fill_turn f k xs out x e h = rw (e, h) (fill_more f k xs)

-- the first n of k
first_of : (f : ℕ → Float) (n k g : ℕ) → n ≤ k → take n (each f k g) ≡ each f n g
unfolding each
first_of f zero k g h = refl
first_of f (suc n) zero g h = absurd (omega arith)
first_of f (suc n) (suc k) g h = ap (λ l. f g ∷ l) (first_of f n k (suc g) (le_of_suc-le-suc h))

-- and its end: the first of k
pub fill_ended : {out : List Float} (f : ℕ → Float) (j k : ℕ) (xs : List Float) → out ≡ fill f j 0 xs → j ≡ length xs → length xs ≤ k → out ≡ take (length xs) (each f k 0)
fill_ended f j k xs e l h = e ∙ ap (λ m. fill f m 0 xs) l ∙ fill_all f (length xs) 0 xs refl ∙ sym (first_of f (length xs) k 0 h)
