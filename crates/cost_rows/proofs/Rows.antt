-- Laws of the rows of three columns. Assumes nothing.
use mathlib.Core.Path.{◌≡◌, refl, ap}
use mathlib.Core.List.{List, [], ◌∷◌}
use Prim.Native.Nat.{ℕ, zero, suc, ◌≤◌, ◌<◌}
use native.Mathlib.Nat.{le_of_suc-le-suc, not-suc-le-zero}
use lib.ListN.{length, get_or, drop}
use lib.Ieee.{Float}
use Rattle.cost_rows.specs.Table.{Row, zip, table, counted}

-- the row that stands at i in the columns
abbrev pub row_at : List ℕ → List ℕ → List Float → Float → ℕ → Row
row_at d b s z i = record { depth = get_or d i 0; batch = get_or b i 0; seconds = get_or s i z }

pub zip_length : (n : ℕ) (d b : List ℕ) (s : List Float) → n ≤ length d → n ≤ length b → n ≤ length s → length (zip n d b s) ≡ n
unfolding zip
zip_length zero d b s p q r = refl
zip_length (suc n) [] b s p q r = absurd (not-suc-le-zero p)
zip_length (suc n) (x ∷ d) [] s p q r = absurd (not-suc-le-zero q)
zip_length (suc n) (x ∷ d) (y ∷ b) [] p q r = absurd (not-suc-le-zero r)
zip_length (suc n) (x ∷ d) (y ∷ b) (z ∷ s) p q r = ap suc (zip_length n d b s (le_of_suc-le-suc p) (le_of_suc-le-suc q) (le_of_suc-le-suc r))

-- from i on: the row there, and the rows from the next one on
pub zip_next : (n : ℕ) (d b : List ℕ) (s : List Float) (z : Float) (i : ℕ) → n ≤ length d → n ≤ length b → n ≤ length s → i < n → drop i (zip n d b s) ≡ row_at d b s z i ∷ drop (suc i) (zip n d b s)
unfolding zip
zip_next zero d b s z i p q r h = absurd (not-suc-le-zero h)
zip_next (suc n) [] b s z i p q r h = absurd (not-suc-le-zero p)
zip_next (suc n) (x ∷ d) [] s z i p q r h = absurd (not-suc-le-zero q)
zip_next (suc n) (x ∷ d) (y ∷ b) [] z i p q r h = absurd (not-suc-le-zero r)
zip_next (suc n) (x ∷ d) (y ∷ b) (w ∷ s) z zero p q r h = refl
zip_next (suc n) (x ∷ d) (y ∷ b) (w ∷ s) z (suc i) p q r h = zip_next n d b s z i (le_of_suc-le-suc p) (le_of_suc-le-suc q) (le_of_suc-le-suc r) (le_of_suc-le-suc h)

-- the columns' rows, by a count that was worked out
pub table_is : (rows n : ℕ) (d b : List ℕ) (s : List Float) → n ≡ counted rows d b s → zip n d b s ≡ table rows d b s
table_is rows n d b s e = ap (λ m. zip m d b s) e
