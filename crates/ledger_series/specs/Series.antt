-- The series and the day figure, over the seconds in the words, on any content.
use Rattle.std.specs.Prelude.{ℕ, zero, suc, ◌+◌, max, cond, List, [], ◌∷◌, ◌++◌, length, drop, ◌==◌, slice_index, Float}
use Rattle.float.specs.Floats.{f0, plus, over, whole}
use Rattle.ledger_rows.specs.Layout.{second_at, drafts_in, sequences_in, committed_in, steps_in}
use Rattle.ledger_series.specs.declared.DepthSample.{DepthSample}

-- a sum divided once by a count, which is taken as 1 where it is 0
abbrev pub mean_of : ℕ → ℕ → Float
mean_of sum count = over (whole sum) (whole (max count 1))

-- row i: its second, its mean draft by sequence, its mean batch by step, its mean committed by sequence
unfoldable pub second_of : List ℕ → ℕ → ℕ
second_of ws i = slice_index ws (second_at i)

unfoldable pub mean_of_drafts : List ℕ → ℕ → Float
mean_of_drafts ws i = mean_of (slice_index ws (second_at i + drafts_in)) (slice_index ws (second_at i + sequences_in))

unfoldable pub mean_batch : List ℕ → ℕ → Float
mean_batch ws i = mean_of (slice_index ws (second_at i + sequences_in)) (slice_index ws (second_at i + steps_in))

unfoldable pub mean_of_committed : List ℕ → ℕ → Float
mean_of_committed ws i = mean_of (slice_index ws (second_at i + committed_in)) (slice_index ws (second_at i + sequences_in))

abbrev pub sample_at : List ℕ → ℕ → DepthSample
sample_at ws i = record { second = second_of ws i; mean_draft = mean_of_drafts ws i; mean_decode_batch = mean_batch ws i; mean_committed = mean_of_committed ws i }

-- the first n values of a rule, in order; a buffer with them at its front
unfoldable pub up_to : {A : Type 0} → (ℕ → A) → ℕ → List A
up_to f zero = []
up_to f (suc n) = up_to f n ++ (f n ∷ [])

unfoldable pub front : {A : Type 0} → (ℕ → A) → ℕ → List A → List A
front f n old = up_to f n ++ drop n old

-- added in order to a sum
unfoldable pub added : Float → List Float → Float
added sum [] = sum
added sum (x ∷ xs) = added (plus sum x) xs

-- the day figure of mean drafts: added in order from 0.0, divided once by how many there are; 0.0 for none
unfoldable pub figure_of : List Float → Float
figure_of means = cond (length means == 0) f0 (over (added f0 means) (whole (length means)))
