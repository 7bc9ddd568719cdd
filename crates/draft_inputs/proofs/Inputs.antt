-- What is refused of a draft's counts, widths and loaded experts, and each turn of a walk over the widths. Assumes nothing.
use mathlib.Core.Path.{◌≡◌, ap, ◌∙◌}
use mathlib.Core.Bool.{Bool, false, ◌&&◌}
use mathlib.Core.List.{List}
use Prim.Native.Nat.{ℕ, ◌+◌, max, ◌≤◌, ◌<◌}
use native.Mathlib.Numerals.{add-one}
use borrow.Author.Tests.{le-leb, lt-leb, lt-ltb, le-ltb}
use lib.ListN.{length, get_or, drop, take, drop_of_length-le}
use lib.Seq.{drop-cons}
use lib.Ieee.{Float}
use Rattle.std.specs.Prelude.{Err}
use Rattle.laws.proofs.Lists.{next}
use Rattle.refusals.specs.declared.Refusal.TheVariants.{Input, ShortBuffer}
use Rattle.refusals.specs.Refusals.{passed_if}
use Rattle.acceptance.specs.Acceptance.{most_gamma}
use Rattle.draft_inputs.specs.Inputs.{most_count, is_head, all_widths, all_loaded, entries_judged as judged_entries, largest, still_drafting}

-- ---- an autoregressive head
module _ (dense expert : Float) (experts k shared : ℕ) where
  pub head_experts : most_count < experts → false ≡ is_head dense expert experts k shared
  head_experts h = rw (lt-leb experts most_count h)

  pub head_shared : experts ≤ most_count → k ≤ most_count → most_count < shared → false ≡ is_head dense expert experts k shared
  head_shared f g h = rw (le-leb experts most_count f, le-leb k most_count g, lt-leb shared most_count h)

-- ---- a width that is too large
pub widths_stop : (t : List ℕ) (i : ℕ) → i < length t → most_gamma < get_or t i 0 → all_widths (drop i t) ≡ false
widths_stop t i h e = ap all_widths (next t i 0 h) ∙ ap (λ (b : Bool). b && all_widths (drop (i + 1) t)) (lt-leb (get_or t i 0) most_gamma e)

-- ---- the loaded experts
module _ (batch : ℕ) (loaded : List Float) where
  pub entries_short : length loaded ≤ batch → Err ShortBuffer ≡ judged_entries batch loaded
  entries_short h = rw (le-ltb batch (length loaded) h)

  pub entries_judged : (b : Bool) → batch < length loaded → all_loaded (take (batch + 1) loaded) ≡ b → passed_if b Input ≡ judged_entries batch loaded
  entries_judged b h e = rw (lt-ltb batch (length loaded) h, e)

-- ---- the largest width
pub largest_next : (l : List ℕ) (i : ℕ) → i < length l → largest (drop i l) ≡ max (get_or l i 0) (largest (drop (i + 1) l))
unfolding largest
largest_next l i h = rw (add-one i, drop-cons l i 0)

pub largest_end : (l : List ℕ) (i : ℕ) → length l ≤ i → largest (drop i l) ≡ 0
unfolding largest
largest_end l i h = rw (drop_of_length-le l h)

-- ---- how many still draft
pub counts : (l : List ℕ) (k i : ℕ) → i < length l → k ≤ get_or l i 0 → still_drafting (drop i l) k ≡ 1 + still_drafting (drop (i + 1) l) k
unfolding still_drafting
counts l k i h t = rw (add-one i, drop-cons l i 0, le-leb k (get_or l i 0))

pub passes : (l : List ℕ) (k i : ℕ) → i < length l → get_or l i 0 < k → still_drafting (drop i l) k ≡ 0 + still_drafting (drop (i + 1) l) k
unfolding still_drafting
passes l k i h t = rw (add-one i, drop-cons l i 0, lt-leb k (get_or l i 0))

pub counted_end : (l : List ℕ) (k i : ℕ) → length l ≤ i → still_drafting (drop i l) k ≡ 0
unfolding still_drafting
counted_end l k i h = rw (drop_of_length-le l h)
