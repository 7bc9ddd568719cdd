-- A turn of each loop over the depths. Assumes nothing.
use mathlib.Core.Path.{◌≡◌, refl, ap, ◌∙◌}
use mathlib.Core.List.{List, [], ◌∷◌, map}
use Prim.Native.Nat.{ℕ, zero, suc, ◌+◌, ◌≤◌, ◌<◌}
use native.Mathlib.Nat.{le_of_suc-le-suc, not-suc-le-zero}
use native.Mathlib.Numerals.{add-one}
use lib.ListN.{length, get_or, take, drop, drop_of_length-le}
use lib.Seq.{drop-cons}
use lib.Ieee.{Float}
use Rattle.std.specs.Prelude.{Option}
use Rattle.cost_rows.specs.Table.{zip}
use Rattle.step_times.specs.Between.{deeper, deepest, shallower, shallowest}

-- the depths of the rows are the first of the column
pub depths_are : (n : ℕ) (d b : List ℕ) (s : List Float) → n ≤ length d → n ≤ length b → n ≤ length s → map (λ r. r.depth) (zip n d b s) ≡ take n d
unfolding zip
depths_are zero d b s p q r = refl
depths_are (suc n) [] b s p q r = absurd (not-suc-le-zero p)
depths_are (suc n) (x ∷ d) [] s p q r = absurd (not-suc-le-zero q)
depths_are (suc n) (x ∷ d) (y ∷ b) [] p q r = absurd (not-suc-le-zero r)
depths_are (suc n) (x ∷ d) (y ∷ b) (z ∷ s) p q r = ap (λ l. x ∷ l) (depths_are n d b s (le_of_suc-le-suc p) (le_of_suc-le-suc q) (le_of_suc-le-suc r))

module _ (d : List ℕ) (g : Float) (best : Option ℕ) (i : ℕ) where
  next_depth : i < length d → drop i d ≡ get_or d i 0 ∷ drop (i + 1) d
  next_depth h = drop-cons d i 0 h ∙ rw (add-one) refl

  no_depth : length d ≤ i → drop i d ≡ []
  no_depth h = drop_of_length-le d {i = i} h

  pub deepest_turn : i < length d → deepest g best (drop i d) ≡ deepest g (deeper g best (get_or d i 0)) (drop (i + 1) d)
  unfolding deepest
  deepest_turn h = rw (next_depth h)

  pub deepest_end : length d ≤ i → deepest g best (drop i d) ≡ best
  unfolding deepest
  deepest_end h = rw (no_depth h)

  pub shallowest_turn : i < length d → shallowest g best (drop i d) ≡ shallowest g (shallower g best (get_or d i 0)) (drop (i + 1) d)
  unfolding shallowest
  shallowest_turn h = rw (next_depth h)

  pub shallowest_end : length d ≤ i → shallowest g best (drop i d) ≡ best
  unfolding shallowest
  shallowest_end h = rw (no_depth h)
