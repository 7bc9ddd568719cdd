-- The chains of a batch from a sequence on: one chain, and none left. Assumes nothing.
use mathlib.Core.Path.{◌≡◌, ◌∙◌}
use mathlib.Core.Bool.{Bool, true, false, ◌&&◌}
use mathlib.Core.List.{List}
use Prim.Native.Nat.{ℕ, ◌+◌, ◌-◌, ◌*◌, ◌≤◌, ◌<◌, min}
use native.Mathlib.Numerals.{add-one}
use native.Mathlib.Omega.{arith}
use borrow.Author.Tests.{le-leb, lt-leb}
use lib.Dec.{leb}
use lib.ListN.{length, get_or, take, drop, drop_of_length-le}
use lib.Seq.{drop-drop, drop-cons}
use lib.Ieee.{Float}
use Rattle.chains.specs.Tests.{all_of, is_survival}
use Rattle.chains.specs.Expected.{are_chains}

module _ (gamma : ℕ) (lengths : List ℕ) (slots : List Float) where
  abbrev From : ℕ → Bool
  From k = are_chains gamma (drop k lengths) (drop (k * 64) slots)

  -- chain k, and those behind it
  chain_at : (k : ℕ) → k < length lengths
      → From k ≡ ((leb (get_or lengths k 0) 64 && all_of is_survival (take (min gamma (get_or lengths k 0)) (drop (k * 64) slots))) && From (k + 1))
  unfolding are_chains
  chain_at k h =
      let p : (k + 1) * 64 ≡ k * 64 + 64 = omega arith in
      rw (p, ← drop-drop 64 (k * 64) slots, add-one k, drop-cons lengths k 0 h)

  pub chain_long : (k : ℕ) → k < length lengths → 64 < get_or lengths k 0 → From k ≡ false
  chain_long k h l = chain_at k h ∙ rw (lt-leb (get_or lengths k 0) 64 l)

  pub chain_tested : (k end : ℕ) (z : Bool) → k < length lengths → get_or lengths k 0 ≤ 64 → end ≡ k * 64 + min gamma (get_or lengths k 0)
      → all_of is_survival (take (end - k * 64) (drop (k * 64) slots)) ≡ z → From k ≡ (z && From (k + 1))
  chain_tested k end z h l w e =
      let q : end - k * 64 ≡ min gamma (get_or lengths k 0) = omega arith in
      chain_at k h ∙ rw (le-leb (get_or lengths k 0) 64 l, ← q, e)

  pub chains_end : (k : ℕ) → length lengths ≤ k → From k ≡ true
  unfolding are_chains
  chains_end k h = rw (drop_of_length-le lengths h)
