-- What the loop of either gate has room for. Assumes nothing.
use Prim.Native.Nat.{ℕ, ◌+◌, ◌*◌, ◌≤◌, ◌<◌}
use mathlib.Core.Path.{◌≡◌, ◌∙◌}
use mathlib.Core.List.{List}
use native.Mathlib.Omega.{arith}
use lib.ListN.{get_or, length}
use lib.Ieee.{Float}
use Rattle.heap.specs.Greedy.{Stacks, Verdict, total}
use Rattle.slots.specs.Slots.{Fits, starts, stacks}
use Rattle.slots.specs.Gate.{State}
use Rattle.heap.proofs.Turns.{Going, going_room, k_below}
use Rattle.slots.proofs.Stacked.{stacks_length, stacks_total, starts_length, starts_narrow, sum_narrow}

-- stacks of n sequences, of 64 slots at most each
pub record Sized (s : Stacks) (n : ℕ) : Type 0 where
  pub count : length s ≡ n
  pub small : n ≤ 1024
  pub slots : total s ≤ n * 64

pub fits_sized :
    (slots : ℕ → List Float → List ℕ) {c : List Float} {ws : List ℕ} {n : ℕ} → ((w : ℕ) (x : List Float) → length (slots w x) ≤ w) → Fits c ws n
    → Sized (stacks slots ws c) n
fits_sized slots {c} {ws} short fits = record {
  count = stacks_length slots ws c ∙ fits.count;
  small = fits.few;
  slots = omega (arith, stacks_total slots ws c short, sum_narrow ws fits.narrow, fits.count);
}

pub fits_starts : (depth : ℕ) {c : List Float} {lengths : List ℕ} {n : ℕ} → Fits c lengths n → Fits c (starts depth lengths) n
fits_starts depth {c} {lengths} fits = record {
  room = fits.room;
  count = starts_length depth lengths ∙ fits.count;
  few = fits.few;
  narrow = starts_narrow depth lengths fits.narrow;
}

module _ {weigh : State → ℕ → ℕ → Verdict State} {rest : ℕ → ℕ → List ℕ} {Ok : ℕ → ℕ → Type 0} {a₀ : State} {s₀ : Stacks} {R₀ S₀ R S : List ℕ}
    {a : State} {live w n : ℕ} (sized : Sized s₀ n) (at : Going weigh (λ (a : State). a.widths) rest Ok a₀ s₀ R₀ S₀ R S a live w) where
  pub few : length s₀ ≤ 18446744073709551616
  few = omega (arith, sized.count, sized.small)

  pub live_few : live ≤ n
  live_few = omega (arith, sized.count, at.fewer)

  pub widths_count : length a.widths ≡ n
  widths_count = at.counts ∙ sized.count

  pub k_low : 0 < live → get_or S 0 0 < n
  k_low h = omega (arith, k_below at h few, sized.count)

  pub weighed_room : 0 < live → w + 1 ≤ n * 64
  weighed_room h = omega (arith, going_room at h few, sized.slots)
