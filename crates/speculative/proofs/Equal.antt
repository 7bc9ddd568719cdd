-- Widths that are all equal: a fraction and a block cost what one draft of that depth costs; an autoregressive head costs that many passes added up, which may differ in the last bit from the product. Assumes nothing.
use mathlib.Core.Path.{◌≡◌, refl, ap, ◌∙◌}
use mathlib.Core.Bool.{cond}
use mathlib.Core.List.{List, [], ◌∷◌}
use Prim.Native.Nat.{ℕ, zero, suc, ◌≤◌}
use native.Mathlib.Omega.{arith}
use borrow.Author.Tests.{le-leb}
use lib.Dec.{eqb}
use lib.ListN.{length, replicate, length-replicate}
use lib.Ieee.{Float, binary64, lt, is_nan, of_bits, of_int, add, mul, div, round}
use Rattle.float.specs.Floats.{plus, times, f0, f1, whole, max_of}
use Rattle.speculative.specs.declared.drafter.Rates.{Rates}
use Rattle.speculative.specs.declared.drafter.DrafterCost.{DrafterCost}
use Rattle.speculative.specs.declared.drafter.DrafterCost.TheVariants.{Fraction, Autoregressive, BlockParallel}
use Rattle.speculative.specs.Drafter.{head_pass, block_seconds, drafter_seconds, loaded_at, pass_seconds, passes_from, ragged_seconds}
use Rattle.draft_inputs.specs.Inputs.{largest, still_drafting}

largest_equal : (m g : ℕ) → largest (replicate (suc m) g) ≡ g
unfolding largest
largest_equal zero g = omega arith
largest_equal (suc m) g = let h = largest_equal m g in omega arith

all_draft : (n g k : ℕ) → k ≤ g → still_drafting (replicate n g) k ≡ n
unfolding still_drafting
all_draft zero g k h = refl
all_draft (suc n) g k h = rw (le-leb k g h) (let e = all_draft n g k h in omega arith)

module _ (m g : ℕ) (rates : Rates) (verify loaded : Float) (list : List Float) where
  pub equal_fraction : (frac : Float) → ragged_seconds (Fraction frac) (replicate (suc m) g) rates verify list ≡ drafter_seconds (Fraction frac) g (suc m) rates verify loaded
  equal_fraction frac = ap (λ (w : ℕ). cond (eqb w 0) f0 (times (times frac (whole w)) verify)) (largest_equal m g)

  pub equal_block : (params : Float) (block : ℕ) → ragged_seconds (BlockParallel params block) (replicate (suc m) g) rates verify list ≡ drafter_seconds (BlockParallel params block) g (suc m) rates verify loaded
  equal_block params block =
      ap (λ (w : ℕ). cond (eqb w 0) f0 (block_seconds params block (whole (length (replicate (suc m) g))) rates)) (largest_equal m g)
      ∙ ap (λ (n : ℕ). cond (eqb g 0) f0 (block_seconds params block (whole n) rates)) (length-replicate (suc m) g)

-- ---- the same pass, so many times
unfoldable pub repeated : Float → ℕ → Float
repeated p zero = f0
repeated p (suc d) = plus (repeated p d) p

module _ (kind : DrafterCost) (n g : ℕ) (rates : Rates) (loaded : List Float) where
  pub equal_passes : (d : ℕ) → d ≤ g → passes_from kind (replicate n g) rates loaded d ≡ repeated (pass_seconds kind n rates (loaded_at kind loaded n)) d
  unfolding passes_from repeated
  equal_passes zero h = refl
  equal_passes (suc d) h = rw (equal_passes d (omega arith), all_draft n g (suc d) h)

-- ---- one sequence, six drafts, dense_params 1, no experts, peak and bw 3: a pass takes 2 / 3; six of them added up give the float below 4, and six times one gives 4
abbrev head : DrafterCost
head = Autoregressive f1 f0 0 0 0

abbrev three : Rates
three = record { peak = of_bits binary64 0x4008_0000_0000_0000; bw = of_bits binary64 0x4008_0000_0000_0000; kv_delta = f0 }

pub six_added : ragged_seconds head (6 ∷ []) three f0 (f0 ∷ f0 ∷ []) ≡ of_bits binary64 0x400f_ffff_ffff_ffff
unfolding passes_from largest still_drafting head_pass max_of lt is_nan of_bits of_int add mul div round
six_added = refl

pub six_times : drafter_seconds head 6 1 three f0 f0 ≡ of_bits binary64 0x4010_0000_0000_0000
unfolding head_pass max_of lt is_nan of_bits of_int add mul div round
six_times = refl
