-- Goodput and the best depth. Assumes nothing.
use Rattle.std.specs.Prelude.{ℕ, zero, suc, Bool, false, not, cond, ◌&&◌, ◌||◌, List, [], ◌∷◌, length, get_or, Float}
use Rattle.std.specs.Float.{nan, binary64}
use Rattle.std.specs.Float.Ieee.{lt, of_bits, neg}
use Rattle.float.specs.Floats.{plus, over, whole, max_of, is_finite}
use Rattle.depths.specs.declared.inner.Best.{Best}

-- 1e-12
abbrev pub tiny : Float
tiny = of_bits binary64 0x3d71_9799_812d_ea11

-- (expected + n) / max(cost, 1e-12)
abbrev pub goodput_of : ℕ → Float → Float → Float
goodput_of n e c = over (plus e (whole n)) (max_of c tiny)

-- ---- the best depth of the rules, where `es` has an expected value and `cs` a total cost for each depth
module _ (n : ℕ) (es cs : List Float) where
  abbrev pub goodput_at : ℕ → Float
  goodput_at g = goodput_of n (get_or es g nan) (get_or cs g nan)

  -- depth g has a finite total cost
  abbrev pub is_priced : ℕ → Bool
  is_priced g = is_finite (get_or cs g nan)

  -- one of the first k depths has a finite total cost and a goodput above x
  unfoldable pub exceeded : Float → ℕ → Bool
  exceeded x zero = false
  exceeded x (suc k) = exceeded x k || (is_priced k && lt x (goodput_at k))

  -- a depth of finite total cost whose goodput no other such depth exceeds
  abbrev pub is_best : ℕ → Bool
  is_best g = is_priced g && not (exceeded (goodput_at g) (length cs))

  -- the smallest such depth of the k from g on; 0 where there is none
  unfoldable pub first_best : ℕ → ℕ → ℕ
  first_best zero g = 0
  first_best (suc k) g = cond (is_best g) g (first_best k (suc g))

  unfoldable pub best_of : ℕ
  best_of = first_best (length cs) 0

-- ---- the depth that the Rust's loop ends with

-- the least finite number, which the loop starts with
abbrev pub least : Float
least = neg (of_bits binary64 0x7fef_ffff_ffff_ffff)

-- depth g, with its expected value and its cost, against the best so far
abbrev pub weigh : ℕ → Best → ℕ → Float → Float → Best
weigh n b g e c =
    cond (is_finite c && lt b.worth (goodput_of n e c)) (record { depth = g; worth = goodput_of n e c }) b

-- the best of depth g and those after it, from the best before them on
unfoldable pub best_from : ℕ → ℕ → Best → List Float → List Float → Best
best_from n g b [] cs = b
best_from n g b (e ∷ es) [] = b
best_from n g b (e ∷ es) (c ∷ cs) = best_from n (suc g) (weigh n b g e c) es cs

abbrev pub best_depth : ℕ → List Float → List Float → ℕ
best_depth n es cs = (best_from n 0 (record { depth = 0; worth = least }) es cs).depth
