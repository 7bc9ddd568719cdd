-- Laws of the curve. Assumes nothing.
use mathlib.Core.Path.{◌≡◌, sym, ap, ◌∙◌}
use mathlib.Core.Bool.{false}
use mathlib.Core.List.{List, [], ◌∷◌}
use Prim.Native.Nat.{ℕ, suc, ◌+◌, ◌-◌, ◌*◌, ◌^◌, ◌≤◌, ◌<◌, min, zero-le}
use native.Mathlib.Nat.{suc-mul, le_trans, lt_of_le_of_lt, mul-le-mul_left, mul-le-mul_right}
use lib.Dec.{lit<}
use native.Mathlib.Numerals.{add-one}
use native.Mathlib.Omega.{arith}
use lib.Ieee.{binary64, round}
use lib.ListN.{length, get_or, drop}
use Rattle.laws.proofs.Lists.{next}
use Rattle.bank_curve.specs.Curve.{sum_up_to, curve_from}

pub sum_next : (g : ℕ) (commits : List ℕ) (i : ℕ) → i < length commits → sum_up_to g (drop i commits) ≡ min (get_or commits i 0) g + sum_up_to g (drop (i + 1) commits)
sum_next g commits i h = ap (sum_up_to g) (next commits i 0 h)

pub sum_small : (g : ℕ) (commits : List ℕ) → sum_up_to g commits ≤ length commits * g
sum_small g [] = zero-le
sum_small g (c ∷ commits) = step (min c g) (sum_up_to g commits) (length commits * g) g (omega arith) (sum_small g commits) (suc (length commits) * g) (suc-mul (length commits) g)
  where
    step : (m s t g : ℕ) → m ≤ g → s ≤ t → (n : ℕ) → n ≡ t + g → m + s ≤ n
    step m s t g h k n e = omega arith

pub sum_held : (g : ℕ) (commits : List ℕ) → length commits ≤ 65536 → g ≤ 64 → sum_up_to g commits < 2 ^ 53
sum_held g commits h k =
    lt_of_le_of_lt (le_trans (sum_small g commits) (le_trans (mul-le-mul_right g h) (mul-le-mul_left 65536 k))) (lit< tt)

pub curve_next : (g depth : ℕ) (commits : List ℕ) → g ≤ depth
    → curve_from g (suc depth - g) commits ≡ round binary64 false (sum_up_to g commits) (length commits) ∷ curve_from (g + 1) (suc depth - (g + 1)) commits
curve_next g depth commits h =
    let n : suc depth - g ≡ suc (suc depth - (g + 1)) = omega arith in
    ap (λ (k : ℕ). curve_from g k commits) n
    ∙ ap (λ (k : ℕ). round binary64 false (sum_up_to g commits) (length commits) ∷ curve_from k (suc depth - (g + 1)) commits) (sym (add-one g))
