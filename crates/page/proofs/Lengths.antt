-- How many digits a number's text has. Assumes nothing.
use Prim.Native.Nat.{ℕ, zero, suc, ◌+◌, ◌/◌, ◌%◌, ◌^◌, ◌≤◌}
use mathlib.Core.Path.{◌≡◌, refl}
use mathlib.Core.Bool.{Bool, true, false, cond}
use mathlib.Core.List.{[], ◌∷◌}
use native.Mathlib.Omega.{arith}
use lib.Dec.{ltb}
use lib.ListN.{length, length-append}
use Rattle.io.specs.Digits.{last_digits, hex_digit_ascii}
use Rattle.page.specs.Numbers.{places_from}

pub length_digits : (b k n : ℕ) → length (last_digits b k n) ≡ k
length_digits b zero n = refl
length_digits b (suc k) n = omega (arith, length-append (last_digits b k (n / b)) (hex_digit_ascii (n % b) ∷ []), length_digits b k (n / b))

pub places_most : (more k n : ℕ) → places_from more k n ≤ k + more
unfolding places_from
places_most zero k n = omega arith
places_most (suc more) k n = go (ltb n (10 ^ k)) (places_most more (suc k) n)
  where
    go : (t : Bool) → places_from more (suc k) n ≤ suc k + more → cond t k (places_from more (suc k) n) ≤ k + suc more
    go true h = omega arith
    go false h = omega arith
