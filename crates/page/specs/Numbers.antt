-- How a number is written on a page.
use Rattle.std.specs.Prelude.{ℕ, zero, suc, ◌/◌, ◌^◌, min, cond, List, ◌∷◌, ◌++◌, ltb, take, replicate}
use Rattle.io.specs.Digits.{last_digits}

-- the first of k, k + 1, .. whose power of ten is above n; k + more at most
unfoldable pub places_from : ℕ → ℕ → ℕ → ℕ
places_from zero k n = k
places_from (suc more) k n = cond (ltb n (10 ^ k)) k (places_from more (suc k) n)

-- n, below 2 ^ 64, by its fewest digits, one at least
unfoldable pub decimal : ℕ → List ℕ
unfolding places_from
decimal n = last_digits 10 (places_from 19 1 n) n

-- sixteen hexadecimal digits
unfoldable pub sixteen : ℕ → List ℕ
sixteen n = last_digits 16 16 n

-- n marks ('#'), and 60 at most
unfoldable pub bar : ℕ → List ℕ
bar n = take (min n 60) (replicate 60 35)

-- q millionths: a point before the last six digits
unfoldable pub six_decimals : ℕ → List ℕ
unfolding decimal
six_decimals q = decimal (q / 10 ^ 6) ++ (46 ∷ last_digits 10 6 q)
