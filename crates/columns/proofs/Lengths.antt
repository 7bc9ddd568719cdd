-- How long a number's text is at most. Assumes nothing.
use Prim.Native.Nat.{ℕ, ◌/◌, ◌^◌, ◌≤◌}
use mathlib.Core.Bool.{Bool, true, false, cond}
use mathlib.Core.List.{List, ◌∷◌, ◌++◌}
use native.Mathlib.Omega.{arith}
use lib.Dec.{ltb}
use lib.ListN.{length, length-append}
use Rattle.page.specs.Spelt.{spelt}
use Rattle.page.proofs.Lengths.{length_digits, places_most}
use Rattle.io.specs.Digits.{last_digits}
use Rattle.page.specs.Numbers.{places_from, decimal, six_decimals}
use Rattle.figures.specs.Figures.{limit, too_large, millionths, percent, mean_text, no_share, share_text}

-- of two, the one that is chosen
pub chosen_short : (t : Bool) (a b : List ℕ) (m : ℕ) → length a ≤ m → length b ≤ m → length (cond t a b) ≤ m
chosen_short true a b m p q = p
chosen_short false a b m p q = q

-- twenty digits at most are written
pub decimal_short : (n : ℕ) → length (decimal n) ≤ 20
unfolding decimal
decimal_short n = omega (arith, length_digits 10 (places_from 19 1 n) n, places_most 19 1 n)

pub six_short : (q : ℕ) → length (six_decimals q) ≤ 27
unfolding six_decimals
six_short q = omega (arith, length-append (decimal (q / 10 ^ 6)) (46 ∷ last_digits 10 6 q), length_digits 10 6 q, decimal_short (q / 10 ^ 6))

pub mean_short : (sum count : ℕ) → length (mean_text sum count) ≤ 27
unfolding mean_text
mean_short sum count =
    chosen_short
    (ltb limit sum)
    too_large
    (cond (ltb limit count) too_large (six_decimals (millionths sum count)))
    27
    (omega arith)
    (chosen_short (ltb limit count) too_large (six_decimals (millionths sum count)) 27 (omega arith) (six_short (millionths sum count)))

percent_short : (q : ℕ) → length (decimal q ++ spelt "%") ≤ 21
percent_short q = omega (arith, length-append (decimal q) (spelt "%"), decimal_short q)

pub share_short : (part whole : ℕ) → length (share_text part whole) ≤ 21
unfolding share_text
share_short part whole =
    let text : List ℕ = decimal (percent part whole) ++ spelt "%" in
    chosen_short
    (ltb whole 1)
    no_share
    (cond (ltb limit part) too_large (cond (ltb limit whole) too_large text))
    21
    (omega arith)
    (chosen_short (ltb limit part) too_large (cond (ltb limit whole) too_large text) 21 (omega arith) (chosen_short (ltb limit whole) too_large text 21 (omega arith) (percent_short (percent part whole))))
