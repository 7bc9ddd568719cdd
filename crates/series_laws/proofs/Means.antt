-- That a mean and a share are rounded to the nearest, and that no share of a part passes the whole. Assumes nothing.
use Prim.Native.Nat.{ℕ, ◌+◌, ◌*◌, ◌/◌, ◌≤◌, ◌<◌, max}
use mathlib.Core.Path.{◌≡◌, subst⁻¹}
use native.Mathlib.Nat.{mod-lt, div-add-mod', div-lt_iff_lt-mul}
use native.Mathlib.Omega.{arith}
use Rattle.figures.specs.Figures.{rounded, percent}

-- a quotient is the whole part
whole_part : (x y : ℕ) → 0 < y → (x / y * y ≤ x) × (x < x / y * y + y)
whole_part x y h = (omega (arith, div-add-mod' x y, mod-lt x h), omega (arith, div-add-mod' x y, mod-lt x h))

-- r, of so many parts of one, is the nearest, a half up: r - 1/2 ≤ scale × sum / count < r + 1/2, here times 2 × count. A mean has 10^6 parts, a share 100
pub nearest : (scale sum count : ℕ) → 0 < count
    → (rounded scale sum count * (2 * count) ≤ 2 * scale * sum + count) × (2 * scale * sum + count < rounded scale sum count * (2 * count) + 2 * count)
nearest scale sum count h =
    let one : max count 1 ≡ count = omega arith in
    subst⁻¹
    (λ (t : ℕ). ((2 * scale * sum + t) / (2 * t) * (2 * count) ≤ 2 * scale * sum + count) × (2 * scale * sum + count < (2 * scale * sum + t) / (2 * t) * (2 * count) + 2 * count))
    one
    (whole_part (2 * scale * sum + count) (2 * count) (omega arith))

-- a part is at most 100 percent of its whole
pub share_most : (part whole : ℕ) → part ≤ whole → percent part whole ≤ 100
share_most part whole h =
    let below : percent part whole < 101 = (div-lt_iff_lt-mul {k = 2 * max whole 1} {x = 200 * part + max whole 1} {y = 101} (omega arith)).1 (omega arith) in
    omega (arith, below)
