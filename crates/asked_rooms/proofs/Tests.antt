-- Tests one after the other: each law is one way out. Assumes nothing.
use mathlib.Core.Path.{◌≡◌, refl}
use mathlib.Core.Bool.{Bool, true, false, ◌&&◌, cond}
use Prim.Native.Nat.{ℕ, ◌+◌, ◌*◌, ◌≤◌, ◌<◌}
use native.Mathlib.Nat.{mul-le-mul}
use native.Mathlib.Numerals.{add-one}
use native.Mathlib.Omega.{arith}
use borrow.Author.Tests.{ne_eqb}
use lib.Dec.{leb, ltb, eqb}
use Rattle.float.proofs.Classes.{clash}

-- ---- the first fails; the first passes and the rest decides
pub fails : (a b : Bool) → a ≡ false → false ≡ (a && b)
fails a b e = rw e

pub goes_on : (a b r : Bool) → a ≡ true → r ≡ b → r ≡ (a && b)
goes_on a b r e f = rw e f

-- ---- numbers
pub entries : (last n : ℕ) → ltb last n ≡ leb (last + 1) n
entries last n = rw add-one

pub product_fits : (a b : ℕ) → a < 4294967296 → b < 4294967296 → a * b < 18446744073709551616
product_fits a b h k =
    let m : a * b ≤ 4294967295 * 4294967295 = mul-le-mul {n₁ = a} {m₁ = b} {n₂ = 4294967295} {m₂ = 4294967295} (omega arith) (omega arith) in
    omega arith

-- ---- a test that is made where something is used, and passes elsewhere
pub where_used : (u a r : Bool) → u ≡ true → r ≡ a → r ≡ cond u a true
where_used u a r e f = rw e f

pub where_unused : (u a : Bool) → u ≡ false → true ≡ cond u a true
where_unused u a e = rw e

pub used : (u t : Bool) → u ≡ true → cond u t true ≡ true → t ≡ true
used true t e h = h
used false t e h = clash e

-- ---- refusals by number
pub refuses : (r a : ℕ) → r ≡ a → 0 < r → eqb a 0 ≡ false
refuses r a e h = ne_eqb a 0 (λ z. omega arith)

pub none : (r a : ℕ) → r ≡ a → r ≤ 0 → a ≡ 0
none r a e h = omega arith

-- a test passes where its refusal is not given
pub passes : (t : Bool) (n : ℕ) → 0 < n → cond t 0 n ≡ 0 → t ≡ true
passes true n h e = refl
passes false n h e = absurd (let w : ⊥ = omega arith in w)
