-- Numbers stored at the front of a list, one after the other. Assumes nothing.
use mathlib.Core.Path.{◌≡◌, sym, ap, ◌∙◌}
use mathlib.Core.List.{List, ◌++◌}
use Prim.Native.Nat.{ℕ, ◌+◌, ◌≤◌, ◌<◌}
use native.Mathlib.Numerals.{add-one}
use native.Mathlib.Omega.{arith}
use lib.ListN.{length, get_or, set, drop}
use lib.Seq.{sets, sets-eq, paste, paste-suc, take-length}

-- as many are stored as there are
pub front_is : (values old : List ℕ) → length values ≤ length old → sets old 0 values ≡ values ++ drop (length values) old
front_is values old h =
    let z : 0 + length values ≡ length values = omega arith in
    sets-eq values old 0 (omega arith) ∙ ap (λ (i : ℕ). values ++ drop i old) z

-- one more is stored, and then all are
pub front_next : (old values : List ℕ) (k : ℕ) (out : List ℕ) → length values ≤ length old → k < length values → out ≡ paste old 0 values k → set out k (get_or values k 0) ≡ paste old 0 values (k + 1)
front_next old values k out h l e =
    let z : k ≡ 0 + k = omega arith in
    rw (e, add-one) (ap (λ (i : ℕ). set (paste old 0 values k) i (get_or values k 0)) z ∙ paste-suc old 0 values k 0 (omega arith) l)

pub front_all : (old values : List ℕ) (k : ℕ) (out : List ℕ) → k ≤ length values → length values ≤ k → out ≡ paste old 0 values k → out ≡ values ++ drop (length values) old
front_all old values k out h l e =
    let same : k ≡ length values = omega arith in
    let z : 0 + length values ≡ length values = omega arith in
    e ∙ rw (same, take-length, z)
